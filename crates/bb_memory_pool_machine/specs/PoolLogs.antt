-- The pool machine's histories, its parties' logs, and the calls of the pool object that its steps
-- make.
use Rattle.bb_memory_pool_machine.specs.PoolMachine.{Attach, AttachFrom, Attaches, Detach, DetachedBy, Detaches, FindToken, Flag, Free, GiveBack, GiveBackDetached, Gives, IsFlag, IsInCall, Loses, Misses, NamesMade, Passed, PoolOutcome, PoolScene, PoolState, PoolStep, RefusedAtLoss, Takes, Try, TryAt, left_by, opening_state, pool_step}
use Rattle.bb_memory_traits.specs.Chunk.{Chunk}
use Rattle.bb_memory_traits.specs.Object.{Allocates, IsRun, Releases}
use Rattle.bb_memory_traits.specs.PoolObject.{IsAt, IsHeld, IsWithin, PoolGeometry, bucket_place, chunk_in, pool_object}
pub use Rattle.bb_memory_traits.specs.declared.layout.Layout.{Layout}
use Rattle.std.specs.Prelude.{All, Any, Bool, Contains, List, None, Ok, Option, Some, [], false, filter, fold, if◌then◌else◌, length, map, nat_lt, slice_get, slice_set, take, true, unwrap_or, ℕ, ◌++◌, ◌+◌, ◌<◌, ◌==◌, ◌∷◌, ◌≡◌, ◌≤◌}

-- HISTORIES

-- an entry of a history: a step with its outcome
pub record PoolEntry : Type 0 where
  pub step : PoolStep
  pub outcome : PoolOutcome

-- the entry of a step with this outcome
abbrev pub entry_of : PoolStep → PoolOutcome → PoolEntry
entry_of step outcome = record { step = step; outcome = outcome }

-- a history, or the log of one party: entries in order
abbrev pub PoolLog : Type 0
PoolLog = List PoolEntry

-- the entries of these steps, in order
abbrev pub pool_history : PoolState → List PoolStep → PoolLog
pool_history state [] = []
pool_history state (step ∷ steps) = entry_of step (pool_step state step).outcome ∷ pool_history (pool_step state step).state steps

-- the entries of these steps from the opening
abbrev pub history_of : PoolScene → List PoolStep → PoolLog
history_of scene steps = pool_history (opening_state scene) steps

-- the outcomes of a history's steps, in order
abbrev pub outcomes_of : PoolLog → List PoolOutcome
outcomes_of history = map (λ entry. entry.outcome) history

-- PARTIES

-- the party that takes a step
abbrev pub party_of : PoolStep → ℕ
party_of (Try party) = party
party_of (GiveBack party bucket) = party
party_of (TryAt party bucket) = party
party_of (Detach party bucket) = party
party_of (Attach party bucket) = party
party_of (AttachFrom party bucket from) = party
party_of (FindToken party bucket from) = party
party_of (GiveBackDetached party bucket) = party

-- the step is one of this party's
abbrev pub is_by : ℕ → PoolStep → Bool
is_by party step = party_of step == party

-- a party's own entries of a history, in order
abbrev pub entries_by : ℕ → PoolLog → PoolLog
entries_by party history = filter (λ entry. is_by party entry.step) history

-- the party's own entries of these steps from the opening
abbrev pub log_of : PoolScene → List PoolStep → ℕ → PoolLog
log_of scene steps party = entries_by party (history_of scene steps)

-- BUCKETS AND PASSES IN A LOG

-- True if a party holds the bucket after a step of its own that had this outcome. `held` says
-- whether the party held the bucket before.
abbrev pub held_after : ℕ → Bool → PoolOutcome → Bool
held_after bucket held (Takes other) = if other == bucket then true else held
held_after bucket held (Gives other) = if other == bucket then false else held
held_after bucket held (Detaches other) = if other == bucket then false else held
held_after bucket held (Attaches other) = if other == bucket then true else held
held_after bucket held _ = held

-- a party with this log holds the bucket: it has taken or attached it, and neither given it back
-- nor detached it since
abbrev pub IsHeldAfter : PoolLog → ℕ → Type 0
IsHeldAfter log bucket = fold (λ held entry. held_after bucket held entry.outcome) false log ≡ true

-- a party with this log has detached the bucket at some time
abbrev pub WasDetached : PoolLog → ℕ → Type 0
WasDetached log bucket = Any (λ entry. entry.outcome ≡ Detaches bucket) log

-- the bucket that a pass tries next after an outcome, or None if the party is then idle
abbrev pub pass_after : Option ℕ → PoolOutcome → Option ℕ
pass_after pass (Takes bucket) = None
pass_after pass (Loses bucket) = Some (bucket + 1)
pass_after pass (RefusedAtLoss bucket) = None
pass_after pass _ = pass

-- the bucket that the pass of a party with this log tries next, or None if the party is idle
abbrev pub pass_in : PoolLog → Option ℕ
pass_in log = fold (λ pass entry. pass_after pass entry.outcome) None log

-- the bucket that a party with this log tries next by `Try`: that of its pass, or bucket 0 if the
-- party is idle
abbrev pub next_bucket : PoolLog → ℕ
next_bucket log = unwrap_or (pass_in log) 0

-- the outcome of a loss at a bucket, if there are `buckets` of them
abbrev pub loss_at : ℕ → ℕ → PoolOutcome
loss_at buckets bucket = if nat_lt (bucket + 1) buckets then Loses bucket else RefusedAtLoss bucket

-- FLAGS AND LOGS

-- the flag isn't free
abbrev pub is_taken : Flag → Bool
is_taken Free = false
is_taken _ = true

-- the machine allowed the step that had this outcome
abbrev pub IsAllowed : PoolOutcome → Type 0
IsAllowed Passed = ⊥
IsAllowed _ = Unit {0}

-- the machine allowed each step of this history
abbrev pub AllAllowed : PoolLog → Type 0
AllAllowed history = All (λ entry. IsAllowed entry.outcome) history

-- the party of this number is among `logs`, and its log is this one
abbrev pub HasLog : List PoolLog → ℕ → PoolLog → Type 0
HasLog logs party log = slice_get logs party ≡ Some log

-- Flags and logs agree: there are steps, each allowed, that leave these flags, and in which the
-- entries of each party are exactly its log.
pub record LogsAgree (scene : PoolScene) (flags : List Flag) (logs : List PoolLog) : Type 0 where
  pub steps : List PoolStep
  pub allowed : AllAllowed (history_of scene steps)
  pub leaves : (left_by scene steps).flags ≡ flags
  pub each : (party : ℕ) (log : PoolLog) → HasLog logs party log → log_of scene steps party ≡ log

-- The flag of the bucket may be this one: some steps, each allowed, leave it so. If the flag names
-- a party, the pool has that party.
pub record MayBeFound (scene : PoolScene) (bucket : ℕ) (flag : Flag) : Type 0 where
  pub steps : List PoolStep
  pub allowed : AllAllowed (history_of scene steps)
  pub there : IsFlag (left_by scene steps) bucket flag
  pub made : NamesMade scene.parties flag

-- some party has detached the bucket, by these flags
abbrev pub IsDetachedIn : List Flag → ℕ → Type 0
IsDetachedIn flags bucket = (sender : ℕ) × (slice_get flags bucket ≡ Some (DetachedBy sender))

-- the logs in which this party's log has one more entry
abbrev pub with_entry : List PoolLog → ℕ → PoolLog → PoolEntry → List PoolLog
with_entry logs party log entry = slice_set logs party (log ++ entry ∷ [])

-- An interleaving of a party's log with some logs of the others: steps, each allowed, in which the
-- party's entries are exactly its log.
pub record Interleaving (scene : PoolScene) (party : ℕ) (log : PoolLog) : Type 0 where
  pub steps : List PoolStep
  pub allowed : AllAllowed (history_of scene steps)
  pub logged : log_of scene steps party ≡ log

-- an interleaving of two parties' logs with some logs of the others
pub record CommonInterleaving (scene : PoolScene) (party : ℕ) (log : PoolLog) (other : ℕ) (other_log : PoolLog) : Type 0 where
  pub steps : List PoolStep
  pub allowed : AllAllowed (history_of scene steps)
  pub logged : log_of scene steps party ≡ log
  pub other_logged : log_of scene steps other ≡ other_log

-- CALLS OF THE OBJECT: takings and returns

-- The call of the pool object that a step with this outcome makes; the live list is `old` before it
-- and `new` after it.
abbrev pub PoolCall : PoolGeometry → List Chunk → Layout → PoolOutcome → List Chunk → Type 0
-- a taking is a request for the layout, which gets the bucket's chunk
PoolCall geometry old layout (Takes bucket) new =
    Allocates (pool_object geometry).base old layout (Ok (chunk_in geometry bucket layout)) new
-- a return is the release of the chunk at the bucket's place
PoolCall geometry old layout (Gives bucket) new =
    (position : ℕ) × IsAt old position (bucket_place geometry bucket) × Releases (pool_object geometry).base old position new
-- any other step isn't a call
PoolCall geometry old layout _ new = new ≡ old

-- There is a layout for each step, within the bucket's size and alignment. A taking requests the
-- layout of its step.
pub record AreAsked (geometry : PoolGeometry) (steps : List PoolStep) (layouts : List Layout) : Type 0 where
  pub one_a_step : length layouts ≡ length steps
  pub within : All (IsWithin geometry.bucket) layouts

-- the steps of this history are calls of the object that lead from the list `old` to the list `new`
abbrev pub IsCallRun : PoolGeometry → List Chunk → List Layout → PoolLog → List Chunk → Type 0
IsCallRun geometry old layouts history new = IsRun (PoolCall geometry) old layouts (outcomes_of history) new

-- the takings and returns of the steps from the opening are a run of the pool object, from the
-- empty list to this one
abbrev pub IsPoolRun : PoolScene → List PoolStep → List Layout → List Chunk → Type 0
IsPoolRun scene steps layouts live = IsCallRun scene.geometry [] layouts (history_of scene steps) live

-- REFUSED PASSES, AND MISSES

-- in entry k of the history the party's pass is refused
pub record IsRefusedAt (history : PoolLog) (party k : ℕ) : Type 0 where
  pub bucket : ℕ
  pub there : slice_get history k ≡ Some (entry_of (Try party) (RefusedAtLoss bucket))

-- the outcome is a loss at this bucket, after which the pass goes on or is refused
abbrev pub IsLossAt : ℕ → PoolOutcome → Type 0
IsLossAt bucket (Loses other) = other ≡ bucket
IsLossAt bucket (RefusedAtLoss other) = other ≡ bucket
IsLossAt bucket _ = ⊥

-- entry k of the history is a loss of this bucket by the party
pub record LosesAt (history : PoolLog) (party bucket k : ℕ) : Type 0 where
  pub outcome : PoolOutcome
  pub there : slice_get history k ≡ Some (entry_of (Try party) outcome)
  pub loss : IsLossAt bucket outcome

-- the party is in one pass from step k to the later step `last`: the pass doesn't end between the
-- two
abbrev pub IsOnePass : PoolScene → List PoolStep → ℕ → ℕ → ℕ → Type 0
IsOnePass scene steps party k last =
    (j : ℕ) → k < j → j ≤ last → (bucket : ℕ) × IsInCall (left_by scene (take j steps)) party bucket

-- after these steps the bucket is held in the run, whichever layouts were requested
abbrev pub IsHeldInRun : PoolScene → List PoolStep → ℕ → Type 0
IsHeldInRun scene steps bucket =
    (layouts : List Layout) (live : List Chunk) → IsPoolRun scene steps layouts live → IsHeld scene.geometry live bucket

-- The pass that is refused at step `last` found this bucket held: at some step of the pass the
-- party lost the bucket, which was held then in the run.
pub record FoundHeld (scene : PoolScene) (steps : List PoolStep) (party last bucket : ℕ) : Type 0 where
  pub step : ℕ
  pub before : step ≤ last
  pub one_pass : IsOnePass scene steps party step last
  pub loses : LosesAt (history_of scene steps) party bucket step
  pub held : IsHeldInRun scene (take step steps) bucket

-- DETACHED BUCKETS

-- in entry k of the history the party attaches the bucket from the party `from`
abbrev pub AttachesFromAt : PoolLog → ℕ → ℕ → ℕ → ℕ → Type 0
AttachesFromAt history party bucket from k = slice_get history k ≡ Some (entry_of (AttachFrom party bucket from) (Attaches bucket))

-- in entry k of the history the party misses the bucket that it tries to attach from the party
-- `from`
abbrev pub MissesFromAt : PoolLog → ℕ → ℕ → ℕ → ℕ → Type 0
MissesFromAt history party bucket from k = slice_get history k ≡ Some (entry_of (AttachFrom party bucket from) (Misses bucket))

-- in entry k of the history the party finds a token of the bucket that the party `from` has
-- detached
abbrev pub FindsTokenAt : PoolLog → ℕ → ℕ → ℕ → ℕ → Type 0
FindsTokenAt history party bucket from k = slice_get history k ≡ Some (entry_of (FindToken party bucket from) (Misses bucket))

-- a party with this log has attached the bucket from the party `from` at some time
abbrev pub WasAttachedFrom : PoolLog → ℕ → ℕ → Type 0
WasAttachedFrom log bucket from = (party : ℕ) × Contains log (entry_of (AttachFrom party bucket from) (Attaches bucket))

-- entry k of the history is a miss of this bucket by the party
abbrev pub MissesAt : PoolLog → ℕ → ℕ → ℕ → Type 0
MissesAt history party bucket k = slice_get history k ≡ Some (entry_of (TryAt party bucket) (Misses bucket))

-- The entry is a lost attach: a miss of a bucket that the party tried to attach from a sender. Even
-- the first step of all may be one.
abbrev pub IsLostAttach : PoolEntry → Type 0
IsLostAttach entry = (party : ℕ) × (bucket : ℕ) × (from : ℕ) × (entry ≡ entry_of (AttachFrom party bucket from) (Misses bucket))

-- a party with this log has made a step that isn't a lost attach
abbrev pub HasStepped : PoolLog → Type 0
HasStepped log = Any (λ entry. ¬ IsLostAttach entry) log
