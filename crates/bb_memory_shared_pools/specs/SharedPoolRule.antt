-- The rule of a shared pool's words, the meaning of its seats and fields, and the effect of each step on a word on the seat
-- that makes it.
use Rattle.atomic_table.specs.Seated.{TableId}
use Rattle.atomic_table.specs.Table.{Me, State, Step}
use Rattle.bb_memory_pool_machine.specs.PoolLogs.{CommonInterleaving, Interleaving, IsDetachedIn, IsHeldAfter, LogsAgree, MayBeFound, PoolEntry, PoolLog, entry_of, loss_at, pass_in}
use Rattle.bb_memory_pool_machine.specs.PoolMachine.{PoolScene}
use Rattle.bb_memory_pool_machine.specs.declared.hint.Hint.{Hint}
use Rattle.bb_memory_pool_machine.specs.declared.steps.pool.Flag.{Flag}
use Rattle.bb_memory_pool_machine.specs.declared.steps.pool.Flag.TheVariants.{DetachedBy, HeldBy}
use Rattle.bb_memory_pool_machine.specs.declared.steps.pool.PoolOutcome.TheVariants.{Takes}
use Rattle.bb_memory_pool_machine.specs.declared.steps.pool.PoolStep.TheVariants.{Try}
use Rattle.bb_memory_seats.specs.Seats.{AreSeated, HaveLogs, IsAt, Numbered, View, alone, alone_with, carrying, fresh_from, number_of, numbered, standing_for, times_detached, times_in, view_log}
use Rattle.bb_memory_shared_pools.specs.FlagWords.{HasToken, as_word, bucket_of, flag_in, flags_in, sender_in, words_for, words_of}
use Rattle.bb_memory_shared_pools.specs.SharedPool.{AreAllHeldAfter, IsMissFrom, IsSharedScene, PoolParty, SharedPool, attach_entry, attach_from_entry, detach_entry, return_detached_entry, return_entry, return_from_entries, scene_at, taking_pass}
use Rattle.bb_memory_shared_pools.specs.SharedPoolNextFit.{hint_in, miss_at, misses, probed, taking_at, taking_search}
use Rattle.bb_memory_traits.specs.Chunk.{IsRegion, region_at}
use Rattle.bb_memory_traits.specs.PoolObject.{pool_geometry}
use Rattle.bb_memory_traits.specs.declared.layout.Layout.{Layout}
use Rattle.std.specs.Prelude.{Bool, IsFalse, IsTrue, List, MatchBool, None, Some, [], length, slice_get, ℕ, ◌++◌, ◌<◌, ◌↔◌, ◌∷◌, ◌≡◌, ◌≢◌, ◌≤◌}
use mathlib.Core.Path.{refl}
use native.Mathlib.Nat.{zero-lt-suc}

-- SEATS

-- a party's number with its log
abbrev pub NumberedLog : Type 0
NumberedLog = Numbered PoolEntry

-- the number and the log of a party
abbrev pub numbered_of : PoolParty → NumberedLog
numbered_of party = numbered party.number party.log

-- the view of a seat in a pool's table: the scene, the parties for which the seat stands, and the buckets detached at it
abbrev pub SeatView : Type 0
SeatView = View PoolScene PoolEntry

-- the pool of a seat in this table
abbrev pub pool_in : TableId → SeatView → SharedPool
pool_in table view = record { table = table; scene = view.scene }

-- the party of this number for which a seat in this table stands
abbrev pub party_in : TableId → ℕ → SeatView → PoolParty
party_in table number view = record {
  allocator = pool_in table view;
  number = number;
  log = view_log view;
}

-- the party of this pool with this number and log
abbrev pub of_pool : SharedPool → NumberedLog → PoolParty
of_pool pool party = record { allocator = pool; number = party.number; log = party.log }

-- the seat stands only for this party, and some interleaving has its log
pub record IsSeatOf (scene : PoolScene) (number : ℕ) (log : PoolLog) (me : Me ℕ SeatView) : Type 0 where
  pub is : me ≡ (alone scene number log, [])
  pub interleaved : Interleaving scene number log

-- the seat stands only for this party, which is in no pass
pub record IsSeatOfIdle (scene : PoolScene) (number : ℕ) (log : PoolLog) (me : Me ℕ SeatView) : Type 0 where
  pub seat : IsSeatOf scene number log me
  pub idle : pass_in log ≡ None

-- The seat of a party between two calls: the party is in no pass, its number is one of the pool's, and its hint is the one that
-- its log makes.
pub record IsPartySeat (number : ℕ) (hint : Hint) (me : Me ℕ SeatView) : Type 0 where
  pub seat : IsSeatOfIdle me.0.scene number (view_log me.0) me
  pub below : number < me.0.scene.parties
  pub shared : IsSharedScene me.0.scene
  pub next_fit : hint ≡ hint_in me.0.scene number (view_log me.0)

-- the seat stands for no party, and this bucket is detached there, with a chunk of `len` bytes
pub record IsDetachedSeat (bucket len : ℕ) (me : Me ℕ SeatView) : Type 0 where
  pub is : me ≡ (carrying me.0.scene bucket, [])
  pub below : bucket < me.0.scene.geometry.buckets
  pub short : len ≤ me.0.scene.geometry.bucket.size

-- the seat is one of this pool's table, and stands for one party
abbrev pub IsSeatAt : SharedPool → TableId → Me ℕ SeatView → Type 0
IsSeatAt pool here me = IsAt pool.table here (IsSeatOf pool.scene (number_of me.0) (view_log me.0) me)

-- the seat is one of this pool's table, and stands for one party, which is in no pass
abbrev pub IsIdleAt : SharedPool → TableId → Me ℕ SeatView → Type 0
IsIdleAt pool here me = IsAt pool.table here (IsSeatOfIdle pool.scene (number_of me.0) (view_log me.0) me)

-- the seat is one of this pool's table, and stands for any number of parties
abbrev pub StandsAt : SharedPool → TableId → Me ℕ SeatView → Type 0
StandsAt pool here me = IsAt pool.table here (me ≡ (standing_for pool.scene me.0.parties, []))

-- the party for which the seat stands holds this bucket of the pool
pub record IsHeldAt (pool : SharedPool) (me : Me ℕ SeatView) (bucket : ℕ) : Type 0 where
  pub held : IsHeldAfter (view_log me.0) bucket
  pub below : bucket < pool.scene.geometry.buckets

-- the seat is one of this pool's table, stands for no party, and this bucket is detached there
pub record IsDetachedAt (pool : SharedPool) (here : TableId) (me : Me ℕ SeatView) (bucket : ℕ) : Type 0 where
  pub at : IsAt pool.table here (me ≡ (carrying pool.scene bucket, []))
  pub below : bucket < pool.scene.geometry.buckets

-- THE RULE

-- The mark of each bucket that some view has as detached says so, with a token, and no bucket is detached in two views. So a
-- bucket that is detached without a token is in no view.
pub record AreDetached (marks : List Flag) (views : List SeatView) : Type 0 where
  pub each : (bucket : ℕ) → 0 < times_detached bucket views → HasToken marks bucket
  pub once : (bucket : ℕ) → times_detached bucket views ≤ 1

-- The rule: there is a log for each party, and these logs agree with the flags that the words encode. No word encodes anything
-- else. Each party is in exactly one view, with its log. The view of a dropped party stays, and so does that of a detached
-- bucket.
pub record WordsAndLogsAgree (scene : PoolScene) (state : State ℕ SeatView) : Type 0 where
  pub marks : List Flag
  pub logs : List PoolLog
  pub agree : LogsAgree scene (flags_in marks) logs
  pub words : state.words ≡ words_of marks
  pub one_a_party : length logs ≡ scene.parties
  pub seated : AreSeated scene.parties logs state.views
  pub detached : AreDetached marks state.views

-- the table has exactly the words that the flags of the scene's buckets take
pub record HasWords (table : TableId) (scene : PoolScene) : Type 0 where
  pub words : table.words ≡ words_for scene.geometry.buckets

-- the buckets lie in a region, and are at most `most` if the type has such a constant (`capped` is 1)
pub record IsSharedPool (capped most : ℕ) (scene : PoolScene) : Type 0 where
  pub is_region : IsRegion scene.geometry.region
  pub shared : IsSharedScene scene
  pub within : capped ≡ 1 → scene.geometry.buckets ≤ most

-- the view of the first seat, which stands for all parties
abbrev pub all_parties : PoolScene → SeatView
all_parties scene = standing_for scene (fresh_from 0 scene.parties)

-- the layout of no bytes, at any place
pub no_bytes : Layout
unfolding lib.Count.ones
no_bytes = record {
  size = 0;
  align = 1;
  valid = record {
    power_of_two = refl;
    positive = zero-lt-suc 0;
    fits = zero-lt-suc 9223372036854775807;
  };
}

-- a view that stands for no party, of a scene without buckets: the view of a seat after it joined another one
abbrev pub nobody : SeatView
nobody = standing_for (scene_at (pool_geometry (region_at 0 0) no_bytes 0) 0) []

-- STEPS

-- an exchange of a party in a pass took this bucket, which the party didn't hold, and the log has the step
pub record AfterTryWin (scene : PoolScene) (number : ℕ) (log : PoolLog) (bucket : ℕ) (new : Me ℕ SeatView) : Type 0 where
  pub seat : IsSeatOf scene number (log ++ entry_of (Try number) (Takes bucket) ∷ []) new
  pub free : ¬ IsHeldAfter log bucket

-- An exchange of a party in a pass lost at this bucket, and the log has the step. If the party is the pool's only one, it holds
-- the bucket.
pub record AfterTryLoss (scene : PoolScene) (number : ℕ) (log : PoolLog) (bucket : ℕ) (new : Me ℕ SeatView) : Type 0 where
  pub seat : let loss = loss_at scene.geometry.buckets bucket in
      IsSeatOf scene number (log ++ entry_of (Try number) loss ∷ []) new
  pub held : scene.parties ≡ 1 → IsHeldAfter log bucket

-- an exchange of a party in a pass, which found this word: it took the bucket if the word is 0, and otherwise lost
abbrev pub AfterTry : PoolScene → ℕ → PoolLog → ℕ → ℕ → Me ℕ SeatView → Type 0
AfterTry scene number log bucket found new =
    (found ≡ 0 → AfterTryWin scene number log bucket new) × (found ≢ 0 → AfterTryLoss scene number log bucket new)

-- after a call that added these entries to the party's log: the party is in no pass
abbrev pub AfterCall : PoolScene → ℕ → PoolLog → PoolLog → Me ℕ SeatView → Type 0
AfterCall scene number log added new = IsSeatOfIdle scene number (log ++ added) new

-- a step of an idle party, with this entry, took, attached or gave back this bucket, which the party didn't hold
pub record AfterGain (scene : PoolScene) (number : ℕ) (log step : PoolLog) (bucket : ℕ) (new : Me ℕ SeatView) : Type 0 where
  pub ended : AfterCall scene number log step new
  pub free : ¬ IsHeldAfter log bucket

-- an idle party missed the bucket. If the party is the pool's only one, it holds the bucket
pub record AfterMiss (scene : PoolScene) (number : ℕ) (log : PoolLog) (bucket : ℕ) (new : Me ℕ SeatView) : Type 0 where
  pub ended : AfterCall scene number log (miss_at number bucket) new
  pub held : scene.parties ≡ 1 → IsHeldAfter log bucket

-- a probe of a bucket by an idle party, which took the bucket or missed it, as `told` says
abbrev pub AfterProbe : PoolScene → ℕ → PoolLog → ℕ → Me ℕ SeatView → Bool → Type 0
AfterProbe scene number log bucket new told = MatchBool told
    (AfterGain scene number log (taking_at number bucket) bucket new) (AfterMiss scene number log bucket new)

-- an exchange of an idle party, which found this word: it took the bucket if the word is 0, and otherwise missed it
abbrev pub AfterTryAt : PoolScene → ℕ → PoolLog → ℕ → ℕ → Me ℕ SeatView → Type 0
AfterTryAt scene number log bucket found new = (found ≡ 0 → AfterGain scene number log (taking_at number bucket) bucket new)
    × (found ≢ 0 → AfterMiss scene number log bucket new)

-- An exchange of an idle party took the bucket, which the party didn't hold, and detached it: the log has both steps. The seat
-- `between` has only the first of them.
pub record AfterSending (scene : PoolScene) (number : ℕ) (log : PoolLog) (bucket : ℕ) (new : Me ℕ SeatView) : Type 0 where
  pub between : Me ℕ SeatView
  pub taken : AfterGain scene number log (taking_at number bucket) bucket between
  pub ended : AfterCall scene number (view_log between.0) (detach_entry number bucket) new

-- a probe of a bucket by an idle party, which took and detached the bucket or missed it, as `told` says
abbrev pub AfterSendingProbe : PoolScene → ℕ → PoolLog → ℕ → Me ℕ SeatView → Bool → Type 0
AfterSendingProbe scene number log bucket new told =
    MatchBool told (AfterSending scene number log bucket new) (AfterMiss scene number log bucket new)

-- an exchange of an idle party, which found this word: it took and detached the bucket if the word is 0, and otherwise missed it
abbrev pub AfterSendAt : PoolScene → ℕ → PoolLog → ℕ → ℕ → Me ℕ SeatView → Type 0
AfterSendAt scene number log bucket found new = (found ≡ 0 → AfterSending scene number log bucket new)
    × (found ≢ 0 → AfterMiss scene number log bucket new)

-- An idle party's load of a flag, which found this word. If the flag is taken, the load is a miss. If it is free, the load is
-- in no log, and the party is unchanged.
abbrev pub AfterLook : PoolScene → ℕ → PoolLog → ℕ → ℕ → Me ℕ SeatView → Type 0
AfterLook scene number log bucket found new =
    (found ≡ 0 → IsSeatOfIdle scene number log new) × (found ≢ 0 → AfterMiss scene number log bucket new)

-- A load of a flag, which changes nothing: the party holds the bucket exactly if the word that was found names it as the holder.
abbrev pub AfterHolderLoad : PoolScene → ℕ → PoolLog → ℕ → ℕ → Me ℕ SeatView → Type 0
AfterHolderLoad scene number log bucket found new =
    (new ≡ (alone scene number log, [])) × ((found ≡ as_word (HeldBy number)) ↔ IsHeldAfter log bucket)

-- a party gave back this bucket by a store of free, and the log has the step
abbrev pub AfterReturn : PoolScene → ℕ → PoolLog → ℕ → Me ℕ SeatView → Type 0
AfterReturn scene number log bucket new = IsSeatOf scene number (log ++ return_entry number bucket) new

-- a party detached this bucket, which is then detached at the party's seat, and the log has the step
pub record AfterDetach (scene : PoolScene) (number : ℕ) (log : PoolLog) (bucket : ℕ) (new : Me ℕ SeatView) : Type 0 where
  pub is : let longer : PoolLog = log ++ detach_entry number bucket in new ≡ (alone_with scene number longer bucket, [])
  pub interleaved : Interleaving scene number (log ++ detach_entry number bucket)

-- a party detached this bucket, which isn't at the party's seat, and the log has the step
abbrev pub AfterDetachSplit : PoolScene → ℕ → PoolLog → ℕ → Me ℕ SeatView → Type 0
AfterDetachSplit scene number log bucket new = IsSeatOf scene number (log ++ detach_entry number bucket) new

-- A load by a seat that stands for these parties: there are flags that agree with a log for each of the pool's parties. The logs
-- of these parties are among them, and no two of these parties are the same.
pub record AfterMeetingLoad (scene : PoolScene) (parties : List NumberedLog) : Type 0 where
  pub flags : List Flag
  pub logs : List PoolLog
  pub agree : LogsAgree scene flags logs
  pub one_a_party : length logs ≡ scene.parties
  pub theirs : HaveLogs scene.parties logs parties
  pub once : (number : ℕ) → number < scene.parties → times_in number parties ≤ 1

-- a load by a seat that stands for these parties found that the bucket is detached: flags that agree with their logs say so
abbrev pub FoundDetached : PoolScene → List NumberedLog → ℕ → Type 0
FoundDetached scene parties bucket = (met : AfterMeetingLoad scene parties) × IsDetachedIn met.flags bucket

-- a load by a seat that stands for these parties found that the bucket is not detached
abbrev pub FoundOther : PoolScene → List NumberedLog → ℕ → Type 0
FoundOther scene parties bucket = (met : AfterMeetingLoad scene parties) × (¬ IsDetachedIn met.flags bucket)

-- A load of the flag of this bucket by a seat that stands for these parties, which found this word. Among the flags that agree
-- with the parties' logs, the bucket's is the one that the word encodes.
pub record AfterMeetingLook (scene : PoolScene) (parties : List NumberedLog) (bucket found : ℕ) : Type 0 where
  pub met : AfterMeetingLoad scene parties
  pub mark : Flag
  pub word : found ≡ as_word mark
  pub there : slice_get met.flags bucket ≡ Some (flag_in mark)

-- Loads of all flags by a seat that stands for these parties, up to the first one of a detached bucket: `told` says whether there
-- is one.
pub record AfterMeetingLooks (scene : PoolScene) (parties : List NumberedLog) (told : Bool) : Type 0 where
  pub detached : IsTrue told → (bucket : ℕ) × FoundDetached scene parties bucket
  pub none : IsFalse told → (bucket : ℕ) → bucket < scene.geometry.buckets → FoundOther scene parties bucket

-- a meeting of two parties: they are different parties, no bucket is held by both, and one interleaving has both logs
pub record AfterMeeting (scene : PoolScene) (number : ℕ) (log : PoolLog) (other : ℕ) (other_log : PoolLog) : Type 0 where
  pub differ : number ≢ other
  pub apart : (bucket : ℕ) → IsHeldAfter log bucket → ¬ IsHeldAfter other_log bucket
  pub interleaved : CommonInterleaving scene number log other other_log

-- an idle party missed the bucket that it tried to attach from the party `from`
pub record AfterMissFrom (scene : PoolScene) (number : ℕ) (log : PoolLog) (bucket from : ℕ) (new : Me ℕ SeatView) : Type 0 where
  pub step : PoolLog
  pub miss : IsMissFrom number bucket from step
  pub ended : AfterCall scene number log step new

-- An idle party's exchange from the word "detached by `from`" to another, which found this word. If it found that word, the
-- party's log has the entries of `won`. Otherwise the party missed the bucket.
abbrev pub AfterNumber : (ℕ → ℕ → ℕ → PoolLog) → ℕ → PoolScene → ℕ → PoolLog → ℕ → ℕ → Me ℕ SeatView → Type 0
AfterNumber won from scene number log bucket found new =
    (found ≡ as_word (DetachedBy from) → AfterGain scene number log (won number bucket from) bucket new)
    × (found ≢ as_word (DetachedBy from) → AfterMissFrom scene number log bucket from new)

-- The effect of a step at a flag, by scene, party, log, bucket, the word that was found, and the seat afterwards.
abbrev pub StepEffect : Type 1
StepEffect = PoolScene → ℕ → PoolLog → ℕ → ℕ → Me ℕ SeatView → Type 0

-- the effect of a step at this bucket by the party of this seat
abbrev pub effect_of : StepEffect → Me ℕ SeatView → ℕ → ℕ → Me ℕ SeatView → Type 0
effect_of tells me bucket found new = tells me.0.scene (number_of me.0) (view_log me.0) bucket found new

-- the effect of a step at the bucket of its word, as the table knows the step
abbrev pub at_flag : StepEffect → Step ℕ → Me ℕ SeatView → ℕ → Me ℕ SeatView → Type 0
at_flag tells step old = effect_of tells old (bucket_of step.word)

-- a store of free by the party that gives back a bucket
abbrev pub returns : Step ℕ → Me ℕ SeatView → ℕ → Me ℕ SeatView → Type 0
returns step old found new = AfterReturn old.0.scene (number_of old.0) (view_log old.0) (bucket_of step.word) new

-- a load, which changes nothing, by a seat that stands for any number of parties
abbrev pub meets : Step ℕ → Me ℕ SeatView → ℕ → Me ℕ SeatView → Type 0
meets step old found new = (new ≡ old) × AfterMeetingLoad old.0.scene old.0.parties

-- a load, which changes nothing, of a bucket's flag by a seat that stands for any number of parties
abbrev pub looks_met : Step ℕ → Me ℕ SeatView → ℕ → Me ℕ SeatView → Type 0
looks_met step old found new = (new ≡ old) × AfterMeetingLook old.0.scene old.0.parties (bucket_of step.word) found

-- a load of a flag by a new seat, which stands for no party, and what flag was found
abbrev pub finds : Step ℕ → Me ℕ SeatView → ℕ → Me ℕ SeatView → Type 0
finds step old found new =
    (mark : Flag) × (found ≡ as_word mark) × MayBeFound old.0.scene (bucket_of step.word) (flag_in mark)

-- a store by the party that detaches a bucket with a token
abbrev pub detaches : Step ℕ → Me ℕ SeatView → ℕ → Me ℕ SeatView → Type 0
detaches step old found new = AfterDetach old.0.scene (number_of old.0) (view_log old.0) (bucket_of step.word) new

-- a store by the party that detaches a bucket without a token
abbrev pub detaches_number : Step ℕ → Me ℕ SeatView → ℕ → Me ℕ SeatView → Type 0
detaches_number step old found new = AfterDetachSplit old.0.scene (number_of old.0) (view_log old.0) (bucket_of step.word) new

-- an exchange by an idle party of the word of a bucket that is detached without a token, for the party's own
abbrev pub attaches_number : Step ℕ → Me ℕ SeatView → ℕ → Me ℕ SeatView → Type 0
attaches_number step old = effect_of (AfterNumber attach_from_entry (sender_in step.first)) old (bucket_of step.word)

-- an exchange by an idle party of the word of a bucket that is detached without a token, for that of a free one
abbrev pub returns_number : Step ℕ → Me ℕ SeatView → ℕ → Me ℕ SeatView → Type 0
returns_number step old = effect_of (AfterNumber return_from_entries (sender_in step.first)) old (bucket_of step.word)

-- a store by an idle party, which attaches the bucket that is detached at its seat
abbrev pub attaches : Step ℕ → Me ℕ SeatView → ℕ → Me ℕ SeatView → Type 0
attaches step old found new =
    let bucket = bucket_of step.word in
    AfterGain old.0.scene (number_of old.0) (view_log old.0) (attach_entry (number_of old.0) bucket) bucket new

-- a store of free by an idle party, which gives back the bucket that is detached at its seat
abbrev pub returns_detached : Step ℕ → Me ℕ SeatView → ℕ → Me ℕ SeatView → Type 0
returns_detached step old found new =
    let bucket = bucket_of step.word in
    AfterGain old.0.scene (number_of old.0) (view_log old.0) (return_detached_entry (number_of old.0) bucket) bucket new

-- REQUESTS

-- a pass took this bucket, which the party didn't hold
pub record AfterPassWin (scene : PoolScene) (number : ℕ) (log : PoolLog) (new : Me ℕ SeatView) (bucket : ℕ) : Type 0 where
  pub ended : AfterCall scene number log (taking_pass scene.geometry.buckets number bucket) new
  pub below : bucket < scene.geometry.buckets
  pub free : ¬ IsHeldAfter log bucket

-- a refused request, which added these entries. If the party is the pool's only one, it holds all buckets
pub record AfterRefusal (scene : PoolScene) (number : ℕ) (log refusal : PoolLog) (new : Me ℕ SeatView) : Type 0 where
  pub ended : AfterCall scene number log refusal new
  pub held : scene.parties ≡ 1 → AreAllHeldAfter log scene.geometry.buckets

-- a search at this probe: the party has missed the buckets of all earlier probes, and holds them if it is the pool's only one
pub record IsInSearch (scene : PoolScene) (number : ℕ) (log : PoolLog) (first probe : ℕ) (me : Me ℕ SeatView) : Type 0 where
  pub ended : AfterCall scene number log (misses scene.geometry.buckets number first probe) me
  pub held : scene.parties ≡ 1 → (earlier : ℕ) → earlier < probe → IsHeldAfter log (probed scene.geometry.buckets first earlier)

-- a search took this bucket at some probe, and the party didn't hold it
pub record AfterSearchWin (scene : PoolScene) (number : ℕ) (log : PoolLog) (first : ℕ)
    (new : Me ℕ SeatView) (bucket : ℕ) : Type 0 where
  pub probe : ℕ
  pub before_end : probe < scene.geometry.buckets
  pub there : probed scene.geometry.buckets first probe ≡ bucket
  pub ended : AfterCall scene number log (taking_search scene.geometry.buckets number first probe) new
  pub below : bucket < scene.geometry.buckets
  pub free : ¬ IsHeldAfter log bucket

-- a search took this bucket at some probe, and detached it by the same exchange. The seat `between` has no step after the taking
pub record AfterSearchSending (scene : PoolScene) (number : ℕ) (log : PoolLog) (first : ℕ)
    (new : Me ℕ SeatView) (bucket : ℕ) : Type 0 where
  pub between : Me ℕ SeatView
  pub taken : AfterSearchWin scene number log first between bucket
  pub ended : AfterCall scene number (view_log between.0) (detach_entry number bucket) new
