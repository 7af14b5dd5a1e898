-- The bump machine's histories, its parties' logs, and the calls of the bump object that its steps
-- make.
use Rattle.bb_memory_bump_machine.specs.BumpMachine.{BumpOutcome, BumpScene, BumpState, BumpStep, Clear, Cleared, Exchange, Layout, Load, Loaded, Loses, OngoingCall, Passed, Read, RefusedAtLoss, RefusedAtRead, Sees, Wins, bump_step, left_by, opening_state, position_behind}
use Rattle.bb_memory_traits.specs.BumpObject.{StandsFor, bump_object}
use Rattle.bb_memory_traits.specs.Chunk.{Chunk, Region}
use Rattle.bb_memory_traits.specs.Object.{Allocates, appended}
use Rattle.bb_memory_traits.specs.declared.allocator.AllocationError.{AllocationError}
use Rattle.bb_memory_traits.specs.declared.allocator.AllocationError.TheVariants.{OutOfMemory}
use Rattle.std.specs.Prelude.{All, Bool, Err, IfSome, List, None, Ok, Option, Result, Some, [], count_by, false, filter, fold, map, max, option_map, slice_get, slice_set, true, ℕ, ◌++◌, ◌==◌, ◌∷◌, ◌≡◌, ◌≤◌}

-- HISTORIES

-- an entry of a log: a step with its outcome
pub record BumpEntry : Type 0 where
  pub step : BumpStep
  pub outcome : BumpOutcome

-- the entry of this step with this outcome
abbrev pub entry_of : BumpStep → BumpOutcome → BumpEntry
entry_of step outcome = record { step = step; outcome = outcome }

-- the entries of steps in their order: a party's log, or the history of all parties
abbrev pub BumpLog : Type 0
BumpLog = List BumpEntry

-- the entry of a step that is made in this state
abbrev pub entry_at : Region → BumpState → BumpStep → BumpEntry
entry_at region state step = entry_of step (bump_step region state step).outcome

-- the history of these steps, from this state on
abbrev pub bump_history : Region → BumpState → List BumpStep → BumpLog
bump_history region state [] = []
bump_history region state (step ∷ steps) =
    entry_at region state step ∷ bump_history region (bump_step region state step).state steps

-- the history of these steps, from the opening on
abbrev pub history_of : BumpScene → List BumpStep → BumpLog
history_of scene steps = bump_history scene.region (opening_state scene) steps

-- the history of a stretch of steps that follows the steps `before`
abbrev pub stretch_after : BumpScene → List BumpStep → List BumpStep → BumpLog
stretch_after scene before stretch = bump_history scene.region (left_by scene before) stretch

-- the outcomes of a history, in order
abbrev pub outcomes_of : BumpLog → List BumpOutcome
outcomes_of history = map (λ entry. entry.outcome) history

-- the outcome of a step that follows these steps
abbrev pub outcome_after : BumpScene → List BumpStep → BumpStep → BumpOutcome
outcome_after scene steps step = (bump_step scene.region (left_by scene steps) step).outcome

-- PARTIES

-- the step is this party's; a clear belongs to no party
abbrev pub is_by : ℕ → BumpStep → Bool
is_by party (Read other layout) = other == party
is_by party (Exchange other) = other == party
is_by party (Load other) = other == party
is_by party Clear = false

-- a party's own entries of a history, in order
abbrev pub entries_by : ℕ → BumpLog → BumpLog
entries_by party history = filter (λ entry. is_by party entry.step) history

-- the party's log after these steps, from the opening on
abbrev pub log_of : BumpScene → List BumpStep → ℕ → BumpLog
log_of scene steps party = entries_by party (history_of scene steps)

-- CLEARS, WINS AND LOSSES

-- none of these steps is a clear
abbrev pub HasNoClear : List BumpStep → Type 0
HasNoClear [] = Unit {0}
HasNoClear (Clear ∷ steps) = ⊥
HasNoClear (_ ∷ steps) = HasNoClear steps

-- the chunk that an outcome wins, as a list of at most one
abbrev pub won_at : BumpOutcome → List Chunk
won_at (Wins chunk) = chunk ∷ []
won_at _ = []

-- the chunks that were won, in order
abbrev pub chunks_won : BumpLog → List Chunk
chunks_won [] = []
chunks_won (entry ∷ history) = won_at entry.outcome ++ chunks_won history

-- the outcome is that of a lost exchange
abbrev pub is_loss : BumpOutcome → Bool
is_loss (Loses position) = true
is_loss (RefusedAtLoss position) = true
is_loss _ = false

-- the outcome is that of a lost exchange that found this position
abbrev pub IsLossAt : ℕ → BumpOutcome → Type 0
IsLossAt position (Loses found) = found ≡ position
IsLossAt position (RefusedAtLoss found) = found ≡ position
IsLossAt position _ = ⊥

-- the outcome is that of a read that begins a call
abbrev pub is_beginning : BumpOutcome → Bool
is_beginning (Sees position) = true
is_beginning _ = false

-- how many exchanges were lost
abbrev pub losses_in : BumpLog → ℕ
losses_in log = count_by (λ entry. is_loss entry.outcome) log

-- how many reads began a call
abbrev pub calls_begun_in : BumpLog → ℕ
calls_begun_in log = count_by (λ entry. is_beginning entry.outcome) log

-- THE CALL OF A PARTY

-- The call that a party is in after its own step. A read that sees a position begins one. A lost
-- exchange at which the layout fits goes on with it. A win and a refusal end it.
abbrev pub call_left : BumpOutcome → BumpStep → Option OngoingCall → Option OngoingCall
call_left (Sees position) (Read party layout) call = Some (record { layout = layout; seen = position })
call_left (Loses position) step call = option_map (λ ongoing. record { layout = ongoing.layout; seen = position }) call
call_left (Wins chunk) step call = None
call_left (RefusedAtRead position) step call = None
call_left (RefusedAtLoss position) step call = None
call_left _ step call = call

-- the call that a party is in after an entry of its own
abbrev pub call_after : Option OngoingCall → BumpEntry → Option OngoingCall
call_after call entry = call_left entry.outcome entry.step call

-- the call that a party is in after entries of its own
abbrev pub call_through : Option OngoingCall → BumpLog → Option OngoingCall
call_through call log = fold call_after call log

-- the call that a party with this log is in, or None if it is idle
abbrev pub call_in : BumpLog → Option OngoingCall
call_in log = call_through None log

-- POSITIONS THAT A PARTY HAS SEEN

-- the position that a step found; for a win, the position that it made
abbrev pub position_in : Region → BumpOutcome → Option ℕ
position_in region (Sees position) = Some position
position_in region (RefusedAtRead position) = Some position
position_in region (Wins chunk) = Some (position_behind region chunk)
position_in region (Loses position) = Some position
position_in region (RefusedAtLoss position) = Some position
position_in region (Loaded position) = Some position
position_in region _ = None

-- the entry's position, if it has one, is at least `least`
abbrev pub HasPositionFrom : ℕ → Region → BumpEntry → Type 0
HasPositionFrom least region entry = IfSome (position_in region entry.outcome) (λ position. least ≤ position)

-- the entry's position, if it has one, is at most `most`
abbrev pub HasPositionUpTo : ℕ → Region → BumpEntry → Type 0
HasPositionUpTo most region entry = IfSome (position_in region entry.outcome) (λ position. position ≤ most)

-- the greater of two positions, or `seen` if there is no other
abbrev pub greater_of : ℕ → Option ℕ → ℕ
greater_of seen (Some position) = max seen position
greater_of seen None = seen

-- the greatest position in a log, or `seen` if that is greater
abbrev pub greatest_in : Region → ℕ → BumpLog → ℕ
greatest_in region seen log = fold (λ most entry. greater_of most (position_in region entry.outcome)) seen log

-- the position that a party with this log has seen: the greatest one in the log, and at least the
-- opening
abbrev pub seen_in : BumpScene → BumpLog → ℕ
seen_in scene log = greatest_in scene.region scene.opening log

-- AGREEMENT

-- the outcome is that of a party's step that was allowed
abbrev pub IsAllowed : BumpOutcome → Type 0
IsAllowed Passed = ⊥
IsAllowed Cleared = ⊥
IsAllowed _ = Unit {0}

-- each step of a history is a party's, and was allowed
abbrev pub AllAllowed : BumpLog → Type 0
AllAllowed history = All (λ entry. IsAllowed entry.outcome) history

-- the party's log in this list of logs is `log`
abbrev pub HasLog : List BumpLog → ℕ → BumpLog → Type 0
HasLog logs party log = slice_get logs party ≡ Some log

-- The logs and the position agree: some list of steps, each a party's and allowed, leaves the
-- position, and leaves each party its log.
pub record LogsAgree (scene : BumpScene) (position : ℕ) (logs : List BumpLog) : Type 0 where
  pub steps : List BumpStep
  pub allowed : AllAllowed (history_of scene steps)
  pub leaves : (left_by scene steps).position ≡ position
  pub each : (party : ℕ) (log : BumpLog) → HasLog logs party log → log_of scene steps party ≡ log

-- the logs after a party, whose log was `log`, has made one more step
abbrev pub with_entry : List BumpLog → ℕ → BumpLog → BumpEntry → List BumpLog
with_entry logs party log entry = slice_set logs party (log ++ entry ∷ [])

-- An interleaving of this party's log with some logs of the others: some list of allowed steps
-- leaves the party this log, and leaves this position.
pub record Interleaving (scene : BumpScene) (party : ℕ) (log : BumpLog) (position : ℕ) : Type 0 where
  pub steps : List BumpStep
  pub allowed : AllAllowed (history_of scene steps)
  pub leaves : (left_by scene steps).position ≡ position
  pub logged : log_of scene steps party ≡ log

-- An interleaving of the two parties' logs with some logs of the others, which leaves this
-- position.
pub record CommonInterleaving (scene : BumpScene) (party : ℕ) (log : BumpLog) (other : ℕ)
    (other_log : BumpLog) (position : ℕ) : Type 0 where
  pub steps : List BumpStep
  pub allowed : AllAllowed (history_of scene steps)
  pub leaves : (left_by scene steps).position ≡ position
  pub logged : log_of scene steps party ≡ log
  pub other_logged : log_of scene steps other ≡ other_log

-- CALLS OF THE OBJECT

-- a call of the bump object: a request for a layout with its answer, or a clear
pub data BumpCall : Type 0 where
  Allocate : (layout : Layout) → (answer : Result Chunk AllocationError) → BumpCall
  ClearAll : BumpCall

-- On the live list `old` the bump object may make this call, and `new` is the live list afterwards.
-- After a clear the list is empty, even if it was empty before.
abbrev pub CallStep : Region → List Chunk → BumpCall → List Chunk → Type 0
CallStep region old (Allocate layout answer) new = Allocates (bump_object region) old layout answer new
CallStep region old ClearAll new = new ≡ []

-- the calls, one after another, are a run of the bump object from the live list `old` to `new`
abbrev pub IsCallRun : Region → List Chunk → List BumpCall → List Chunk → Type 0
IsCallRun region old [] new = new ≡ old
IsCallRun region old (call ∷ calls) new = (mid : List Chunk) × CallStep region old call mid × IsCallRun region mid calls new

-- the live list after these calls: a request appends its chunk, and a clear empties the list
abbrev pub left_by_calls : List Chunk → List BumpCall → List Chunk
left_by_calls live [] = live
left_by_calls live (Allocate layout answer ∷ calls) = left_by_calls (appended live answer) calls
left_by_calls live (ClearAll ∷ calls) = left_by_calls [] calls

-- DECIDING STEPS

-- the layout of a party's call, if the party is in one
abbrev pub layout_in : Option (Option OngoingCall) → Option Layout
layout_in (Some (Some call)) = Some call.layout
layout_in _ = None

-- the layout that a step is about: a read's own, or that of the call that an exchange's party is in
abbrev pub asked_by : BumpState → BumpStep → Option Layout
asked_by state (Read party layout) = Some layout
asked_by state (Exchange party) = layout_in (slice_get state.calls party)
asked_by state _ = None

-- The call of the object that a step decides: a request at a win and at a refusal, a clear at a
-- clear, and none at other steps.
abbrev pub decided : BumpOutcome → Option Layout → List BumpCall
decided (Wins chunk) (Some layout) = Allocate layout (Ok chunk) ∷ []
decided (RefusedAtRead position) (Some layout) = Allocate layout (Err OutOfMemory) ∷ []
decided (RefusedAtLoss position) (Some layout) = Allocate layout (Err OutOfMemory) ∷ []
decided Cleared asked = ClearAll ∷ []
decided _ asked = []

-- the calls that these steps decide, in order, from this state on
abbrev pub bump_calls : Region → BumpState → List BumpStep → List BumpCall
bump_calls region state [] = []
bump_calls region state (step ∷ steps) = decided (bump_step region state step).outcome (asked_by state step)
    ++ bump_calls region (bump_step region state step).state steps

-- the calls that these steps decide, in order, from the opening on
abbrev pub calls_of : BumpScene → List BumpStep → List BumpCall
calls_of scene steps = bump_calls scene.region (opening_state scene) steps

-- the calls that a stretch of steps decides which follows the steps `before`
abbrev pub calls_after : BumpScene → List BumpStep → List BumpStep → List BumpCall
calls_after scene before stretch = bump_calls scene.region (left_by scene before) stretch

-- the position at the opening stands for this live list
abbrev pub OpensWith : BumpScene → List Chunk → Type 0
OpensWith scene live = StandsFor scene.region scene.opening live

-- the object's live list after these steps, if it is `live` at the opening
abbrev pub live_after : BumpScene → List Chunk → List BumpStep → List Chunk
live_after scene live steps = left_by_calls live (calls_of scene steps)
