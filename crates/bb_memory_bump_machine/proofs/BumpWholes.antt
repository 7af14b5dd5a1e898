-- The position that the logs of all parties determine, and the ends of the chunks in a log.
pub use Rattle.bb_memory_bump_machine.proofs.BumpAllowed.{owner_of}
use Rattle.bb_memory_bump_machine.proofs.BumpAllowed.{first_allowed, parties_stay, rest_allowed}
use Rattle.bb_memory_bump_machine.proofs.BumpPositions.{below_greater, greater_below, seen_below, step_leaves}
use Rattle.bb_memory_bump_machine.proofs.BumpSteps.{step_view}
use Rattle.bb_memory_bump_machine.specs.BumpLogs.{AllAllowed, BumpEntry, BumpLog, HasLog, HasPositionUpTo, LogsAgree, bump_history, chunks_won, entries_by, entry_at, greater_of, greatest_in, is_by, log_of, position_in, seen_in, won_at}
use Rattle.bb_memory_bump_machine.specs.BumpMachine.{BumpOutcome, BumpScene, BumpState, BumpStep, Wins, bump_after, bump_step, opening_state}
use Rattle.bb_memory_traits.specs.Chunk.{Chunk, Region, chunk_end}
use Rattle.std.proofs.Common.{Bool, List, None, Option, Some, [], arith, false, length, subst, sym, true, ℕ, ◌++◌, ◌+◌, ◌<◌, ◌∷◌, ◌≡◌, ◌≤◌}
use Rattle.std.proofs.lemmas.List.{length-replicate}
use Rattle.std.proofs.lemmas.List.Elements.{All-from_recursion}
use Rattle.std.specs.List.{All, AllByRecursion}
use Rattle.std.specs.Prelude.{IfSome, if◌then◌else◌}

-- WHAT A LOG HAS SEEN

pub greater_of-above : (seen : ℕ) (found : Option ℕ) → seen ≤ greater_of seen found
greater_of-above seen None = omega arith
greater_of-above seen (Some position) = omega arith

greatest_in-above : (region : Region) (seen : ℕ) (log : BumpLog) → seen ≤ greatest_in region seen log
greatest_in-above region seen [] = omega arith
greatest_in-above region seen (entry ∷ log) =
    let found = position_in region entry.outcome in
    omega (arith, greater_of-above seen found, greatest_in-above region (greater_of seen found) log)

-- a log has seen the opening
pub opened_below : (scene : BumpScene) (log : BumpLog) → scene.opening ≤ seen_in scene log
opened_below scene log = greatest_in-above scene.region scene.opening log

-- each position in a log is at most the greatest
pub up_to_greatest : (region : Region) (seen bound : ℕ) (log : BumpLog) → greatest_in region seen log ≤ bound →
    AllByRecursion (HasPositionUpTo bound region) log
up_to_greatest region seen bound [] below = tt
up_to_greatest region seen bound (entry ∷ log) below =
    let found = position_in region entry.outcome in (
      below_greater seen bound found (omega (arith, greatest_in-above region (greater_of seen found) log, below)),
      up_to_greatest region (greater_of seen found) bound log below,
    )

won_up_to : (region : Region) (bound : ℕ) (outcome : BumpOutcome) (rest : List Chunk) →
    IfSome (position_in region outcome) (λ position. position ≤ bound) →
    AllByRecursion (λ (chunk : Chunk). chunk_end chunk ≤ region.start + bound) rest →
    AllByRecursion (λ (chunk : Chunk). chunk_end chunk ≤ region.start + bound) (won_at outcome ++ rest)
won_up_to region bound (Wins chunk) rest here more = (omega (arith, here), more)
won_up_to region bound _ rest here more = more

chunks_up_to : (region : Region) (bound : ℕ) (log : BumpLog) → AllByRecursion (HasPositionUpTo bound region) log →
    AllByRecursion (λ (chunk : Chunk). chunk_end chunk ≤ region.start + bound) (chunks_won log)
chunks_up_to region bound [] all = tt
chunks_up_to region bound (entry ∷ log) (here, rest) =
    won_up_to region bound entry.outcome (chunks_won log) here (chunks_up_to region bound log rest)

-- each chunk of a log ends at or before what the log has seen
pub ends_by : (scene : BumpScene) (log : BumpLog) (bound : ℕ) → seen_in scene log ≤ bound →
    All (λ (chunk : Chunk). chunk_end chunk ≤ scene.region.start + bound) (chunks_won log)
ends_by scene log bound below =
    All-from_recursion (λ (chunk : Chunk). chunk_end chunk ≤ scene.region.start + bound) (chunks_won log)
    (chunks_up_to scene.region bound log (up_to_greatest scene.region scene.opening bound log below))

-- ALL LOGS

first_own : (P : BumpEntry → Type 0) (own : Bool) (entry : BumpEntry) (log : BumpLog) → own ≡ true →
    AllByRecursion P (if own then entry ∷ log else log) → P entry
first_own P true entry log is all = all.0
first_own P false entry log is all = absurd (cc)

rest_own : (P : BumpEntry → Type 0) (own : Bool) (entry : BumpEntry) (log : BumpLog) →
    AllByRecursion P (if own then entry ∷ log else log) → AllByRecursion P log
rest_own P true entry log all = all.1
rest_own P false entry log all = all

-- if no log of a party that was made has a greater position, none is left
stays_below : (region : Region) (state : BumpState) (steps : List BumpStep) (bound : ℕ) →
    AllAllowed (bump_history region state steps) → state.position ≤ bound → ((party : ℕ) → party < length state.calls →
    AllByRecursion (HasPositionUpTo bound region) (entries_by party (bump_history region state steps))) →
    (bump_after region state steps).position ≤ bound
stays_below region state [] bound allowed below logs = below
stays_below region state (step ∷ steps) bound allowed below logs =
    let here = first_allowed region state step steps allowed in
    let rest = rest_allowed region state step steps allowed in
    let move = bump_step region state step in
    let view = step_view region state step in
    let entry = entry_at region state step in
    let later = bump_history region move.state steps in
    let owner = owner_of region state step move view here in
    let found = first_own (HasPositionUpTo bound region) (is_by owner.party step) entry (entries_by owner.party later) owner.own
    (logs owner.party owner.there) in
    let leaves = step_leaves region state step move view here in
    let next = greater_below state.position bound (position_in region move.outcome) below found in
    stays_below region move.state steps bound rest (omega (arith, leaves, next))
    (λ party there. rest_own (HasPositionUpTo bound region) (is_by party step) entry (entries_by party later)
    (logs party (omega (arith, there, parties_stay region state step move view))))

-- If every party's log is in the list, the position is at most the opening or the greatest that one
-- of them has seen.
pub whole_bounds : (scene : BumpScene) (position bound : ℕ) (logs : List BumpLog) → LogsAgree scene position logs →
    scene.opening ≤ bound →
    ((party : ℕ) → party < scene.parties → (log : BumpLog) × HasLog logs party log × (seen_in scene log ≤ bound)) →
    position ≤ bound
whole_bounds scene position bound logs agree opened each =
    let state = opening_state scene in
    let made : length state.calls ≡ scene.parties = length-replicate scene.parties None in
    let most = stays_below scene.region state agree.steps bound agree.allowed opened
    (λ party there.
    let log = each party (omega (arith, made, there)) in
    let own : log_of scene agree.steps party ≡ log.0 = agree.each party log.0 log.1 in
    subst (AllByRecursion (HasPositionUpTo bound scene.region)) (sym own)
    (up_to_greatest scene.region scene.opening bound log.0 log.2)) in
    omega (arith, most, agree.leaves)

-- if there is one party, its log has seen exactly the position
pub alone_exact : (scene : BumpScene) (position : ℕ) (logs : List BumpLog) (log : BumpLog) → scene.parties ≡ 1 →
    LogsAgree scene position logs → HasLog logs 0 log → position ≡ seen_in scene log
alone_exact scene position logs log one agree at =
    let most = whole_bounds scene position (seen_in scene log) logs agree (opened_below scene log) (λ party there.
    let first : 0 ≡ party = omega (arith, one, there) in
    (log, subst (λ (p : ℕ). HasLog logs p log) first at, omega arith)) in
    omega (arith, most, seen_below scene position logs 0 log agree at)
