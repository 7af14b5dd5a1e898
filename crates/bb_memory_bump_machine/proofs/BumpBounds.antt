-- Positions under clears, and longer logs.
use Rattle.bb_memory_bump_machine.proofs.BumpRuns.{chunk_at-above}
use Rattle.bb_memory_bump_machine.proofs.BumpStretches.{healthy_after}
use Rattle.bb_memory_bump_machine.specs.BumpLogs.{BumpLog, call_after, call_through, chunks_won, greater_of, greatest_in, position_in, won_at}
use Rattle.bb_memory_bump_machine.specs.BumpMachine.{BumpScene, BumpStep, IsInCall, OngoingCall, chunk_at, left_by}
use Rattle.bb_memory_traits.specs.Chunk.{Chunk, Region, chunk_end, region_end}
use Rattle.std.proofs.Common.{List, Option, [], ap, arith, refl, sym, ℕ, ◌++◌, ◌∙◌, ◌∷◌, ◌≡◌, ◌≤◌}
use Rattle.std.proofs.lemmas.Bool.{leb-true}
use Rattle.std.proofs.lemmas.List.{append_assoc}
use Rattle.std.proofs.lemmas.List.Sums.{fold-append}

pub seen_in_size : (scene : BumpScene) (steps : List BumpStep) (party : ℕ) (call : OngoingCall) →
    scene.opening ≤ scene.region.size → IsInCall (left_by scene steps) party call → call.seen ≤ scene.region.size
seen_in_size scene steps party call within is =
    let healthy = healthy_after scene steps within in
    let fit = healthy.fitting party call is in
    let chunk : Chunk = chunk_at scene.region call.seen call.layout in
    let ends = leb-true (chunk_end chunk) (region_end scene.region) fit.fitting in
    omega (arith, ends, chunk_at-above scene.region call.seen call.layout)

pub call_grows : (call : Option OngoingCall) (log more : BumpLog) →
    call_through call (log ++ more) ≡ call_through (call_through call log) more
call_grows call log more = fold-append call_after call log more

pub seen_grows : (region : Region) (seen : ℕ) (log more : BumpLog) →
    greatest_in region seen (log ++ more) ≡ greatest_in region (greatest_in region seen log) more
seen_grows region seen log more =
    fold-append (λ most entry. greater_of most (position_in region entry.outcome)) seen log more

pub won_grows : (log more : BumpLog) → chunks_won (log ++ more) ≡ chunks_won log ++ chunks_won more
won_grows [] more = refl
won_grows (entry ∷ log) more = ap (λ (l : List Chunk). won_at entry.outcome ++ l) (won_grows log more)
    ∙ sym (append_assoc (won_at entry.outcome) (chunks_won log) (chunks_won more))
