-- One more entry of a request: what the step finds, loses and wins.
use Rattle.bb_memory_bump.specs.SharedBumpRule.{IsCounted}
use Rattle.bb_memory_bump_machine.proofs.BumpBounds.{won_grows}
use Rattle.bb_memory_bump_machine.specs.BumpLogs.{BumpEntry, BumpLog, HasPositionFrom, HasPositionUpTo, chunks_won, is_loss, losses_in, seen_in}
use Rattle.bb_memory_bump_machine.specs.BumpMachine.{BumpScene}
use Rattle.bb_memory_traits.specs.Chunk.{Chunk}
use Rattle.std.proofs.Common.{List, [], ap, arith, ℕ, ◌++◌, ◌+◌, ◌∙◌, ◌∷◌, ◌≡◌, ◌≤◌}
use Rattle.std.proofs.lemmas.Grind.{common_steps}
use Rattle.std.specs.Prelude.{if◌then◌else◌, max}

pub losses_more : (tried : BumpLog) (entry : BumpEntry) →
    losses_in (tried ++ entry ∷ []) ≡ losses_in tried + (if is_loss entry.outcome then 1 else 0)
losses_more tried entry = grind (arith, common_steps)

pub counted_more : (scene : BumpScene) (log : BumpLog) (met : ℕ) (tried : BumpLog) (entry : BumpEntry) →
    IsCounted scene log met tried →
    HasPositionFrom (max (seen_in scene log) met) scene.region entry → HasPositionUpTo scene.region.size scene.region entry →
    losses_in tried + (if is_loss entry.outcome then 1 else 0) ≤ scene.region.size →
    IsCounted scene log met (tried ++ entry ∷ [])
counted_more scene log met tried entry counted from up_to few = grind (arith, common_steps)

pub won_then : (tried : BumpLog) (entry : BumpEntry) → chunks_won tried ≡ [] →
    chunks_won (tried ++ entry ∷ []) ≡ chunks_won (entry ∷ [])
won_then tried entry none =
    won_grows tried (entry ∷ []) ∙ ap (λ (won : List Chunk). won ++ chunks_won (entry ∷ [])) none
