use Rattle.scripts.proofs.words.split_before.Goals as goal
use Rattle.std.proofs.Common.{arith, get_or}
use Rattle.std.proofs.lemmas.Grind.{common_steps}
use Rattle.std.proofs.lemmas.List.{take_more}
use Rattle.std.proofs.lemmas.List.Elements.{All-push, All-same}

pub loop-index-init : goal.loop-index-init
loop-index-init c k d below = absurd (omega (arith, below))

pub loop-index-preserved : goal.loop-index-preserved
loop-index-preserved c = grind (arith, common_steps, get_or, All-same, take_more, All-push)
