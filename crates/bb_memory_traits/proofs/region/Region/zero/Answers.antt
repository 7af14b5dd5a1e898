use Rattle.bb_memory_traits.proofs.ApartBytes.{apart-kept}
use Rattle.bb_memory_traits.proofs.LiveBytes.{others_kept}
use Rattle.bb_memory_traits.proofs.Written.{written-changes}
use Rattle.bb_memory_traits.proofs.region.Region.zero.Goals as goal
use Rattle.std.proofs.Common.{arith}
use Rattle.std.proofs.lemmas.Grind.{common_steps}
use Rattle.std.specs.Prelude.{replicate}

pub returns-clause-changes : goal.returns-clause-changes
returns-clause-changes c = grind (arith, common_steps, written-changes)

pub returns-clause-apart : goal.returns-clause-apart
returns-clause-apart c = λ other within apart.
    apart-kept c.args.self.now _ c.args.c other (replicate c.args.c.len 0) (returns-clause-changes c) c.requires within apart

pub returns-clause-others : goal.returns-clause-others
returns-clause-others c = λ live i k other sound at.
    others_kept c.args.self.now _ live i k c.args.c other (replicate c.args.c.len 0) sound at (returns-clause-changes c)
