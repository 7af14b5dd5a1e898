use Rattle.bb_memory_traits.proofs.ApartBytes.{apart-kept, extended-bytes}
use Rattle.bb_memory_traits.proofs.LiveBytes.{contents_given, contents_set, others_kept}
use Rattle.bb_memory_traits.proofs.Written.{written-changes}
use Rattle.bb_memory_traits.proofs.region.Region.write.Goals as goal
use Rattle.std.proofs.Common.{arith}
use Rattle.std.proofs.lemmas.Grind.{common_steps}

pub returns-clause-changes : goal.returns-clause-changes
returns-clause-changes c = grind (arith, common_steps, written-changes)

pub returns-clause-apart : goal.returns-clause-apart
returns-clause-apart c = λ other within apart.
    apart-kept c.args.self.now _ c.args.c other c.args.bytes.now (returns-clause-changes c) c.requires.inside within apart

pub returns-clause-others : goal.returns-clause-others
returns-clause-others c = λ live i k other sound at.
    others_kept c.args.self.now _ live i k c.args.c other c.args.bytes.now sound at (returns-clause-changes c)

pub returns-clause-contents : goal.returns-clause-contents
returns-clause-contents c = λ live i sound at.
    contents_set c.args.self.now _ live i c.args.c c.args.bytes.now sound at (returns-clause-changes c)

pub returns-clause-given : goal.returns-clause-given
returns-clause-given c = λ live sound.
    contents_given c.args.self.now _ live c.args.c c.args.bytes.now sound (returns-clause-changes c)

pub returns-clause-extended : goal.returns-clause-extended
returns-clause-extended c = λ place n.
    extended-bytes c.args.self.now _ place n c.args.c c.args.bytes.now c.requires.inside (returns-clause-changes c)
