use Rattle.bb_memory_bump.proofs.shared_bump.SharedBumpAllocator.meet.Goals as goal
use Rattle.bb_memory_bump.specs.SharedBump.{HaveChunksApart}
use Rattle.bb_memory_bump_machine.specs.BumpLogs.{BumpLog}
use Rattle.std.proofs.Common.{ap, subst}

pub returns-clause-apart : goal.returns-clause-apart
returns-clause-apart c =
    subst (λ (l : BumpLog × BumpLog). HaveChunksApart l.0 l.1)
    (λ i. (ap (λ p. p.log) c.a.view_is i, ap (λ p. p.log) c.b.view_is i)) c.meet.ensures.met.apart
