use Rattle.bb_memory_c.proofs.InUse.{joined-takes}
use Rattle.bb_memory_c.proofs.shared_pool.JoinedPoolBucketed.take_first.Goals as goal
use Rattle.bb_memory_c.specs.SharedPools.{IsJoinedAt}
use Rattle.std.proofs.Common.{ap, set, subst, sym, true, ℕ, ◌∙◌}
use Rattle.std.specs.Arc.{arc_value}

pub invariant_of-self-2 : goal.invariant_of-self-2
invariant_of-self-2 c =
    let list = c.self.inside.in_use.items in
    let noted = c.begin_use.ensures.noted ∙ ap (λ (n : ℕ). set list n true) c.number-number.ensures.value in
    subst (IsJoinedAt (arc_value c.self.inside.pool) c.take_first.new.self) (sym noted)
    (joined-takes c.in_ok-take_first.field-0 c.self.invariant c.in_ok-take_first.ensures.taken)
