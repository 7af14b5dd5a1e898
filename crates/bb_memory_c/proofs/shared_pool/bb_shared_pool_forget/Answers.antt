use Rattle.bb_memory_c.proofs.shared_pool.bb_shared_pool_forget.Goals as goal
use Rattle.bb_memory_c_calls.proofs.OpenHandles.{left}
use Rattle.std.proofs.Common.{Some, ap, ◌∙◌}

pub returns : goal.returns
returns c = left c.into_inner.result c.in-Some.ensures.value c.in-Some-take.ensures.value
    ((rw c.deref.ensures at c.has_joined.ensures).0 c.if-not-has_joined.false) c.into_inner.ensures
    (c.made_mut.follows.holds _ ∙ ap Some c.take_back_as_it_is.ensures) c.in-Some-take.ensures.empty
