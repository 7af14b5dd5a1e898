use Rattle.bb_memory_c.proofs.detached.bb_pool_party_return_detached.Goals as goal
use Rattle.bb_memory_c_calls.proofs.OpenHandles.{answers_of_both}

pub returns : goal.returns
returns c = answers_of_both c.in-Some.ensures.value c.in-Some-made_mut.ensures.value (c.made_mut.follows.holds _)
    (c.made_mut-2.follows.holds _) c.return_detached.ensures
