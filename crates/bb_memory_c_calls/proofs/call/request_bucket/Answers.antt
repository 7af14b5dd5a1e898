use Rattle.bb_memory_c_calls.proofs.Layouts.{asked}
use Rattle.bb_memory_c_calls.proofs.OpenHandles.{answers}
use Rattle.bb_memory_c_calls.proofs.call.request_bucket.Goals as goal

pub returns-in-Some-within : goal.returns-in-Some-within
returns-in-Some-within g c = answers c.in-Some.ensures.value (c.made_mut.follows.holds _)
    (asked c.in-Some-within.layout c.in-Some-within.ensures.of c.give.result c.of.ensures c.give.ensures)

pub returns-in-None : goal.returns-in-None
returns-in-None g c = answers c.in-Some.ensures.value (c.made_mut.follows.holds _) c.ask_apart.ensures
