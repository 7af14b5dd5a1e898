use Rattle.bb_memory_c_calls.proofs.Layouts.{asked}
use Rattle.bb_memory_c_calls.proofs.call.ask.Goals as goal

pub returns-in-Some : goal.returns-in-Some
returns-in-Some g c = asked c.in-Some.layout c.in-Some.ensures.of c.give.result c.of.ensures c.give.ensures
