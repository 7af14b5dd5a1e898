use Rattle.bb_memory_c_calls.proofs.Layouts.{made_of}
use Rattle.bb_memory_c_calls.proofs.layout.layout_of.Goals as goal

pub returns-clause-each : goal.returns-clause-each
returns-clause-each c = λ layout of. rw (c.ok.ensures.value)
    (made_of c.from_size_align.result c.args.size c.args.align layout c.from_size_align.ensures.accepted
    c.from_size_align.ensures.value of)
