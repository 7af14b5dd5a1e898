use Rattle.scripts.proofs.Layouts.{result_ok-layout}
use Rattle.scripts.proofs.words.layout.Goals as goal
use Rattle.std.proofs.Common.{sym}

pub returns-clause-each : goal.returns-clause-each
returns-clause-each c layout same_size same_align =
    rw c.ok.ensures.value
    (result_ok-layout c.from_size_align.result c.args.size c.args.align layout
    c.from_size_align.ensures.accepted c.from_size_align.ensures.value (sym same_size) (sym same_align))
