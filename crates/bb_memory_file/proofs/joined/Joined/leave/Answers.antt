use Rattle.bb_memory_file.proofs.FileNotes.{home_unlocks}
use Rattle.bb_memory_file.proofs.joined.Joined.leave.Goals as goal

pub unlock-requires : goal.unlock-requires
unlock-requires g c =
    home_unlocks _ _ c.self.invariant.0.home
    (λ process. let settled = (c.leave-freed.ensures process).0.1 in (settled.taken, settled.walk))

pub returns : goal.returns
returns g c = rw (← c.self.view_is) (g.W.Words.log c.leave-freed.new.words, c.unlock.ensures, c.leave-freed.ensures)
