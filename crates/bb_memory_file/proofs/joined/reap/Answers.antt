use Rattle.bb_memory_file.proofs.FileNotes.{fresh_unlocks}
use Rattle.bb_memory_file.proofs.joined.reap.Goals as goal
use Rattle.bb_memory_file.specs.FileNames.{Settled}
use Rattle.std.proofs.Common.{inl, refl}

pub unlock-requires : goal.unlock-requires
unlock-requires g c =
    fresh_unlocks (g.W.Words.log c.args.words) _ (λ party. Settled party) c.requires
    (λ process. let settled = (c.in-Some.ensures process).3 in (settled.taken, settled.walk)) (inl refl)
