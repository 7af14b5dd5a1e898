use Rattle.bb_memory_file.proofs.FileCaches.{cached_while, in_use_apart, unheld_apart}
use Rattle.bb_memory_file.proofs.FileEnds.{detach_still, keeps_still}
use Rattle.bb_memory_file.proofs.FileNotes.{after_detach, in_use_clear, within}
use Rattle.bb_memory_file.proofs.joined.Joined.detach.Goals as goal
use Rattle.bb_memory_file.specs.FileNotes.{InUse, Unheld}
use Rattle.std.proofs.Common.{refl}

pub detach-requires-clause-clear : goal.detach-requires-clause-clear
detach-requires-clause-clear g c =
    in_use_clear _ c.self.inside.notes.items c.self.invariant.0 c.args.bucket
    (rw (← c.self.view_is) at c.in_ok-check-in_default.ensures.held)

pub index_mut-requires : goal.index_mut-requires
index_mut-requires g c =
    within c.self.inside.notes.items c.args.bucket _ _ c.self.inside.notes.ok.0
    (rw (← c.self.view_is) at c.in_ok-check-in_default.ensures.held)

pub invariant_of-self : goal.invariant_of-self
invariant_of-self g c = (
  after_detach _ _ c.self.inside.notes.items c.self.invariant.0 c.args.bucket
      (rw (← c.self.view_is) at c.in_ok-check-in_default.ensures.held) c.detach.ensures,
  cached_while c.self.inside.notes.items c.self.inside.cached.items c.args.bucket InUse Unheld c.self.invariant.1
      (rw (← c.self.view_is) at c.in_ok-check-in_default.ensures.held) in_use_apart unheld_apart,
  c.self.invariant.2,
  c.self.invariant.3,
  c.self.invariant.4,
  keeps_still _ _ _ c.self.inside.ends.items c.self.invariant.5 (detach_still _ _ c.args.bucket c.detach.ensures),
)

pub returns-in_ok-check-in_default : goal.returns-in_ok-check-in_default
returns-in_ok-check-in_default g c = rw (← c.self.view_is) (
  (rw (← c.self.view_is) at c.in_ok-check-in_default.ensures.held),
  (c.detach.ensures, refl),
)
