use Rattle.bb_memory_file.proofs.FileCaches.{cached_while, in_use_apart, unheld_apart}
use Rattle.bb_memory_file.proofs.FileEnds.{attach_still, keeps_still}
use Rattle.bb_memory_file.proofs.FileNotes.{after_attach, after_no_attach}
use Rattle.bb_memory_file.proofs.joined.Joined.attach.Goals as goal
use Rattle.bb_memory_file.specs.FileNotes.{InUse, Unheld}
use Rattle.std.proofs.Common.{Some, false, inl, inr, refl, rules, true, ◌≡◌}
use Rattle.std.specs.Prelude.{slice_get}

pub invariant_of-self : goal.invariant_of-self
invariant_of-self g c =
    let was : slice_get c.args.self.now.notes c.args.bucket ≡ Some Unheld = cc in (
      after_attach _ _ c.self.inside.notes.items c.self.invariant.0 c.args.bucket (rw (← c.self.view_is) at was)
          c.if-is_attached.ensures,
      cached_while c.self.inside.notes.items c.self.inside.cached.items c.args.bucket Unheld InUse c.self.invariant.1
          (rw (← c.self.view_is) at was) unheld_apart in_use_apart,
      c.self.invariant.2,
      c.self.invariant.3,
      c.self.invariant.4,
      keeps_still _ _ _ c.self.inside.ends.items c.self.invariant.5 (attach_still _ _ c.args.bucket true c.if-is_attached.ensures),
    )

pub invariant_of-self-else-is_attached : goal.invariant_of-self-else-is_attached
invariant_of-self-else-is_attached g c =
    let was : slice_get c.args.self.now.notes c.args.bucket ≡ Some Unheld = cc in (
      after_no_attach _ _ c.self.inside.notes.items c.self.invariant.0 c.args.bucket (rw (← c.self.view_is) at was)
          c.if-is_attached.ensures,
      c.self.invariant.1,
      c.self.invariant.2,
      c.self.invariant.3,
      c.self.invariant.4,
      keeps_still _ _ _ c.self.inside.ends.items c.self.invariant.5 (attach_still _ _ c.args.bucket false c.if-is_attached.ensures),
    )

pub returns-then-is_attached : goal.returns-then-is_attached
returns-then-is_attached g c =
    let was : slice_get c.args.self.now.notes c.args.bucket ≡ Some Unheld = cc in
    rw (c.if-is_attached.true, ← c.self.view_is) (
      (rw (← c.self.view_is) at was),
      (c.if-is_attached.ensures, refl),
    )

pub returns-else-is_attached : goal.returns-else-is_attached
returns-else-is_attached g c =
    let was : slice_get c.args.self.now.notes c.args.bucket ≡ Some Unheld = cc in
    rw (c.if-is_attached.false, ← c.self.view_is) (inl (
      (rw (← c.self.view_is) at was),
      (c.if-is_attached.ensures, refl),
    ))

pub returns-in_default : goal.returns-in_default
returns-in_default g c = inr ((search rules), (search rules))
