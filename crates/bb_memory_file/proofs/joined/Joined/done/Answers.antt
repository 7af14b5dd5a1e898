use Rattle.bb_memory_file.proofs.FileCaches.{cached_while, in_use_apart, undone_apart}
use Rattle.bb_memory_file.proofs.FileEnds.{keeps_done, keeps_still, look_still}
use Rattle.bb_memory_file.proofs.FileNotes.{after_done, after_look, below_by, undone_in, within}
use Rattle.bb_memory_file.proofs.joined.Joined.done.Goals as goal
use Rattle.bb_memory_file.specs.FileCalls.{IsDone}
use Rattle.bb_memory_file.specs.FileCode.{FileLog}
use Rattle.bb_memory_file.specs.FileNotes.{InUse, Undone}
use Rattle.std.proofs.Common.{Some, refl, subst, ◌≡◌}
use Rattle.std.specs.Prelude.{slice_get}

pub invariant_of-self : goal.invariant_of-self
invariant_of-self g c = (
  after_look _ _ c.self.inside.notes.items c.args.slot _ c.self.invariant.0 c.load_slot.ensures.told,
  c.self.invariant.1,
  c.self.invariant.2,
  c.self.invariant.3,
  c.self.invariant.4,
  keeps_still _ _ _ c.self.inside.ends.items c.self.invariant.5 (look_still _ _ c.args.slot _ c.load_slot.ensures.told),
)

pub invariant_of-self-2 : goal.invariant_of-self-2
invariant_of-self-2 g c = (
  after_look _ _ c.self.inside.notes.items c.args.slot _ c.self.invariant.0 c.load_slot.ensures.told,
  c.self.invariant.1,
  c.self.invariant.2,
  c.self.invariant.3,
  c.self.invariant.4,
  keeps_still _ _ _ c.self.inside.ends.items c.self.invariant.5 (look_still _ _ c.args.slot _ c.load_slot.ensures.told),
)

pub done-requires-clause-below : goal.done-requires-clause-below
done-requires-clause-below g c =
    let was : slice_get c.self.inside.notes.items c.in-Message.bucket ≡ Some Undone = cc in
    below_by _ c.self.inside.notes.items
    (after_look _ _ c.self.inside.notes.items c.args.slot _ c.self.invariant.0 c.load_slot.ensures.told) c.in-Message.bucket
    Undone was

pub done-requires-clause-its : goal.done-requires-clause-its
done-requires-clause-its g c =
    let was : slice_get c.self.inside.notes.items c.in-Message.bucket ≡ Some Undone = cc in
    undone_in _ c.self.inside.notes.items c.self.invariant.0 c.in-Message.bucket _ c.args.slot c.in-Message.lap was
    c.in-Message.ensures.told

pub index_mut-requires : goal.index_mut-requires
index_mut-requires g c =
    let was : slice_get c.self.inside.notes.items c.in-Message.bucket ≡ Some Undone = cc in
    within c.self.inside.notes.items c.in-Message.bucket _ _ c.self.inside.notes.ok.0 was

pub invariant_of-self-3 : goal.invariant_of-self-3
invariant_of-self-3 g c =
    let was : slice_get c.self.inside.notes.items c.in-Message.bucket ≡ Some Undone = cc in (
      after_done _ _ c.self.inside.notes.items
          (after_look _ _ c.self.inside.notes.items c.args.slot _ c.self.invariant.0 c.load_slot.ensures.told) c.in-Message.bucket
          c.args.slot c.in-Message.lap was c.done.ensures,
      cached_while c.self.inside.notes.items c.self.inside.cached.items c.in-Message.bucket Undone InUse c.self.invariant.1
          was undone_apart in_use_apart,
      c.self.invariant.2,
      c.self.invariant.3,
      c.self.invariant.4,
      keeps_done _ _ _ c.self.inside.ends.items c.self.invariant.5 c.args.slot c.in-Message.bucket _ c.in-Message.lap c.in-Message.ensures.told (undone_in _ c.self.inside.notes.items c.self.invariant.0 c.in-Message.bucket _ c.args.slot c.in-Message.lap was c.in-Message.ensures.told) c.done.ensures,
    )

pub invariant_of-self-in_default-note : goal.invariant_of-self-in_default-note
invariant_of-self-in_default-note g c = (
  after_look _ _ c.self.inside.notes.items c.args.slot _ c.self.invariant.0 c.load_slot.ensures.told,
  c.self.invariant.1,
  c.self.invariant.2,
  c.self.invariant.3,
  c.self.invariant.4,
  keeps_still _ _ _ c.self.inside.ends.items c.self.invariant.5 (look_still _ _ c.args.slot _ c.load_slot.ensures.told),
)

pub returns : goal.returns
returns g c =
    let was : slice_get c.self.inside.notes.items c.in-Message.bucket ≡ Some Undone = cc in
    rw (← c.self.view_is) (
      c.in-Message.lap,
      c.in-Message.bucket,
      was,
      (
        (λ process. subst (λ (log : FileLog). IsDone process log c.args.slot c.in-Message.bucket c.in-Message.lap
            (g.W.Words.log c.done.new.words)) c.in-Message.ensures.told (c.done.ensures process)),
        refl,
      ),
    )
