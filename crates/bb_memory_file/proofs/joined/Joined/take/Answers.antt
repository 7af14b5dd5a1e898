use Rattle.bb_memory_file.proofs.FileCaches.{cached_while, undone_apart, unheld_apart}
use Rattle.bb_memory_file.proofs.FileEnds.{keeps_message, keeps_not_sent, keeps_still, keeps_wrong, look_still}
use Rattle.bb_memory_file.proofs.FileNotes.{after_look, after_message, after_not_sent, after_wrong, below_by, within}
use Rattle.bb_memory_file.proofs.joined.Joined.take.Goals as goal
use Rattle.bb_memory_file.specs.FileCalls.{IsReceive}
use Rattle.bb_memory_file.specs.FileCalls.received as received
use Rattle.bb_memory_file.specs.FileCode.{FileLog}
use Rattle.bb_memory_file.specs.FileNotes.{IsHeldNote, Undone, Unheld}
use Rattle.std.proofs.Common.{None, Some, inl, inr, refl, rules, subst, ◌≡◌}
use Rattle.std.specs.Prelude.{slice_get}

pub invariant_of-self : goal.invariant_of-self
invariant_of-self g c = (
  after_look _ _ c.self.inside.notes.items c.args.slot _ c.self.invariant.0 c.load_slot.ensures.told,
  c.self.invariant.1,
  c.self.invariant.2,
  c.self.invariant.3,
  c.self.invariant.4,
  keeps_still _ _ _ c.self.inside.ends.items c.self.invariant.5 (look_still _ _ c.args.slot _ c.load_slot.ensures.told),
)

pub invariant_of-self-2 : goal.invariant_of-self-2
invariant_of-self-2 g c = (
  after_look _ _ c.self.inside.notes.items c.args.slot _ c.self.invariant.0 c.load_slot.ensures.told,
  c.self.invariant.1,
  c.self.invariant.2,
  c.self.invariant.3,
  c.self.invariant.4,
  keeps_still _ _ _ c.self.inside.ends.items c.self.invariant.5 (look_still _ _ c.args.slot _ c.load_slot.ensures.told),
)

pub invariant_of-self-in-None : goal.invariant_of-self-in-None
invariant_of-self-in-None g c = (
  after_look _ _ c.self.inside.notes.items c.args.slot _ c.self.invariant.0 c.load_slot.ensures.told,
  c.self.invariant.1,
  c.self.invariant.2,
  c.self.invariant.3,
  c.self.invariant.4,
  keeps_still _ _ _ c.self.inside.ends.items c.self.invariant.5 (look_still _ _ c.args.slot _ c.load_slot.ensures.told),
)

pub receive-requires-clause-below : goal.receive-requires-clause-below
receive-requires-clause-below g c =
    let was : slice_get c.self.inside.notes.items c.in-Message.bucket ≡ Some Unheld = cc in
    below_by _ c.self.inside.notes.items
    (after_look _ _ c.self.inside.notes.items c.args.slot _ c.self.invariant.0 c.load_slot.ensures.told) c.in-Message.bucket
    Unheld was

pub invariant_of-self-in-NotSent : goal.invariant_of-self-in-NotSent
invariant_of-self-in-NotSent g c =
    let was : slice_get c.self.inside.notes.items c.in-Message.bucket ≡ Some Unheld = cc in (
      after_not_sent _ _ c.self.inside.notes.items
          (after_look _ _ c.self.inside.notes.items c.args.slot _ c.self.invariant.0 c.load_slot.ensures.told) c.in-Message.bucket
          c.args.slot c.in-Message.lap c.args.size was c.in-NotSent.ensures,
      c.self.invariant.1,
      c.self.invariant.2,
      c.self.invariant.3,
      c.self.invariant.4,
      keeps_not_sent _ _ _ c.self.inside.ends.items c.self.invariant.5 c.args.slot c.in-Message.bucket _ c.in-Message.lap c.in-Message.ensures.told (rw (← c.self.view_is) at c.requires.single) c.args.size c.in-NotSent.ensures,
    )

pub invariant_of-self-in-Wrong : goal.invariant_of-self-in-Wrong
invariant_of-self-in-Wrong g c =
    let was : slice_get c.self.inside.notes.items c.in-Message.bucket ≡ Some Unheld = cc in (
      after_wrong _ _ c.self.inside.notes.items
          (after_look _ _ c.self.inside.notes.items c.args.slot _ c.self.invariant.0 c.load_slot.ensures.told) c.in-Message.bucket
          c.args.slot c.in-Message.lap c.args.size was c.in-Wrong.ensures,
      c.self.invariant.1,
      c.self.invariant.2,
      c.self.invariant.3,
      c.self.invariant.4,
      keeps_wrong _ _ _ c.self.inside.ends.items c.self.invariant.5 c.args.slot c.in-Message.bucket _ c.in-Message.lap c.in-Message.ensures.told (rw (← c.self.view_is) at c.requires.single) c.args.size c.in-Wrong.ensures,
    )

pub index_mut-requires : goal.index_mut-requires
index_mut-requires g c =
    let was : slice_get c.self.inside.notes.items c.in-Message.bucket ≡ Some Unheld = cc in
    within c.self.inside.notes.items c.in-Message.bucket _ _ c.self.inside.notes.ok.0 was

pub invariant_of-self-in-Message-receive : goal.invariant_of-self-in-Message-receive
invariant_of-self-in-Message-receive g c =
    let was : slice_get c.self.inside.notes.items c.in-Message.bucket ≡ Some Unheld = cc in (
      after_message _ _ c.self.inside.notes.items
          (after_look _ _ c.self.inside.notes.items c.args.slot _ c.self.invariant.0 c.load_slot.ensures.told) c.in-Message.bucket
          c.args.slot c.in-Message.lap c.args.size was _ c.in-Message-receive.ensures,
      cached_while c.self.inside.notes.items c.self.inside.cached.items c.in-Message.bucket Unheld Undone c.self.invariant.1
          was unheld_apart undone_apart,
      c.self.invariant.2,
      c.self.invariant.3,
      c.self.invariant.4,
      keeps_message _ _ _ c.self.inside.ends.items c.self.invariant.5 c.args.slot c.in-Message.bucket _ c.in-Message.lap c.in-Message.ensures.told (rw (← c.self.view_is) at c.requires.single) c.args.size c.in-Message-receive.length c.in-Message-receive.ensures,
    )

pub invariant_of-self-in_default-note : goal.invariant_of-self-in_default-note
invariant_of-self-in_default-note g c = (
  after_look _ _ c.self.inside.notes.items c.args.slot _ c.self.invariant.0 c.load_slot.ensures.told,
  c.self.invariant.1,
  c.self.invariant.2,
  c.self.invariant.3,
  c.self.invariant.4,
  keeps_still _ _ _ c.self.inside.ends.items c.self.invariant.5 (look_still _ _ c.args.slot _ c.load_slot.ensures.told),
)

pub returns-in-NotSent : goal.returns-in-NotSent
returns-in-NotSent g c =
    let was : slice_get c.self.inside.notes.items c.in-Message.bucket ≡ Some Unheld = cc in
    rw (← c.self.view_is) (
      c.in-Message.lap,
      c.in-Message.bucket,
      inr (
        was,
        (
          (λ process. subst (λ (log : FileLog). IsReceive process log c.args.slot c.in-Message.lap c.in-Message.bucket c.args.size
              received.NotSent (g.W.Words.log c.receive.new.words)) c.in-Message.ensures.told (c.in-NotSent.ensures process)),
          refl,
        ),
      ),
    )

pub returns-in-Wrong : goal.returns-in-Wrong
returns-in-Wrong g c =
    let was : slice_get c.self.inside.notes.items c.in-Message.bucket ≡ Some Unheld = cc in
    rw (← c.self.view_is) (
      c.in-Message.lap,
      c.in-Message.bucket,
      inr (
        was,
        (
          (λ process. subst (λ (log : FileLog). IsReceive process log c.args.slot c.in-Message.lap c.in-Message.bucket c.args.size
              received.Wrong (g.W.Words.log c.receive.new.words)) c.in-Message.ensures.told (c.in-Wrong.ensures process)),
          refl,
        ),
      ),
    )

pub returns-in-Message-receive : goal.returns-in-Message-receive
returns-in-Message-receive g c =
    let was : slice_get c.self.inside.notes.items c.in-Message.bucket ≡ Some Unheld = cc in
    rw (← c.self.view_is) (
      c.in-Message.lap,
      was,
      (
        (λ process. subst (λ (log : FileLog). IsReceive process log c.args.slot c.in-Message.lap c.in-Message.bucket c.args.size
            (received.Message c.in-Message-receive.length) (g.W.Words.log c.receive.new.words)) c.in-Message.ensures.told
            (c.in-Message-receive.ensures process)),
        refl,
      ),
    )

pub returns-in_default : goal.returns-in_default
returns-in_default g c = rw (← c.self.view_is) (c.in_default.field-0, c.in_default.ensures.told, refl)

pub returns-in-None : goal.returns-in-None
returns-in-None g c =
    let none : slice_get c.self.inside.notes.items c.in-Message.bucket ≡ None = cc in
    rw (← c.self.view_is) (
      c.in-Message.lap,
      c.in-Message.bucket,
      inl (none, c.in-Message.ensures.told, refl),
    )

pub returns-in_default-note : goal.returns-in_default-note
returns-in_default-note g c =
    let held : IsHeldNote (slice_get c.self.inside.notes.items c.in-Message.bucket) = search rules in
    rw (← c.self.view_is) (
      c.in-Message.lap,
      c.in-Message.bucket,
      inl (held, c.in-Message.ensures.told, refl),
    )
