use Rattle.bb_memory_c.proofs.FileParties.{sent-same}
use Rattle.bb_memory_c.proofs.FileTold.{queued-refused}
use Rattle.bb_memory_c.proofs.file_party.JoinedFile.send_queued.Goals.{in-Err, in-Ok-Full, in-Ok-Overtaken, in-Ok-Sent}
use Rattle.bb_memory_c.proofs.file_party.JoinedFile.send_queued.Goals as goal
use Rattle.bb_memory_c.specs.Files.{JoinedFile, PostsQueued}
use Rattle.bb_memory_file.specs.FileNotes.{Sends}
use Rattle.bb_memory_file.specs.FileParties.{log_of}
use Rattle.bb_memory_file.specs.declared.joined.Refusal.{Refusal}
use Rattle.bb_memory_file.specs.declared.queues.Sending.{Sending}
use Rattle.bb_memory_file.specs.declared.queues.Sending.TheVariants.{Full, Overtaken, Sent}
use Rattle.std.proofs.Common.{Err, Ok, Result, ap, refl, subst, sym, ◌∙◌, ◌≡◌}

pub invariant_of-self : goal.invariant_of-self
invariant_of-self c = c.self.invariant
    ∙ sym (sent-same c.self.inside.party c.args.queue c.args.number c.args.length c.send.result c.send.new.self c.send.ensures)

pub returns : goal.returns
returns c =
    let at_view : (told : Result Sending Refusal) → c.send.result ≡ told
    → Sends log_of c.args.self.now.party c.args.queue c.args.number c.args.length told c.send.new.self =
    λ told is. subst (λ (f : JoinedFile). Sends log_of f.party c.args.queue c.args.number c.args.length told c.send.new.self)
    c.self.view_is (rw is at c.send.ensures) in
    let becomes = ap (λ (f : JoinedFile). record f { party = c.send.new.self }) c.self.view_is in
    subst (λ (after : JoinedFile). PostsQueued c.args.self.now c.args.queue c.args.number c.args.length c.match-send.result after)
    (sym becomes) (elim c.match-send.branch [
      | in-Ok-Sent w ↦ (
        Sent w.in-Ok-Sent.field-0-0,
        rw (w.result-is, w.of.ensures) refl,
        (at_view (Ok (Sent w.in-Ok-Sent.field-0-0)) (rw (w.in-Ok-Sent.is, w.in-Ok-Sent.field-0-is) refl), refl),
      )
      | in-Ok-Full w ↦ (
        Full,
        rw (w.result-is, w.of-in-Ok-Full.ensures) refl,
        (at_view (Ok Full) (rw (w.in-Ok-Full.is, w.in-Ok-Full.field-0-is) refl), refl),
      )
      | in-Ok-Overtaken w ↦ (
        Overtaken,
        rw (w.result-is, w.overtaken.ensures) refl,
        (at_view (Ok Overtaken) (rw (w.in-Ok-Overtaken.is, w.in-Ok-Overtaken.field-0-is) refl), refl),
      )
      | in-Err w ↦ queued-refused c.args.self.now c.args.queue c.args.number c.args.length c.requires.noted w.in-Err.field-0
          c.send.new.self (at_view (Err w.in-Err.field-0) w.in-Err.is)
    ])
