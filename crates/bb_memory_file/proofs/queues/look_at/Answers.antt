use Rattle.bb_memory_file.proofs.FileQueueNotes.{message_at, noted_flag, passed_unsent, sent_flag}
use Rattle.bb_memory_file.proofs.FileQueueWalks.{looks_look}
use Rattle.bb_memory_file.proofs.queues.look_at.Goals as goal
use Rattle.bb_memory_file.specs.FileCode.{LoadFlag, told}
use Rattle.bb_memory_file.specs.FileNames.{Slot}
use Rattle.bb_memory_file.specs.FileNotes.{Undone, Unheld}
use Rattle.bb_memory_file.specs.FileQueueCalls.{nothing}
use Rattle.bb_memory_file.specs.FileQueueLooks.{Look}
use Rattle.bb_memory_file.specs.FileQueueSteps.{was_held}
use Rattle.std.proofs.Common.{Some, ap, subst, sym, ◌∙◌, ◌≡◌}
use Rattle.std.specs.Prelude.{slice_get}

pub returns-then-lap_said-lap-clause-looks : goal.returns-then-lap_said-lap-clause-looks
returns-then-lap_said-lap-clause-looks g c = nothing

pub returns-in_default-clause-looks : goal.returns-in_default-clause-looks
returns-in_default-clause-looks g c = nothing

pub returns-then-is_same : goal.returns-then-is_same
returns-then-is_same g c =
    let old = g.W.Words.log c.args.words.now in
    let new = g.W.Words.log c.load_flag.new.self in
    let was : slice_get c.args.notes.now c.in-Message.bucket ≡ Some Unheld = cc in
    record {
      finds = (
        message_at c.args.word c.in-Message.lap c.in-Message.bucket c.lap_said.result c.args.position.lap c.in-Message.is
            c.lap_said.ensures.said c.if-lap_said-lap.false,
        was,
        c.load_flag.ensures
            ∙ ap (λ flag. told old (LoadFlag c.in-Message.bucket flag)) (sent_flag c.args.position.slot c.args.position.lap _ (sym c.is_same.ensures ∙ c.if-is_same.true)),
      );
      looks = looks_look old new (LoadFlag c.in-Message.bucket c.load_flag.result) tt c.load_flag.ensures;
      noted = noted_flag old c.args.notes.now c.in-Message.bucket was c.requires.noted new c.load_flag.result c.load_flag.ensures;
    }

pub returns-else-is_same : goal.returns-else-is_same
returns-else-is_same g c =
    let old = g.W.Words.log c.args.words.now in
    let new = g.W.Words.log c.load_flag.new.self in
    let was : slice_get c.args.notes.now c.in-Message.bucket ≡ Some Unheld = cc in
    let is = message_at c.args.word c.in-Message.lap c.in-Message.bucket c.lap_said.result c.args.position.lap c.in-Message.is
    c.lap_said.ensures.said c.if-lap_said-lap.false in
    record {
      finds = passed_unsent c.args.notes.now old new c.args.position.slot c.args.position.lap c.in-Message.bucket c.load_flag.result
          (subst (λ (word : Slot). Look old.events c.args.position.slot word) is c.requires.look) c.load_flag.ensures
          (sym c.is_same.ensures ∙ c.if-is_same.false);
      looks = looks_look old new (LoadFlag c.in-Message.bucket c.load_flag.result) tt c.load_flag.ensures;
      noted = noted_flag old c.args.notes.now c.in-Message.bucket was c.requires.noted new c.load_flag.result c.load_flag.ensures;
    }

pub returns-in-Some-Undone : goal.returns-in-Some-Undone
returns-in-Some-Undone g c =
    let was : slice_get c.args.notes.now c.in-Message.bucket ≡ Some Undone = cc in
    let is = message_at c.args.word c.in-Message.lap c.in-Message.bucket c.lap_said.result c.args.position.lap c.in-Message.is
    c.lap_said.ensures.said c.if-lap_said-lap.false in
    record {
      finds = was_held c.in-Message.bucket
          (subst (λ (word : Slot). Look (g.W.Words.log c.args.words.now).events c.args.position.slot word) is c.requires.look) was;
      looks = nothing;
      noted = c.requires.noted;
    }

pub returns-in_default-note_of-clause-looks : goal.returns-in_default-note_of-clause-looks
returns-in_default-note_of-clause-looks g c = nothing

pub returns-in_default-note_of-2-clause-looks : goal.returns-in_default-note_of-2-clause-looks
returns-in_default-note_of-2-clause-looks g c = nothing
