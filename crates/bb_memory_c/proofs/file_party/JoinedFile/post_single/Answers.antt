use Rattle.bb_memory_c.proofs.FileParties.{posted-same}
use Rattle.bb_memory_c.proofs.FileTold.{single-refused}
use Rattle.bb_memory_c.proofs.file_party.JoinedFile.post_single.Goals.{in-Err, in-Ok-false, in-Ok-true}
use Rattle.bb_memory_c.proofs.file_party.JoinedFile.post_single.Goals as goal
use Rattle.bb_memory_c.specs.Files.{JoinedFile, PostsSingle}
use Rattle.bb_memory_file.specs.FileNotes.{Posts}
use Rattle.bb_memory_file.specs.FileParties.{log_of}
use Rattle.bb_memory_file.specs.declared.joined.Refusal.{Refusal}
use Rattle.std.proofs.Common.{Bool, Err, Ok, Result, ap, false, refl, subst, sym, true, ◌∙◌, ◌≡◌}

pub invariant_of-self : goal.invariant_of-self
invariant_of-self c = c.self.invariant
    ∙ sym (posted-same c.self.inside.party c.args.slot c.args.number c.args.length c.post.result c.post.new.self c.post.ensures)

pub returns : goal.returns
returns c =
    let at_view : (told : Result Bool Refusal) → c.post.result ≡ told
    → Posts log_of c.args.self.now.party c.args.slot c.args.number c.args.length told c.post.new.self =
    λ told is. subst (λ (f : JoinedFile). Posts log_of f.party c.args.slot c.args.number c.args.length told c.post.new.self)
    c.self.view_is (rw is at c.post.ensures) in
    let becomes = ap (λ (f : JoinedFile). record f { party = c.post.new.self }) c.self.view_is in
    subst (λ (after : JoinedFile). PostsSingle c.args.self.now c.args.slot c.args.number c.args.length c.match-post.result after)
    (sym becomes) (elim c.match-post.branch [
      | in-Ok-true w ↦ (
        true,
        rw (w.result-is, w.of.ensures) refl,
        (at_view (Ok true) (rw (w.in-Ok-true.is, w.in-Ok-true.field-0-test) refl), refl),
      )
      | in-Ok-false w ↦ (
        false,
        rw (w.result-is, w.of-in-Ok-false.ensures) refl,
        (at_view (Ok false) (rw (w.in-Ok-false.is, w.in-Ok-false.field-0-test) refl), refl),
      )
      | in-Err w ↦ single-refused c.args.self.now c.args.slot c.args.number c.args.length c.requires.noted w.in-Err.field-0
          c.post.new.self (at_view (Err w.in-Err.field-0) w.in-Err.is)
    ])
