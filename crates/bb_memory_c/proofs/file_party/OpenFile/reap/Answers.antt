use Rattle.bb_memory_c.proofs.file_party.OpenFile.reap.Goals.{in-Err-reap, in-Ok-reap}
use Rattle.bb_memory_c.proofs.file_party.OpenFile.reap.Goals as goal
use Rattle.bb_memory_c_calls.specs.Answers.{figure_of, no_figure}
use Rattle.bb_memory_c_calls.specs.declared.code.TheConstants.{NO_PARTY as no_party}
use Rattle.bb_memory_file.specs.FileCalls.{IsOver}
use Rattle.bb_memory_file.specs.FileLog.{FileLog}
use Rattle.bb_memory_file.specs.FileParties.{log_of}
use Rattle.std.proofs.Common.{arith, inl, inr, refl, rules, subst, ◌≡◌}

pub returns-in-Err : goal.returns-in-Err
returns-in-Err c =
    let told = c.party.ensures in
    let is = c.in-Err.is in
    rw c.refusal.ensures record {
      reaped = λ done. let none = c.in-Err.ensures.no_other (λ same. omega (arith, done, same)) in absurd (omega (arith, none, done));
      none_such = λ past. let same = told.none_such.1 past in cc;
      over = λ same. inl (told.none_such.0 (rw same at is));
      no_other = λ _. c.in-Err.ensures.no_other;
      frees_none = λ _. refl;
    }

pub returns : goal.returns
returns c = elim c.match-reap.branch [
  | in-Ok-reap w ↦
      let told : c.match-reap.result ≡ figure_of w.in-Ok-reap.freed = search rules in
      let did = rw w.in-Ok-reap.is at c.reap.ensures in
      rw told record {
        reaped = λ _. (c.in-Ok.words, c.in-Ok.ensures.fresh, did);
        none_such = λ past. let none = c.party.ensures.none_such.1 past in let some = c.in-Ok.is in absurd (cc);
        over = λ wrong. absurd (omega (arith, wrong));
        no_other = λ not. absurd (not refl);
        frees_none = λ not. absurd (not refl);
      }
  | in-Err-reap w ↦
      let told : c.match-reap.result ≡ no_figure no_party = search rules in
      let did = rw w.in-Err-reap.is at c.reap.ensures in
      rw told record {
        reaped = λ wrong. absurd (omega (arith, wrong));
        none_such = λ _. refl;
        over = λ _. inr (
          log_of w.in-Err-reap.field-0,
          subst (λ (log : FileLog). IsOver log (log_of w.in-Err-reap.field-0)) c.in-Ok.ensures.fresh (did 0),
        );
        no_other = λ _ not. absurd (not refl);
        frees_none = λ _. refl;
      }
]
