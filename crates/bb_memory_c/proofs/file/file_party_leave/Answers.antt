use Rattle.bb_memory_c.proofs.file.file_party_leave.Goals as goal
use Rattle.bb_memory_c.specs.Files.{JoinedFile, LeavesFrom}
use Rattle.bb_memory_c_calls.specs.Answers.{figure_of}
use Rattle.bb_memory_file.specs.FileParties.{log_of}
use Rattle.std.proofs.Common.{Option, refl, subst, sym, ◌≡◌}
use Rattle.std.specs.Prelude.{IfSome}

pub returns : goal.returns
returns c =
    let freed = c.leave.result in
    rw c.of.ensures record {
      left = subst (λ (o : Option JoinedFile). IfSome o (λ file. (figure_of freed ≡ figure_of freed) × LeavesFrom (log_of file.party.words) freed))
          (sym c.in-Some.ensures.value) (refl, rw c.into_inner.ensures at c.leave.ensures);
      was_empty = λ none. let some = c.in-Some.ensures.value in absurd (cc);
      empty = c.take.ensures.empty;
    }
