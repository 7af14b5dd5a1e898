use Rattle.bb_memory_c.proofs.file.file_party_join.Goals as goal
use Rattle.bb_memory_c_calls.proofs.OpenHandles.{answers}
use Rattle.bb_memory_c_calls.specs.declared.code.TheConstants.{MALLOC_REFUSED as malloc_refused, NO_PARTY as no_party}
use Rattle.std.proofs.Common.{Err, ap, arith, refl, ◌∙◌, ◌≢◌}

pub returns-in-Err : goal.returns-in-Err
returns-in-Err c =
    let none = c.is_made.ensures.empty c.if-is_made.false in
    let told = c.in-Err.ensures in
    record {
      held_one = λ some. absurd (some none);
      joins = λ _. answers c.in-Some.ensures.value (c.made_mut.follows.holds _) (
        record {
          joins = λ done.
              let apart : c.in-Err.code ≢ no_party = λ same. omega (arith, done, same) in
              let other : c.in-Err.code ≢ malloc_refused = λ same. omega (arith, done, same) in
              absurd (omega (arith, done, told.no_other apart other));
          none_such = λ past. let same = told.none_such past in cc;
          over = λ same. told.over (ap Err same);
          no_memory = λ same. told.no_memory (ap Err same);
          no_other = λ _. told.no_other;
          empty = λ _. c.is_made.ensures.unchanged ∙ none;
        },
        refl,
      );
    }

pub returns : goal.returns
returns c =
    let none = c.is_made.ensures.empty c.if-is_made.false in
    let told = c.in-Ok.ensures in
    record {
      held_one = λ some. absurd (some none);
      joins = λ _. answers c.in-Some.ensures.value (c.made_mut.follows.holds _) (
        record {
          joins = λ _. (c.in-Ok.joined.value, c.put.ensures, told.joins);
          none_such = λ past. let same = told.none_such past in absurd (cc);
          over = λ wrong. absurd (omega (arith, wrong));
          no_memory = λ wrong. absurd (omega (arith, wrong));
          no_other = λ not. absurd (not refl);
          empty = λ not. absurd (not refl);
        },
        refl,
      );
    }
