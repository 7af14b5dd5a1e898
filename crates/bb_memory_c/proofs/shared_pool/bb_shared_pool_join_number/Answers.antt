use Rattle.bb_memory_c.proofs.shared_pool.bb_shared_pool_join_number.Goals as goal
use Rattle.bb_memory_c_calls.proofs.OpenHandles.{answers}
use Rattle.bb_memory_c_calls.specs.declared.code.TheConstants.{NO_PARTY as no_party}
use Rattle.std.proofs.Common.{Err, ap, arith, refl, ◌∙◌, ◌≢◌}

pub returns-in-Err : goal.returns-in-Err
returns-in-Err c =
    let none = c.is_made.ensures.empty c.if-is_made.false in
    let told = c.in-Err.ensures in
    record {
      held_one = λ some. absurd (some none);
      joins = λ _. answers c.in-Some.ensures.value (c.made_mut.follows.holds _) record {
        joins = λ done.
            let apart : c.in-Err.code ≢ no_party = λ same. omega (arith, done) in
            absurd (omega (arith, done, told.else_memory apart));
        none_such = (λ same. told.none_such.0 (ap Err same), λ not. let same = told.none_such.1 not in cc);
        else_memory = λ _. told.else_memory;
        unchanged = λ _. (told.unchanged, c.is_made.ensures.unchanged ∙ none);
      };
    }

pub returns : goal.returns
returns c =
    let none = c.is_made.ensures.empty c.if-is_made.false in
    let told = c.in-Ok.ensures in
    record {
      held_one = λ some. absurd (some none);
      joins = λ _. answers c.in-Some.ensures.value (c.made_mut.follows.holds _) record {
        joins = λ _. (c.in-Ok.joined.value, c.put.ensures, told.joins.0, told.joins.1, told.joins.2);
        none_such = (λ wrong. absurd (omega arith), λ not. let same = told.none_such.1 not in absurd (cc));
        else_memory = λ not. absurd (not refl);
        unchanged = λ not. absurd (not refl);
      };
    }
