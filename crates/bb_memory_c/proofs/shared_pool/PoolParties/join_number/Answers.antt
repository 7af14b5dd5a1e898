use Rattle.bb_memory_c.proofs.Numbers.{joined-by-number, with_last-back}
use Rattle.bb_memory_c.proofs.shared_pool.PoolParties.join_number.Goals as goal
use Rattle.bb_memory_c.specs.SharedPools.{PoolParties, with_last}
use Rattle.std.proofs.Common.{ap, arith, length, ◌-◌, ◌∙◌}
use Rattle.std.proofs.lemmas.List.Edits.{length-swap}
use Rattle.std.proofs.lemmas.Option.{slice_get_within}

pub swap_with_last-requires-in-Err : goal.swap_with_last-requires-in-Err
swap_with_last-requires-in-Err c =
    let parties = c.args.self.now.parties in
    let it = c.in-Some.ensures.there in
    let below = slice_get_within parties c.in-Some.at it.0 it.1 in
    let long = ap (λ (p : PoolParties). length p.parties) (c.in-Err.ensures.unchanged ∙ c.swap_with_last.ensures) in
    omega (arith, long, length-swap parties c.in-Some.at (length parties - 1))

pub returns-in-Ok : goal.returns-in-Ok
returns-in-Ok c =
    let it = c.in-Some.ensures.there in
    let took = c.in-Ok.ensures.joins in
    let is = joined-by-number c.args.self.now c.swap_with_last.new.self c.join_last.new.self c.in-Some.at c.args.number
    c.in-Ok.joined.value it c.swap_with_last.ensures took.0 in
    record {
      joins = (took.1, is.0, is.1);
      none_such = (λ wrong. absurd (cc), λ none. absurd (none (c.in-Some.at, it)));
      else_memory = tt;
      unchanged = tt;
    }

pub returns-in-Err : goal.returns-in-Err
returns-in-Err c =
    let all = c.args.self.now in
    let at = c.in-Some.at in
    let it = c.in-Some.ensures.there in
    let below = slice_get_within all.parties at it.0 it.1 in
    let back = c.in-Err.ensures.unchanged ∙ c.swap_with_last.ensures in
    let long = ap (λ (p : PoolParties). length p.parties) c.swap_with_last.ensures in
    record {
      joins = tt;
      none_such = (
        λ none.
            let empty = c.in-Err.ensures.none_unjoined.0 none in
            absurd (omega (arith, below, empty, long, length-swap all.parties at (length all.parties - 1))),
        λ none. absurd (none (at, it)),
      );
      else_memory = c.in-Err.ensures.else_memory;
      unchanged = c.swap_with_last-in-Err.ensures ∙ ap (λ (p : PoolParties). with_last p at) back
          ∙ with_last-back all at it.0 it.1;
    }
