use Rattle.bb_memory_c_calls.proofs.ManyCalls.{at-more}
use Rattle.bb_memory_c_calls.proofs.call.give_back_each.Goals as goal
use Rattle.bb_memory_c_calls.specs.Calls.{AtEach, FreesAt}
use Rattle.std.proofs.Common.{IfSome, List, ap, arith, get_or, length, subst, sym, take, ℕ, ◌+◌, ◌<◌, ◌≤◌}
use Rattle.std.proofs.lemmas.List.{take_more}
use Rattle.std.proofs.lemmas.Option.{slice_get_past}
use Rattle.std.specs.Prelude.{IsTrue}

pub loop-place-preserved : goal.loop-place-preserved
loop-place-preserved g c =
    let places = c.args.places.now in
    let index = c.loop-place.place-index in
    let before = c.loop-place.invariant in
    let step = FreesAt g.M.Keeps.may_free g.M.Keeps.frees in
    let within : index < length places = omega (arith, c.loop-place-test.true) in
    let yes : IsTrue c.give_back.result = c.if-not-give_back.false in
    record {
      counted = ap (λ (n : ℕ). n + 1) before.counted;
      freed = subst (λ (ps : List ℕ). AtEach step c.args.made.now ps c.give_back.new.self)
          (sym (take_more places index 0 within))
          (at-more step c.args.made.now (take index places) c.loop-place.made (get_or places index 0) c.give_back.new.self
          before.freed (c.give_back.ensures.held.0 yes, c.give_back.ensures.freed yes));
    }

pub returns : goal.returns
returns g c =
    let places = c.args.places.now in
    let step = FreesAt g.M.Keeps.may_free g.M.Keeps.frees in
    let counted = sym c.loop-place.invariant.counted in
    let end : length places ≤ c.loop-place.returned = omega (arith, counted, c.loop-place-test.false) in
    record {
      freed = subst (λ (n : ℕ). AtEach step c.args.made.now (take n places) c.loop-place.made) counted
          c.loop-place.invariant.freed;
      at_most = omega (arith, counted, c.loop-place.auto.place-index-end);
      stopped = subst (λ at. IfSome at (λ place. ¬ g.M.Keeps.may_free c.loop-place.made place))
          (sym (slice_get_past places c.loop-place.returned end)) (record {});
    }
