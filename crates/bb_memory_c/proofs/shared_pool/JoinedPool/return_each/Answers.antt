use Rattle.bb_memory_c.proofs.shared_pool.JoinedPool.return_each.Goals as goal
use Rattle.bb_memory_c.specs.SharedPools.{TellsReturnNumber}
use Rattle.bb_memory_c_calls.proofs.ManyCalls.{at-more}
use Rattle.bb_memory_c_calls.specs.Calls.{AtEach}
use Rattle.bb_memory_c_calls.specs.declared.code.TheConstants.{OK as ok}
use Rattle.bb_memory_shared_pools.specs.SharedPoolCaching.{CachingParty}
use Rattle.std.proofs.Common.{IfSome, List, ap, arith, get_or, length, refl, subst, sym, take, ℕ, ◌+◌, ◌<◌, ◌≡◌, ◌≢◌, ◌≤◌}
use Rattle.std.proofs.lemmas.List.{take_more}
use Rattle.std.proofs.lemmas.Option.{slice_get-get_or, slice_get_past}
use Rattle.std.specs.Prelude.{slice_get}

-- one bucket is given back
abbrev gives : ℕ → CachingParty → ℕ → CachingParty → Type 0
gives from made number next = TellsReturnNumber made number from ok next

-- the call for a number was refused
abbrev refuses : ℕ → CachingParty → CachingParty → ℕ → Type 0
refuses from last after number = (code : ℕ) × (code ≢ ok) × TellsReturnNumber last number from code after

pub loop-number-preserved : goal.loop-number-preserved
loop-number-preserved c =
    let numbers = c.args.numbers.now in
    let index = c.loop-number.number-index in
    let made = c.loop-number.self in
    let next = c.return_number.new.self in
    let before = c.loop-number.invariant in
    let number = get_or numbers index 0 in
    let within : index < length numbers = omega (arith, c.loop-number-test.true) in
    let freed : c.return_number.result ≡ ok = omega (arith, c.if-return_number-ne-OK.false) in
    record {
      counted = ap (λ (n : ℕ). n + 1) before.counted;
      freed = subst (λ (ns : List ℕ). AtEach (gives c.args.from) c.args.self.now ns next) (sym (take_more numbers index 0 within))
          (at-more (gives c.args.from) c.args.self.now (take index numbers) made number next before.freed
          (subst (λ (code : ℕ). TellsReturnNumber made number c.args.from code next) freed c.return_number.ensures));
    }

pub returns-then-return_number-ne-OK : goal.returns-then-return_number-ne-OK
returns-then-return_number-ne-OK c =
    let numbers = c.args.numbers.now in
    let index = c.loop-number.number-index in
    let returned = c.loop-number.returned in
    let made = c.loop-number.self in
    let before = c.loop-number.invariant in
    let number = get_or numbers index 0 in
    let within : index < length numbers = omega (arith, c.loop-number-test.true) in
    let lost : c.return_number.result ≢ ok = λ same. absurd (omega (arith, same, c.if-return_number-ne-OK.true)) in
    let there = slice_get-get_or numbers index 0 within in
    record {
      last = made;
      returned = subst (λ (n : ℕ). AtEach (gives c.args.from) c.args.self.now (take n numbers) made) (sym before.counted)
          before.freed;
      at_most = omega (arith, before.counted, within);
      all = λ end. absurd (omega (arith, before.counted, within, end));
      stopped = subst (λ (n : ℕ). IfSome (slice_get numbers n) (refuses c.args.from made c.return_number.new.self))
          (sym before.counted)
          (subst (λ at. IfSome at (refuses c.args.from made c.return_number.new.self)) (sym there)
          (c.return_number.result, lost, c.return_number.ensures));
    }

pub returns : goal.returns
returns c =
    let numbers = c.args.numbers.now in
    let made = c.loop-number.self in
    let counted = sym c.loop-number.invariant.counted in
    let end : length numbers ≤ c.loop-number.returned = omega (arith, counted, c.loop-number-test.false) in
    record {
      last = made;
      returned = subst (λ (n : ℕ). AtEach (gives c.args.from) c.args.self.now (take n numbers) made) counted
          c.loop-number.invariant.freed;
      at_most = omega (arith, counted, c.loop-number.auto.number-index-end);
      all = λ _. refl;
      stopped = subst (λ at. IfSome at (refuses c.args.from made made))
          (sym (slice_get_past numbers c.loop-number.returned end)) (record {});
    }
