use Rattle.bb_memory_c.proofs.shared_pool.JoinedPool.take_each_detached.Goals as goal
use Rattle.bb_memory_c.specs.SharedPools.{TakesDetached, TakesManyDetached}
use Rattle.bb_memory_c_calls.proofs.ManyCalls.{at-more}
use Rattle.bb_memory_c_calls.specs.Calls.{AtEach}
use Rattle.bb_memory_shared_pools.specs.SharedPool.{SharedPool}
use Rattle.bb_memory_shared_pools.specs.SharedPoolCaching.{CachingParty}
use Rattle.std.proofs.Common.{List, ap, arith, drop, length, refl, subst, sym, take, ℕ, ◌+◌, ◌<◌, ◌∙◌, ◌≡◌}
use Rattle.std.proofs.lemmas.Grind.{drop_more_same}
use Rattle.std.proofs.lemmas.List.{drop-set-lt, set-get_or, take_more_set}

same_pool : {party after : CachingParty} {number : ℕ} → TakesDetached party number after →
    after.party.allocator ≡ party.party.allocator
same_pool (taken, bucket, serves, its, is) = ap (λ (j : CachingParty). j.party.allocator) is ∙ serves.party

pub loop-slot-preserved : goal.loop-slot-preserved
loop-slot-preserved c =
    let numbers = c.loop-slot.numbers in
    let index = c.loop-slot.slot-index in
    let before = c.loop-slot.invariant in
    let next = c.take_detached.new.self in
    let number = c.in-Some.number in
    let did : TakesDetached c.loop-slot.self number next = c.in-Some.ensures.taken in
    let within : index < length numbers = omega (arith, c.loop-slot-test.true) in
    record {
      counted = ap (λ (n : ℕ). n + 1) before.counted;
      several = subst (λ (p : SharedPool). 1 < p.scene.parties) (sym (same_pool did)) before.several;
      taken = subst (λ (ns : List ℕ). AtEach TakesDetached c.args.self.now ns next)
          (sym (take_more_set numbers index number within))
          (at-more TakesDetached c.args.self.now (take index numbers) c.loop-slot.self number next before.taken did);
      others = drop-set-lt (index + 1) numbers index number (omega arith)
          ∙ drop_more_same numbers c.args.numbers.now index before.others;
    }

pub returns-in_default : goal.returns-in_default
returns-in_default c =
    let numbers = c.loop-slot.numbers in
    let index = c.loop-slot.slot-index in
    let before = c.loop-slot.invariant in
    let made = c.loop-slot.self in
    let counted = sym before.counted in
    let within : index < length numbers = omega (arith, c.loop-slot-test.true) in
    subst (λ (ns : List ℕ). TakesManyDetached c.args.self.now c.take_detached.new.self c.args.numbers.now ns c.loop-slot.taken)
    (sym (set-get_or numbers index 0)) record {
      last = made;
      taken = subst (λ (n : ℕ). AtEach TakesDetached c.args.self.now (take n numbers) made) counted before.taken;
      at_most = omega (arith, counted, within, c.loop-slot.auto.numbers);
      others = subst (λ (n : ℕ). drop n numbers ≡ drop n c.args.numbers.now) counted before.others;
      all = λ end. absurd (omega (arith, counted, within, c.loop-slot.auto.numbers, end));
      refused = λ _. c.in_default.ensures.refused;
    }

pub returns : goal.returns
returns c =
    let numbers = c.loop-slot.numbers in
    let before = c.loop-slot.invariant in
    let made = c.loop-slot.self in
    let counted = sym before.counted in
    record {
      last = made;
      taken = subst (λ (n : ℕ). AtEach TakesDetached c.args.self.now (take n numbers) made) counted before.taken;
      at_most = omega (arith, counted, c.loop-slot.auto.slot-index-end, c.loop-slot.auto.numbers);
      others = subst (λ (n : ℕ). drop n numbers ≡ drop n c.args.numbers.now) counted before.others;
      all = λ _. refl;
      refused = λ less. absurd (omega (arith, counted, less, c.loop-slot-test.false, c.loop-slot.auto.numbers));
    }
