use Rattle.bb_memory_c_calls.proofs.ManyCalls.{at-more, took}
use Rattle.bb_memory_c_calls.proofs.call.take_each.Goals as goal
use Rattle.bb_memory_c_calls.specs.Calls.{AtEach, TakesAt}
use Rattle.std.proofs.Common.{List, ap, arith, length, subst, sym, take, ℕ, ◌+◌, ◌<◌, ◌∙◌}
use Rattle.std.proofs.lemmas.Grind.{drop_more_same}
use Rattle.std.proofs.lemmas.List.{drop-set-lt, take_more_set}

pub loop-slot-preserved : goal.loop-slot-preserved
loop-slot-preserved g c =
    let slots = c.loop-slot.slots in
    let index = c.loop-slot.slot-index in
    let answer = c.take_one-answer.result in
    let before = c.loop-slot.invariant in
    let step = TakesAt g.M.Bucketed.may_take in
    let within : index < length slots = omega (arith, c.loop-slot-test.true) in
    let taken = took g.M.Bucketed.may_take c.loop-slot.made c.take_one-answer.new.made answer c.take_one-answer.ensures
    (omega arith) in
    record {
      counted = ap (λ (n : ℕ). n + 1) before.counted;
      made = subst (λ (ps : List ℕ). AtEach step c.args.made.now ps c.take_one-answer.new.made)
          (sym (take_more_set slots index answer.place within))
          (at-more step c.args.made.now (take index slots) c.loop-slot.made answer.place c.take_one-answer.new.made
          before.made taken);
      others = drop-set-lt (index + 1) slots index answer.place (omega arith)
          ∙ drop_more_same slots c.args.slots.now index before.others;
    }
