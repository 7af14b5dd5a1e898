use Rattle.bb_memory_bump.proofs.bump_allocator.bump_object_law.Goals as goal
use Rattle.bb_memory_traits.proofs.BumpObjects.{answer-after_all, answer-aligned, answer-inside, answer-len, one_answer, run-keeps, some_answer}

pub returns : goal.returns
returns c = record {
  some_answer = some_answer;
  one_answer = one_answer;
  aligned = answer-aligned;
  after_all = answer-after_all;
  exact_size = answer-len;
  keeps_sound = run-keeps;
  inside = answer-inside;
}
