use Rattle.bb_memory_owned.proofs.OneChunks.{answer-aligned, answer-inside, answer-long, answer-whole, base_run-keeps, one_answer, run-keeps, some_answer}
use Rattle.bb_memory_owned.proofs.one_chunk_allocator.one_chunk_object_law.Goals as goal
use Rattle.bb_memory_traits.proofs.Resizes.{one_grow, one_shrink, some_grow, some_shrink}
use Rattle.bb_memory_traits.specs.OneChunkObject.{reserved_at}

pub returns : goal.returns
returns c = record {
  some_answer = some_answer;
  one_answer = one_answer;
  some_grow = λ region place old new.
      some_grow (reserved_at region place) old.align (reserved_at region place) place old new;
  one_grow = λ region place old new. one_grow (reserved_at region place) old.align (reserved_at region place) place old new;
  some_shrink = λ place old new. some_shrink old.align place old new;
  one_shrink = λ place old new. one_shrink old.align place old new;
  aligned = answer-aligned;
  long_enough = answer-long;
  whole_rest = answer-whole;
  keeps_sound = run-keeps;
  keeps_sound_base = base_run-keeps;
  inside = answer-inside;
}
