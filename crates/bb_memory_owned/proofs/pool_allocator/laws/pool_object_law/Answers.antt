use Rattle.bb_memory_owned.proofs.PoolAnswers.{answer-aligned, answer-bucket_aligned, answer-inside, answer-len, answer-new, given_or_refused, one_cause, some_answer}
use Rattle.bb_memory_owned.proofs.PoolRuns.{base_run-keeps, places-a_stride_apart, places-aligned, released-room, run-keeps}
use Rattle.bb_memory_owned.proofs.Pools.{fresh-stands}
use Rattle.bb_memory_owned.proofs.pool_allocator.laws.pool_object_law.Goals as goal
use Rattle.bb_memory_traits.proofs.Resizes.{one_grow, one_shrink, some_grow, some_shrink}

pub returns : goal.returns
returns c = record {
  some_answer = some_answer;
  one_cause = one_cause;
  given_or_refused = given_or_refused;
  aligned = answer-aligned;
  bucket_aligned = answer-bucket_aligned;
  exact_size = answer-len;
  new_place = answer-new;
  inside = answer-inside;
  some_grow = λ bucket place old new. some_grow bucket.size bucket.align new.size place old new;
  one_grow = λ bucket place old new. one_grow bucket.size bucket.align new.size place old new;
  some_shrink = λ bucket. some_shrink bucket.align;
  one_shrink = λ bucket. one_shrink bucket.align;
  fresh = fresh-stands;
  aligned_places = places-aligned;
  stride_apart = places-a_stride_apart;
  release_makes_room = released-room;
  keeps_sound = run-keeps;
  keeps_sound_base = base_run-keeps;
}
