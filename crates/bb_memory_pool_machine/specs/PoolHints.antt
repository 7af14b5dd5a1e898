-- The hint of a party of a pool: at which bucket its next search begins, and how each taking and each return moves that.
use Rattle.bb_memory_pool_machine.specs.declared.hint.Hint.{Hint}
use Rattle.bb_memory_pool_machine.specs.declared.steps.pool.PoolOutcome.{PoolOutcome}
use Rattle.bb_memory_pool_machine.specs.declared.steps.pool.PoolOutcome.TheVariants.{Gives, Takes}
use Rattle.std.specs.Prelude.{Bool, if◌then◌else◌, nat_lt, not, ℕ, ◌&&◌, ◌*◌, ◌+◌, ◌-◌, ◌/◌, ◌==◌, ◌||◌}

-- the first bucket of a party's own part of a pool, which is cut into as many parts as there are parties
abbrev pub part_of : ℕ → ℕ → ℕ → ℕ
part_of buckets parties number = number * buckets / parties

-- The least walk of a rover, for buckets of this size: 64 buckets, or as many as fit into 1 MiB if those are fewer, but at least
-- one.
abbrev pub least_walk : ℕ → ℕ
least_walk size = if nat_lt 16384 size then (if nat_lt 1048576 size then 1 else 1048576 / size) else 64

-- The limit of a rover that may walk over this many buckets from `home` on, in a pool of `buckets` buckets. Bucket 0 follows the
-- last one. If the rover may walk over the whole pool, the limit is `home`.
abbrev pub limit_at : ℕ → ℕ → ℕ → ℕ
limit_at buckets home walk = if nat_lt walk buckets
    then (if nat_lt buckets (home + walk) then home + walk - buckets else home + walk)
    else home

-- the hint of a party that has made no step, whose part begins at bucket `home`
abbrev pub hint_at : ℕ → ℕ → ℕ → Hint
hint_at buckets home least = record {
  bucket = home;
  rover = home;
  limit = limit_at buckets home least;
  home = home;
  least = least;
  buckets = buckets;
}

-- the rover comes home, and the next search begins there
abbrev pub come_home : Hint → Hint
come_home hint = hint_at hint.buckets hint.home hint.least

-- the hint with these two buckets
abbrev pub with_buckets : Hint → ℕ → ℕ → Hint
with_buckets hint bucket rover = record {
  bucket = bucket;
  rover = rover;
  limit = hint.limit;
  home = hint.home;
  least = hint.least;
  buckets = hint.buckets;
}

-- the rover and the next search are at this bucket
abbrev pub roving_at : Hint → ℕ → Hint
roving_at hint bucket = with_buckets hint bucket bucket

-- the hint with this limit
abbrev pub with_limit : Hint → ℕ → Hint
with_limit hint limit = record {
  bucket = hint.bucket;
  rover = hint.rover;
  limit = limit;
  home = hint.home;
  least = hint.least;
  buckets = hint.buckets;
}

-- The taking of this bucket leaves the rover: the search began at the taken bucket and not at the
-- rover.
abbrev pub leaves_rover : Hint → ℕ → Bool
leaves_rover hint bucket = bucket == hint.bucket && not (bucket == hint.rover)

-- how many buckets a search from home misses before this one
abbrev pub missed_from_home : Hint → ℕ → ℕ
missed_from_home hint bucket =
    if nat_lt bucket hint.home then hint.buckets - hint.home + bucket else bucket - hint.home

-- The limit after a search from home that took this bucket: from the next bucket on, the rover may walk over a sixteenth of a
-- least walk for each bucket that the search missed, and at least over one least walk.
abbrev pub limit_from : Hint → ℕ → ℕ
limit_from hint bucket = let missed : ℕ = missed_from_home hint bucket in let more : ℕ = hint.least * missed / 16 in
    limit_at hint.buckets hint.home (missed + 1 + (if nat_lt hint.least more then more else hint.least))

-- A search that took this bucket came to the limit or past it. If the bucket is before the search's first one, the search went on
-- from bucket 0.
abbrev pub comes_to_limit : Hint → ℕ → Bool
comes_to_limit hint bucket = if nat_lt hint.bucket hint.limit
    then nat_lt bucket hint.bucket || not (nat_lt (bucket + 1) hint.limit)
    else nat_lt bucket hint.bucket && not (nat_lt (bucket + 1) hint.limit)

-- the hint after a taking of this bucket that doesn't leave the rover
abbrev pub walk_on : Hint → ℕ → Hint
walk_on hint bucket = if hint.bucket == hint.home && not (bucket == hint.home)
    then roving_at (with_limit hint (limit_from hint bucket)) (bucket + 1)
    else if comes_to_limit hint bucket then come_home hint else roving_at hint (bucket + 1)

-- The rover after a return that moves the hint: the bucket at which the next search would have
-- begun. But the rover stays if that bucket is at most 128 ahead of it.
abbrev pub rover_back : Hint → ℕ
rover_back hint = if nat_lt hint.bucket hint.rover || nat_lt (hint.rover + 128) hint.bucket then hint.bucket else hint.rover

-- The next search still begins at the hint's bucket after a return of this bucket: the hint's
-- bucket is at most 128 before this one, and came back since the party's last taking, which is so
-- if it is before the rover.
abbrev pub stays_at : Hint → ℕ → Bool
stays_at hint bucket =
    nat_lt hint.bucket hint.rover && nat_lt hint.bucket bucket && not (nat_lt (hint.bucket + 128) bucket)

-- The hint after one more step. After a taking, the next search begins at the rover. After a
-- return, the next search begins at the bucket that came back, unless `stays_at` holds: then it
-- begins where it would have begun, and a rover after the bucket that came back moves to that
-- bucket.
abbrev pub hint_after : Hint → PoolOutcome → Hint
hint_after hint (Takes bucket) = if leaves_rover hint bucket then roving_at hint hint.rover else walk_on hint bucket
hint_after hint (Gives bucket) = if stays_at hint bucket
    then with_buckets hint hint.bucket (if nat_lt bucket hint.rover then bucket else hint.rover)
    else with_buckets hint bucket (rover_back hint)
hint_after hint _ = hint

-- the hint of a party that has made no step: the first bucket of its own part. Each bucket has `size` bytes.
abbrev pub first_hint : ℕ → ℕ → ℕ → ℕ → Hint
first_hint buckets parties size number = hint_at buckets (part_of buckets parties number) (least_walk size)
