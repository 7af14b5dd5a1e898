use Rattle.bb_memory_owned.proofs.pool_allocator.bucket_pool.take.Goals as goal
use Rattle.bb_memory_owned.specs.Pool.{Pool, Takes, pool_of, reads_of}
use Rattle.bb_memory_traits.specs.Chunk.{Chunk}
use Rattle.bb_memory_traits.specs.Geometry.{Admits}
use Rattle.bb_memory_traits.specs.PoolObject.{IsWithin, PoolGeometry, bucket_place}
use Rattle.bb_memory_traits.specs.declared.allocator.AllocationError.{AllocationError}
use Rattle.bb_memory_traits.specs.declared.allocator.AllocationError.TheVariants.{AlignmentFailure, OutOfMemory, SizeIsZero, SizeTooLarge}
use Rattle.bb_memory_traits.specs.declared.layout.Layout.{Layout}
use Rattle.std.proofs.Common.{Bool, List, ap, arith, cond, leb, min, refl, rules, subst, sym, ℕ, ◌&&◌, ◌<◌, ◌∙◌, ◌≡◌, ◌≤◌}
use Rattle.std.proofs.lemmas.Bool.{le-leb, lt-leb}
use Rattle.std.proofs.lemmas.Option.{slice_get_within}
use Rattle.std.specs.Prelude.{Err}

of_small : (bucket : Layout) (words : ℕ) (layout : Layout) → layout.size ≤ bucket.size →
    reads_of bucket words layout ≡ cond (leb layout.align bucket.align) (min words 1) 0
of_small bucket words layout small =
    ap (λ b. cond (b && leb layout.align bucket.align) (min words 1) 0) (le-leb layout.size bucket.size small)

-- a request that isn't admitted takes nothing, and reads nothing
takes_none : (pool : Pool) (layout : Layout) (error : AllocationError) → Admits pool.geometry.bucket layout (Err error) →
    Takes pool layout (Err error) pool
takes_none pool layout SizeTooLarge large = (large, refl)
takes_none pool layout AlignmentFailure large = (large.0, large.1, refl)
takes_none pool layout SizeIsZero refused = absurd refused
takes_none pool layout OutOfMemory refused = absurd refused

reads_none : (bucket : Layout) (words : ℕ) (layout : Layout) (error : AllocationError) → Admits bucket layout (Err error) →
    reads_of bucket words layout ≡ 0
reads_none bucket words layout SizeTooLarge large =
    ap (λ b. cond (b && leb layout.align bucket.align) (min words 1) 0) (lt-leb layout.size bucket.size large)
reads_none bucket words layout AlignmentFailure large = of_small bucket words layout large.0
    ∙ ap (λ b. cond b (min words 1) 0) (lt-leb layout.align bucket.align large.1)
reads_none bucket words layout SizeIsZero refused = absurd refused
reads_none bucket words layout OutOfMemory refused = absurd refused

pub returns-in_err-admit : goal.returns-in_err-admit
returns-in_err-admit g c =
    let error = c.in_err-admit.field-0.0 in
    let told : c.from_residual.result ≡ Err error = search rules in
    rw told record {
      taken = takes_none _ c.args.layout error c.in_err-admit.ensures;
      reads = c.requires.uncounted ∙ sym (reads_none c.args.geometry.now.bucket _ c.args.layout error c.in_err-admit.ensures);
      greatest = omega (arith, c.requires.at_least);
    }

-- a request within a bucket reads as a set of its numbers does
within_reads : (words : ℕ → ℕ) (count : ℕ) (geometry : PoolGeometry) (layout : Layout) → IsWithin geometry.bucket layout →
    count ≡ geometry.buckets → min (words count) 1 ≡ reads_of geometry.bucket (words geometry.buckets) layout
within_reads words count geometry layout within same =
    ap (λ n. min (words n) 1) same
    ∙ sym (of_small geometry.bucket _ layout within.size
    ∙ ap (λ b. cond b (min (words geometry.buckets) 1) 0) (le-leb layout.align geometry.bucket.align within.align))

pub returns-in_default : goal.returns-in_default
returns-in_default g c =
    let geometry : PoolGeometry = c.args.geometry.now in
    let within : IsWithin geometry.bucket c.args.layout = c.in_ok-admit.ensures in
    record {
      taken = (
        within,
        c.in_default.ensures.full,
        ap (λ (held : List Bool). pool_of geometry held) c.in_default.ensures.unchanged,
      );
      reads = c.in_default.ensures.counted
          ∙ within_reads g.S.IndexSet.words _ geometry c.args.layout within c.requires.as_many;
      greatest = c.in_default.ensures.most;
    }

pub chunk-requires : goal.chunk-requires
chunk-requires g c =
    let within : IsWithin c.args.geometry.now.bucket c.args.layout = c.in_ok-admit.ensures in
    record {
      below = subst (λ n. c.in-Some.i < n) c.requires.as_many (slice_get_within _ _ _ c.in-Some.ensures.lacked);
      short = omega (arith, within.size, c.size.ensures);
    }

pub returns : goal.returns
returns g c =
    let geometry : PoolGeometry = c.args.geometry.now in
    let within : IsWithin geometry.bucket c.args.layout = c.in_ok-admit.ensures in
    let chunk : ℕ → Chunk = λ len. record { place = bucket_place geometry c.in-Some.i; len = len } in
    record {
      taken = (
        c.in-Some.i,
        within,
        c.in-Some.ensures.lacked,
        c.chunk.ensures.value ∙ ap chunk c.size.ensures,
        ap (λ (held : List Bool). pool_of geometry held) c.in-Some.ensures.taken,
      );
      reads = c.in-Some.ensures.counted
          ∙ within_reads g.S.IndexSet.words _ geometry c.args.layout within c.requires.as_many;
      greatest = c.in-Some.ensures.most;
    }
