use Rattle.bb_memory_traits.proofs.Cuts.{may-be-cut-few, room-cut, room_for, some-value, stride-positive}
use Rattle.bb_memory_traits.proofs.Factors.{HasOddPart, odd-part}
use Rattle.bb_memory_traits.proofs.geometry.Geometry.new.Goals as goal
use Rattle.bb_memory_traits.specs.Chunk.{Region, first_place, region_at}
use Rattle.bb_memory_traits.specs.PoolObject.{IsCut, pool_geometry, stride}
use Rattle.bb_memory_traits.specs.declared.layout.Layout.{Layout}
use Rattle.std.proofs.Common.{arith, refl, subst, sym, w64, ℕ, ◌/◌, ◌<◌, ◌^◌, ◌≡◌}
use Rattle.std.specs.Int.{trailing_zeros}

parts : (bucket : Layout) (n : ℕ) → 0 < bucket.size → n ≡ stride bucket → n < 2 ^ 64 → HasOddPart n
parts bucket n filled is small = odd-part n (omega (arith, is, stride-positive bucket filled)) small

pub overflow_shr-stride : goal.overflow_shr-stride
overflow_shr-stride c =
    (parts c.args.bucket_layout _ c.requires.filled c.stride-stride.ensures c.stride-stride.type_inv).short

pub inverse_of-requires : goal.inverse_of-requires
inverse_of-requires c =
    (parts c.args.bucket_layout _ c.requires.filled c.stride-stride.ensures c.stride-stride.type_inv).odd

pub nonzero_div-result : goal.nonzero_div-result
nonzero_div-result c = omega (arith, stride-positive c.args.bucket_layout)

begins : (c : goal.After-inverse_of) → c.unwrap-first.result
    ≡ first_place (region_at c.args.start c.args.size) c.args.bucket_layout
begins c =
    let first = some-value c.round_up.result _ _ c.unwrap-first.result c.round_up.ensures.value c.unwrap-first.ensures in
    rw (first, c.align.ensures.value) refl

counts : (c : goal.After-inverse_of) → c.saturating_sub-room.result / c.stride-stride.result
    ≡ room_for (region_at c.args.start c.args.size) c.args.bucket_layout
counts c = rw (c.saturating_sub-room.ensures, c.stride-stride.ensures, begins c) refl

pub overflow_cast-result : goal.overflow_cast-result
overflow_cast-result c =
    omega (arith, counts c, may-be-cut-few (region_at c.args.start c.args.size) c.args.bucket_layout c.requires)

pub returns : goal.returns
returns c =
    let region : Region = region_at c.args.start c.args.size in
    subst (λ (n : ℕ). IsCut region c.args.bucket_layout (pool_geometry region c.args.bucket_layout n)) (sym (counts c))
    (room-cut region c.args.bucket_layout c.requires.filled)

pub invariant_of-result : goal.invariant_of-result
invariant_of-result c =
    let n : ℕ = c.stride-stride.result in
    let own = parts c.args.bucket_layout n c.requires.filled c.stride-stride.ensures c.stride-stride.type_inv in
    record {
      is_region = c.requires.is_region;
      is_geometry = record { filled = c.requires.filled; room = λ i below. ((returns c).filled i).0 below };
      begins = begins c;
      strides = c.stride-stride.ensures;
      factored = record {
        odd = n / 2 ^ trailing_zeros w64 n;
        factors = own.factors;
        short = own.short;
        inverted = c.inverse_of.ensures;
      };
    }
