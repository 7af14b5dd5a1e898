use Rattle.bb_memory_owned.proofs.pool_allocator.PoolAllocator+Global.can_make.Goals as goal
use Rattle.bb_memory_traits.proofs.Cuts.{may-be-cut, may-be-cut-few, room_for, stride-positive}
use Rattle.bb_memory_traits.specs.Chunk.{IsRegion, Region, first_place, region_at}
use Rattle.std.proofs.Common.{arith, refl, ◌/◌, ◌≡◌}
use Rattle.std.proofs.lemmas.Bool.{lt-ltb, ltb-true}

pub nonzero_div-result : goal.nonzero_div-result
nonzero_div-result c = omega (arith, stride-positive c.args.bucket_layout)

pub returns : goal.returns
returns c =
    let region : Region = region_at c.args.start c.args.size in
    let bucket = c.args.bucket_layout in
    let end = c.in-Some.ensures {u = tt} in
    let first = (c.in-Some-round_up.ensures {u = tt}).value in
    let begins : c.in-Some-round_up.first ≡ first_place region bucket = rw (first.1, c.align.ensures.value) refl in
    let room : c.saturating_sub.result / c.stride.result ≡ room_for region bucket =
    rw (c.saturating_sub.ensures, c.stride.ensures, begins, end.1) refl in
    let is : IsRegion region = record { start = omega arith; end = omega (arith, end.0) } in (
      λ few. may-be-cut region bucket is (omega (arith, begins)) (omega arith) (omega (arith, room, ltb-true _ _ few)),
      λ may. lt-ltb _ _ (omega (arith, room, may-be-cut-few region bucket may)),
    )
