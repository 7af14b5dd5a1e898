use Rattle.bb_memory_index_set.proofs.Tallies.{member_count-released}
use Rattle.bb_memory_owned.proofs.PoolCalls.{FreesBucket-is, number-held, released-stands}
use Rattle.bb_memory_owned.proofs.Pools.{IsPool-with_flag}
use Rattle.bb_memory_owned.proofs.pool_allocator.bucket_pool.BucketPoolBaseAllocator.deallocate.Goals as goal
use Rattle.bb_memory_owned.specs.Pool.{bucket_held_at}
use Rattle.std.proofs.Common.{arith, false}

pub overflow_sub-place : goal.overflow_sub-place
overflow_sub-place g c =
    let (i, has, there) = bucket_held_at _ c.args.place (rw (← c.self.view_is) at c.requires) in
    omega (arith, c.first.ensures, there)

pub release-requires : goal.release-requires
release-requires g c =
    let told = c.whole_strides-number.ensures in
    let holds = rw (← c.self.view_is) at c.requires in
    (number-held _ c.args.place c.first.result c.whole_strides-number.result holds c.first.ensures told.whole told.some).0

pub invariant_of-self : goal.invariant_of-self
invariant_of-self g c =
    let told = c.whole_strides-number.ensures in
    let holds = rw (← c.self.view_is) at c.requires in
    let held = number-held _ c.args.place c.first.result c.whole_strides-number.result holds c.first.ensures told.whole
    told.some in
    rw (c.release.ensures.released, c.release.ensures.most) (
      IsPool-with_flag _ c.self.invariant.0 c.whole_strides-number.result false,
      c.self.invariant.1,
      omega (arith, c.self.invariant.2, member_count-released _ c.whole_strides-number.result held.0),
    )

pub returns-clause-released : goal.returns-clause-released
returns-clause-released g c =
    let told = c.whole_strides-number.ensures in
    let holds = rw (← c.self.view_is) at c.requires in
    let held = number-held _ c.args.place c.first.result c.whole_strides-number.result holds c.first.ensures told.whole
    told.some in
    rw (← c.self.view_is, c.release.ensures.released)
    (released-stands _ c.args.place c.whole_strides-number.result c.self.invariant.0 held.0 held.1)

pub returns-clause-value : goal.returns-clause-value
returns-clause-value g c =
    let told = c.whole_strides-number.ensures in
    let holds = rw (← c.self.view_is) at c.requires in
    let held = number-held _ c.args.place c.first.result c.whole_strides-number.result holds c.first.ensures told.whole
    told.some in
    rw (← c.self.view_is, c.release.ensures.released, c.release.ensures.most)
    (FreesBucket-is _ c.args.place c.whole_strides-number.result c.self.invariant.0 held.0 held.1 _ _)
