use Rattle.bb_memory_index_set.proofs.Tallies.{member_count-released}
use Rattle.bb_memory_owned.proofs.PoolCalls.{FreesBucket-is, released-stands}
use Rattle.bb_memory_owned.proofs.Pools.{IsPool-with_flag}
use Rattle.bb_memory_owned.proofs.pool_allocator.bucket_pool.BucketPool.deallocate_if_held.Goals as goal
use Rattle.bb_memory_owned.specs.Pool.{HoldsPlace, held_place}
use Rattle.std.proofs.Common.{arith, false, refl, subst}
use Rattle.std.proofs.lemmas.Bool.{false≢true}

pub returns-in_default-clause-released : goal.returns-in_default-clause-released
returns-in_default-clause-released g c = λ live position chunk stands at there.
    let pool = c.args.self.now.pool in
    let no = c.in_default.ensures.held.1 (subst (HoldsPlace pool) there (held_place pool live position chunk stands at)) in
    absurd (false≢true no)

pub invariant_of-self : goal.invariant_of-self
invariant_of-self g c =
    let has = rw (← c.self.view_is) at c.in-Some.ensures.has in
    rw (c.release.ensures.released, c.release.ensures.most) (
      IsPool-with_flag _ c.self.invariant.0 c.in-Some.number false,
      c.self.invariant.1,
      omega (arith, c.self.invariant.2, member_count-released _ c.in-Some.number has),
    )

pub returns-clause-freed : goal.returns-clause-freed
returns-clause-freed g c = λ yes.
    let has = rw (← c.self.view_is) at c.in-Some.ensures.has in
    let there = rw (← c.self.view_is) at c.in-Some.ensures.there in
    rw (← c.self.view_is, c.release.ensures.released, c.release.ensures.most)
    (FreesBucket-is _ c.args.place c.in-Some.number c.self.invariant.0 has there _ _)

pub returns-clause-released : goal.returns-clause-released
returns-clause-released g c =
    let has = rw (← c.self.view_is) at c.in-Some.ensures.has in
    let there = rw (← c.self.view_is) at c.in-Some.ensures.there in
    rw (← c.self.view_is, c.release.ensures.released)
    (released-stands _ c.args.place c.in-Some.number c.self.invariant.0 has there)

pub returns-clause-given_back : goal.returns-clause-given_back
returns-clause-given_back g c = (returns-clause-freed g c refl).given_back

pub returns-clause-others_kept : goal.returns-clause-others_kept
returns-clause-others_kept g c = (returns-clause-freed g c refl).others_kept
