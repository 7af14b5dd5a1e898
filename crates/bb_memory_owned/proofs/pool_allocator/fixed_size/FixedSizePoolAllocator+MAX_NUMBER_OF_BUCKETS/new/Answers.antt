use Rattle.bb_memory_index_set.specs.IndexSets.{NumberSet}
use Rattle.bb_memory_owned.proofs.FreshPools.{fresh-at_least, fresh-counted, fresh-is_pool}
use Rattle.bb_memory_owned.proofs.Pools.{fresh-stands}
use Rattle.bb_memory_owned.proofs.pool_allocator.fixed_size.FixedSizePoolAllocator+MAX_NUMBER_OF_BUCKETS.new.Goals as goal
use Rattle.bb_memory_owned.specs.Pool.{CountedPool, Pool, StandsFor, counted, fresh_pool}
use Rattle.bb_memory_traits.specs.PoolObject.{PoolGeometry, at_most}
use Rattle.std.proofs.Common.{[], ap, arith, subst, sym, ◌∙◌}

pub invariant_of-result : goal.invariant_of-result
invariant_of-result g c =
    let none = ap (λ (set : NumberSet). set.numbers) c.new-held.ensures in
    let told = c.count.ensures in (
      fresh-is_pool c.cut_at_most-geometry.result _ _ none told.value told.region told.geometry,
      omega (arith, c.new.ensures),
      fresh-at_least c.cut_at_most-geometry.result _ _ none told.value _,
    )

pub returns-clause-value : goal.returns-clause-value
returns-clause-value g c =
    let none = ap (λ (set : NumberSet). set.numbers) c.new-held.ensures in
    let most = ap (λ (set : NumberSet). set.most) c.new-held.ensures in
    let cut = c.cut_at_most-geometry.ensures in (
      cut.whole,
      cut.cut,
      fresh-counted c.cut_at_most-geometry.result _ _ none c.count.ensures.value _ _ c.new.ensures most
          ∙ ap (λ (geometry : PoolGeometry). counted (fresh_pool geometry) 0 0) cut.first,
    )

pub returns-clause-empty : goal.returns-clause-empty
returns-clause-empty g c =
    let value = returns-clause-value g c in
    subst (λ (pool : Pool). StandsFor pool []) (sym (ap (λ (it : CountedPool). it.pool) value.2))
    (fresh-stands (at_most g.row.MAX_NUMBER_OF_BUCKETS value.0))

pub cut_at_most-geometry-requires : goal.cut_at_most-geometry-requires
cut_at_most-geometry-requires g c = c.requires.cut

pub new-held-requires : goal.new-held-requires
new-held-requires g c = grind arith
