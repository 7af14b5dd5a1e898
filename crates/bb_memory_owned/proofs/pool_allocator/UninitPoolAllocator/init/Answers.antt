use Rattle.bb_memory_index_set.specs.IndexSets.{NumberSet}
use Rattle.bb_memory_owned.proofs.FreshPools.{fresh-at_least, fresh-counted, fresh-is_pool}
use Rattle.bb_memory_owned.proofs.Pools.{fresh-stands}
use Rattle.bb_memory_owned.proofs.pool_allocator.UninitPoolAllocator.init.Goals as goal
use Rattle.bb_memory_owned.specs.Pool.{CountedPool, Pool, StandsFor, counted, fresh_pool}
use Rattle.bb_memory_traits.specs.PoolObject.{PoolGeometry}
use Rattle.std.proofs.Common.{[], ap, arith, subst, sym, ◌∙◌}

pub invariant_of-result : goal.invariant_of-result
invariant_of-result g c =
    let none = ap (λ (set : NumberSet). set.numbers) (c.in-Ok.ensures {u = tt}) in
    let told = c.count.ensures in (
      fresh-is_pool c.self.inside.geometry _ _ none told.value told.region told.geometry,
      omega (arith, c.new-in-Ok.ensures),
      fresh-at_least c.self.inside.geometry _ _ none told.value _,
    )

pub returns-in-Ok-clause-value : goal.returns-in-Ok-clause-value
returns-in-Ok-clause-value g c =
    let none = ap (λ (set : NumberSet). set.numbers) (c.in-Ok.ensures {u = tt}) in
    let most = ap (λ (set : NumberSet). set.most) (c.in-Ok.ensures {u = tt}) in
    fresh-counted c.self.inside.geometry _ _ none c.count.ensures.value _ _ c.new-in-Ok.ensures most
    ∙ ap (λ (geometry : PoolGeometry). counted (fresh_pool geometry) 0 0) c.self.view_is

pub returns-in-Ok-clause-empty : goal.returns-in-Ok-clause-empty
returns-in-Ok-clause-empty g c =
    subst (λ (pool : Pool). StandsFor pool []) (sym (ap (λ (it : CountedPool). it.pool) (returns-in-Ok-clause-value g c)))
    (fresh-stands c.args.self)
