-- A pool that a constructor has made: no bucket is held, and no word was read.
use Rattle.bb_memory_index_set.proofs.Tallies.{member_count-fresh}
use Rattle.bb_memory_index_set.specs.IndexSets.{member_count}
use Rattle.bb_memory_owned.specs.Pool.{IsPool, counted, fresh_pool, held_count, pool_of}
use Rattle.bb_memory_traits.specs.Chunk.{IsRegion}
use Rattle.bb_memory_traits.specs.PoolObject.{IsPoolGeometry, PoolGeometry}
use Rattle.std.proofs.Common.{Bool, List, ap, arith, false, length, replicate, ℕ, ◌∙◌, ◌≡◌, ◌≤◌}
use Rattle.std.proofs.lemmas.List.{length-replicate}

-- a set below the number of buckets, with no number in it
module _ (geometry : PoolGeometry) (held : List Bool) (count : ℕ) (none : held ≡ replicate count false)
    (all : count ≡ geometry.buckets) where
  pub fresh-counted : (reads greatest : ℕ) → reads ≡ 0 → greatest ≡ 0 →
      counted (pool_of geometry held) reads greatest ≡ counted (fresh_pool geometry) 0 0
  fresh-counted reads greatest unread unheld =
      ap (λ n. counted (pool_of geometry held) n greatest) unread
      ∙ ap (counted (pool_of geometry held) 0) unheld
      ∙ ap (λ (flags : List Bool). counted (pool_of geometry flags) 0 0) (none ∙ ap (λ n. replicate n false) all)

  pub fresh-at_least : (greatest : ℕ) → held_count (pool_of geometry held) ≤ greatest
  fresh-at_least greatest = omega (arith, ap (λ (l : List Bool). member_count l) none, member_count-fresh count)

  pub fresh-is_pool : IsRegion geometry.region → IsPoolGeometry geometry → IsPool (pool_of geometry held)
  fresh-is_pool region is = record {
    region = region;
    geometry = is;
    flags = ap (λ (flags : List Bool). length flags) none ∙ length-replicate count false ∙ all;
  }
