use Rattle.bb_memory_pool_machine.specs.PoolLogs.{IsHeldAfter}
use Rattle.bb_memory_shared_pools.proofs.shared_pool.caching.return_all.Given as goal
use Rattle.bb_memory_shared_pools.specs.SharedPool.{IsSameParty, with_entries}
use Rattle.bb_memory_shared_pools.specs.SharedPoolCaching.{AreCached, returns_of}
use Rattle.std.proofs.Common.{vec_capacity, vec_len, ℕ, ◌≡◌}
use Rattle.std.specs.Prelude.{Contains}

abbrev pub invariant-loop-number : goal.invariant-loop-number
invariant-loop-number g l = record {
  party : l.party.allocator ≡ l.pool;
  is_party : IsSameParty l.initial.party l.party;
  logged : with_entries l.party (returns_of l.party.number l.cached.items)
      ≡ with_entries l.initial.party (returns_of l.initial.party.number l.initial.cached.items);
  cached : AreCached l.party l.cached.items;
  capacity : vec_capacity l.cached ≡ vec_capacity l.initial.cached;
  kept : (other : ℕ) → ¬ Contains l.initial.cached.items other → IsHeldAfter l.initial.party.log other
      → IsHeldAfter l.party.log other;
  others : (other : ℕ) → IsHeldAfter l.party.log other → IsHeldAfter l.initial.party.log other;
  left : (other : ℕ) → IsHeldAfter l.party.log other → Contains l.initial.cached.items other → Contains l.cached.items other;
  among : (other : ℕ) → Contains l.cached.items other → Contains l.initial.cached.items other;
}

abbrev pub decreases-loop-number : goal.decreases-loop-number
decreases-loop-number g l = vec_len l.cached
