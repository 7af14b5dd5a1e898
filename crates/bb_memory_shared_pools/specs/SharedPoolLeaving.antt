-- The buckets that a party of a shared pool holds, and how the party gives all of them back.
use Rattle.bb_memory_pool_machine.specs.PoolLogs.{IsHeldAfter, PoolLog, held_after}
use Rattle.bb_memory_shared_pools.specs.SharedPool.{PoolParty, return_entry, with_entries}
use Rattle.std.specs.Prelude.{Bool, [], false, fold, if◌then◌else◌, suc, zero, ℕ, ◌++◌, ◌≡◌}

-- the party holds at least one bucket
abbrev pub HoldsSome : PoolParty → Type 0
HoldsSome party = (bucket : ℕ) × IsHeldAfter party.log bucket

-- the party holds the bucket
abbrev pub holds_bucket : PoolParty → ℕ → Bool
holds_bucket party bucket = fold (λ held entry. held_after bucket held entry.outcome) false party.log

-- the party's return of the bucket, if it holds it
abbrev pub return_of : PoolParty → ℕ → PoolLog
return_of party bucket = if holds_bucket party bucket then return_entry party.number bucket else []

-- the party's returns of what it holds of the first buckets, in order of their numbers
abbrev pub returns_of : PoolParty → ℕ → PoolLog
returns_of party zero = []
returns_of party (suc bucket) = returns_of party bucket ++ return_of party bucket

-- the party gave back each bucket that it held, each by one step, and then holds none
pub record GivesAllBack (party after : PoolParty) : Type 0 where
  pub returned : after ≡ with_entries party (returns_of party party.allocator.scene.geometry.buckets)
  pub idle : ¬ HoldsSome after
