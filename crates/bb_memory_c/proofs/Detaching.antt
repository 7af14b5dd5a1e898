-- The results of a party's calls that detach a bucket.
use Rattle.bb_memory_c.specs.SharedPools.{Detached, HasDetached, HasOthers, HoldsAt, TellsDetach, geometry_of}
use Rattle.bb_memory_c_calls.specs.declared.code.TheConstants.{OK as ok}
use Rattle.bb_memory_shared_pools.specs.SharedPool.{TakenBucket}
use Rattle.bb_memory_shared_pools.specs.SharedPoolCaching.{CachingParty}
use Rattle.std.proofs.Common.{None, Some, arith, refl, ℕ, ◌≡◌, ◌≤◌}

pub detaches : {party : CachingParty} {before : Detached} {place len : ℕ} {after : CachingParty} {filled : Detached} (number : ℕ)
    (token : TakenBucket) → HoldsAt party place number → HasOthers party → len ≤ (geometry_of party).bucket.size →
    before ≡ None → filled ≡ Some token → HasDetached party number len after token →
    TellsDetach party before place len ok after filled
detaches number token holds others short none is did = record {
  one_party = λ alone. absurd (alone others);
  not_held = λ _ not. absurd (not (number, holds));
  too_large = λ _ large. absurd (omega (arith, short));
  full = λ _ some. absurd (some none);
  detached = λ _ _. (refl, (number, token, holds, is, did));
  unchanged = λ not. absurd (not refl);
}
