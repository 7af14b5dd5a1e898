-- Parties of a shared pool that cache buckets: which buckets they cache for their next requests, and which are in use.
use Rattle.bb_memory_pool_machine.specs.PoolLogs.{IsHeldAfter, PoolLog}
use Rattle.bb_memory_shared_pools.specs.SharedPool.{HasAttachedFrom, HasMissedFrom, HasReturnedFrom, PoolParty, Serves, ServesAlone, TakenBucket, attach_from_entry, detach_entry, return_entry, return_from_entries, taken_bucket, with_entries}
use Rattle.bb_memory_shared_pools.specs.SharedPoolNextFit.{BeginsSearch, MayTakeFrom, hint_of}
use Rattle.bb_memory_traits.specs.PoolObject.{IsWithin}
use Rattle.bb_memory_traits.specs.declared.allocator.AllocationError.{AllocationError}
use Rattle.bb_memory_traits.specs.declared.allocator.AllocationError.TheVariants.{OutOfMemory}
use Rattle.bb_memory_traits.specs.declared.layout.Layout.{Layout}
use Rattle.std.specs.Prelude.{All, AllPairs, Contains, Err, IfErr, IfOk, IsErr, List, Ok, Result, [], length, ℕ, ◌++◌, ◌<◌, ◌↔◌, ◌∷◌, ◌≡◌, ◌≢◌, ◌≤◌}

-- A caching party: the pool's party, the numbers of the buckets that it caches, in the order in which it cached them, and how
-- many it caches at most.
pub record CachingParty : Type 0 where
  pub party : PoolParty
  pub cached : List ℕ
  pub most : ℕ

-- the bucket is in use: the party holds the bucket, and doesn't cache it
unfoldable pub IsOut : CachingParty → ℕ → Type 0
IsOut caching bucket = IsHeldAfter caching.party.log bucket × (¬ Contains caching.cached bucket)

-- each bucket of the party's pool is in use
abbrev pub AreAllOut : CachingParty → Type 0
AreAllOut caching = (bucket : ℕ) → bucket < caching.party.allocator.scene.geometry.buckets → IsOut caching bucket

-- the party holds each of these buckets, and no two are the same
pub record AreCached (party : PoolParty) (cached : List ℕ) : Type 0 where
  pub held : All (λ bucket. IsHeldAfter party.log bucket) cached
  pub differ : AllPairs (λ one other. one ≢ other) cached

-- a request that searches the pool: the answer and the party are those of a next-fit search
pub record SearchesPool (old : CachingParty) (layout : Layout) (result : Result TakenBucket AllocationError) (new : CachingParty)
    : Type 0 where
  pub answer : MayTakeFrom (hint_of old.party) old.party layout result new.party
  pub serves : ServesAlone old.party.allocator old.party layout result new.party
  pub unchanged : new ≡ record old { party = new.party }

-- a refused request: a search of the pool refused it. If the error is OutOfMemory, no bucket was cached
pub record RefusesCaching (old : CachingParty) (layout : Layout) (error : AllocationError) (new : CachingParty) : Type 0 where
  pub answer : MayTakeFrom (hint_of old.party) old.party layout (Err error) new.party
  pub unchanged : new ≡ record old { party = new.party }
  pub none_cached : error ≡ OutOfMemory → old.cached ≡ []

-- A request takes the bucket that was cached last, without a step. If none is cached, it searches the pool from the party's hint
-- on, and its answer is that of the search.
pub record TakesCaching (old : CachingParty) (layout : Layout) (result : Result TakenBucket AllocationError) (new : CachingParty)
    : Type 0 where
  pub cached : (before : List ℕ) (last : ℕ) → IsWithin old.party.allocator.scene.geometry.bucket layout
      → old.cached ≡ before ++ last ∷ []
      → (result ≡ Ok (taken_bucket old.party.allocator last layout.size)) × (new ≡ record old { cached = before })
  pub searched : old.cached ≡ [] → SearchesPool old layout result new
  pub refused : IfErr result (λ error. RefusesCaching old layout error new)
  pub within : IfOk result (λ bucket. IsWithin old.party.allocator.scene.geometry.bucket layout)

-- All promises of a caching party's request. The bucket that it takes is in use then, and wasn't before; each other bucket is
-- in use if it was before. In a pool with one party, a request within the bucket's size and alignment is refused exactly if
-- each bucket is in use.
pub record ServesCaching (old : CachingParty) (layout : Layout) (result : Result TakenBucket AllocationError) (new : CachingParty)
    : Type 0 where
  pub answer : TakesCaching old layout result new
  pub serves : Serves old.party.allocator old.party layout result new.party
  pub taken : IfOk result (λ bucket. IsOut new bucket.number)
  pub fresh : IfOk result (λ bucket. (other : ℕ) → IsOut old other → other ≢ bucket.number)
  pub others_kept : (other : ℕ) → IsOut old other → IsOut new other
  pub others : (other : ℕ) → IfOk result (λ bucket. other ≢ bucket.number) → IsOut new other → IsOut old other
  pub alone : old.party.allocator.scene.parties ≡ 1 → IsWithin old.party.allocator.scene.geometry.bucket layout →
      (IsErr result ↔ AreAllOut old)
  pub party : new.party.allocator ≡ old.party.allocator
  pub most : new.most ≡ old.most

-- The first probe of the party's request for a whole bucket missed, and its search isn't over. No bucket is cached, and the same
-- buckets are in use as before.
pub record MissesFirst (old new : CachingParty) : Type 0 where
  pub none_cached : old.cached ≡ []
  pub party : BeginsSearch old.party new.party
  pub unchanged : new ≡ record old { party = new.party }
  pub out : (bucket : ℕ) → IsOut old bucket ↔ IsOut new bucket

-- The party took a whole bucket, of this number, and detached it: `taken` is the party after the taking. The same buckets are in use
-- as before.
pub record SendsCaching (old : CachingParty) (number : ℕ) (new : CachingParty) : Type 0 where
  pub taken : CachingParty
  pub bucket : TakenBucket
  pub serves : ServesCaching old old.party.allocator.scene.geometry.bucket (Ok bucket) taken
  pub its_number : number ≡ bucket.number
  pub logged : new ≡ record taken { party = with_entries taken.party (detach_entry taken.party.number bucket.number) }
  pub out : (other : ℕ) → IsOut old other ↔ IsOut new other

-- a return: the bucket is cached if the party caches fewer than it may, and otherwise goes back to the pool by one step
pub record ReturnsCaching (old : CachingParty) (number : ℕ) (new : CachingParty) : Type 0 where
  pub cached : length old.cached < old.most → new ≡ record old { cached = old.cached ++ number ∷ [] }
  pub returned : old.most ≤ length old.cached
      → new ≡ record old { party = with_entries old.party (return_entry old.party.number number) }

-- The party has attached the bucket of this number from the party `from`, as its log says. The bucket is in use then, and
-- wasn't before; each other bucket is in use if it was before.
pub record AttachesCaching (old : CachingParty) (number from : ℕ) (new : CachingParty) : Type 0 where
  pub logged : new ≡ record old { party = with_entries old.party (attach_from_entry old.party.number number from) }
  pub party : HasAttachedFrom old.party.allocator old.party number from new.party
  pub attached : IsOut new number
  pub not_out : ¬ IsOut old number
  pub others_kept : (other : ℕ) → IsOut old other → IsOut new other
  pub others : (other : ℕ) → other ≢ number → IsOut new other → IsOut old other

-- The party has given back the bucket of this number, which the party `from` had detached, as its log says. The bucket isn't
-- cached, and wasn't in use. The same buckets are in use as before.
pub record ReturnsFromCaching (old : CachingParty) (number from : ℕ) (new : CachingParty) : Type 0 where
  pub logged : new ≡ record old { party = with_entries old.party (return_from_entries old.party.number number from) }
  pub party : HasReturnedFrom old.party.allocator old.party number from new.party
  pub not_out : ¬ IsOut old number
  pub out : (bucket : ℕ) → IsOut old bucket ↔ IsOut new bucket

-- The party has missed the bucket of this number, which it tried to attach or to give back, from the party `from`, as its log
-- says. The same buckets are in use as before.
pub record MissesCaching (old : CachingParty) (number from : ℕ) (new : CachingParty) : Type 0 where
  pub unchanged : new ≡ record old { party = new.party }
  pub party : HasMissedFrom old.party.allocator old.party number from new.party
  pub out : (bucket : ℕ) → IsOut old bucket ↔ IsOut new bucket

-- the party's returns of these buckets, from the last to the first
abbrev pub returns_of : ℕ → List ℕ → PoolLog
returns_of party [] = []
returns_of party (bucket ∷ others) = returns_of party others ++ return_entry party bucket
