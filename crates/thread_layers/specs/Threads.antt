-- Threads that share a bump or a pool, each with a party of its own.
use Rattle.bb_memory_bump.specs.SharedBump.{AgreeAt, BumpParty, MayTake, greatest_seen, scene_at}
use Rattle.bb_memory_pool_machine.specs.PoolLogs.{IsHeldAfter}
use Rattle.bb_memory_shared_pools.specs.SharedPool.{PoolParty, SharedPool, TakenBucket, attach_entry, detach_entry, return_entry, with_entries}
use Rattle.bb_memory_shared_pools.specs.SharedPoolNextFit.{MayTakeFrom, hint_of}
use Rattle.bb_memory_traits.specs.Chunk.{AreApart, Chunk, IsPart, Region, chunk_end}
use Rattle.bb_memory_traits.specs.LeastPlace.{least_place}
use Rattle.bb_memory_traits.specs.declared.allocator.AllocationError.{AllocationError}
use Rattle.bb_memory_traits.specs.declared.layout.Layout.{Layout}
use Rattle.std.proofs.lemmas.Grind.{common_steps}
use Rattle.std.proofs.lemmas.List.Elements.{All-contains, All-get_or}
use Rattle.std.proofs.lemmas.Option.{gets}
use Rattle.std.specs.Prelude.{All, List, Ok, Result, [], length, ℕ, ◌%◌, ◌+◌, ◌≡◌, ◌≤◌}

-- WORKERS, each of which returns its party

-- the party still holds each bucket that it held
abbrev pub KeepsBuckets : PoolParty → PoolParty → Type 0
KeepsBuckets old new = (bucket : ℕ) → IsHeldAfter old.log bucket → IsHeldAfter new.log bucket

-- A party, of a bump or of a pool, has made one request for this layout. The request may have this
-- answer, and leave this party.
pub record Asks {P A : Type 0} (may_take : P → Layout → A → P → Type 0) (layout : Layout) (old new : P) : Type 0 where
  pub answer : A
  pub asked : may_take old layout answer new

-- the answer to a request by next fit, and the party afterwards
pub record MayTakeNextFit (old : PoolParty) (layout : Layout) (answer : Result TakenBucket AllocationError) (new : PoolParty)
    : Type 0 where
  pub taken : MayTakeFrom (hint_of old) old layout answer new

-- the party's steps are one request by next fit
pub record HasAskedNextFit (layout : Layout) (party : PoolParty) : Type 0 where
  pub before : PoolParty
  pub answer : Result TakenBucket AllocationError
  pub asked : MayTakeNextFit before layout answer party
  pub none : before.log ≡ []

-- all parties come back, all of them this pool's, and the steps of each are one request by next fit
pub record AllComeBack (layout : Layout) (pool : SharedPool) (old new : List PoolParty) : Type 0 where
  pub theirs : All (λ party. party.allocator ≡ pool) new
  pub all : length new ≡ length old
  pub asked : All (HasAskedNextFit layout) new

-- A BUMP that threads have carved up

-- the party's steps are one request for this layout
pub record HasAsked (layout : Layout) (party : BumpParty) : Type 0 where
  pub before : BumpParty
  pub asked : Asks MayTake layout before party
  pub none : before.log ≡ []

-- `workers` workers have each made one request for this layout, in a region of which `used_before`
-- bytes were used. The space that is used afterwards agrees with their logs, of which there are no
-- others, and is the greatest position that one of them has seen.
pub record IsCarved (region : Region) (used_before workers : ℕ) (layout : Layout) (used : ℕ) : Type 0 where
  pub parties : List BumpParty
  pub agree : AgreeAt (scene_at region used_before workers) used parties
  pub all : length parties ≡ workers
  pub asked : All (HasAsked layout) parties
  pub exact : used ≡ greatest_seen parties

-- MESSAGES, each in a bucket of a shared pool that the receiver gives back

-- The sender's log gained the steps of one request, which took the message's bucket, and then the
-- step that detached the bucket, and no others: not every party that such a request may leave rules
-- that out.
pub record Sends (old : PoolParty) (layout : Layout) (message : TakenBucket) (new : PoolParty) : Type 0 where
  pub one : ¬ ((holding : PoolParty) → MayTakeFrom (hint_of old) old layout (Ok message) holding
      → ¬ (new ≡ with_entries holding (detach_entry holding.number message.number)))

-- the receiver once it attached this bucket and gave it back
abbrev pub having_received : ℕ → PoolParty → PoolParty
having_received bucket receiver =
    with_entries (with_entries receiver (attach_entry receiver.number bucket)) (return_entry receiver.number bucket)

-- ARENAS, each a bump over a chunk of a shared bump

-- the thread's party, its chunk, and how many of the chunk's bytes are used
pub record Arena : Type 0 where
  pub party : BumpParty
  pub whole : Chunk
  pub used : ℕ

-- a chunk of the arena was allocated for this layout: it is inside the arena's chunk, at the first
-- suitable place after the bytes that were used
pub record Serves (old : Arena) (layout : Layout) (new : Arena) (chunk : Chunk) : Type 0 where
  pub begins : chunk.place ≡ least_place (old.whole.place + old.used) layout.align
  pub part : IsPart chunk old.whole
  pub behind : old.whole.place + old.used ≤ chunk.place
  pub aligned : chunk.place % layout.align ≡ 0
  pub exact_size : chunk.len ≡ layout.size
  pub used : new ≡ record old { used = new.used }
  pub up_to : old.whole.place + new.used ≡ chunk_end chunk

-- the chunks are apart
unfoldable pub HaveNothingShared : Chunk → Chunk → Type 0
HaveNothingShared one other = AreApart one other

-- lemmas of std under one name, for the attribute `using`, which takes no name with a dash
pub ruleset contained = (All-contains, All-get_or, common_steps, gets)
