-- A shared pool, its parties and the buckets that they took, as their contracts see them, and what each call adds to the log of
-- its party.
use Rattle.atomic_table.specs.Seated.{TableId}
use Rattle.bb_memory_pool_machine.specs.PoolLogs.{FoundHeld, Interleaving, IsHeldAfter, IsPoolRun, IsRefusedAt, PoolLog, entries_by, entry_of, history_of, loss_at, pass_in}
use Rattle.bb_memory_pool_machine.specs.PoolMachine.{PoolScene}
use Rattle.bb_memory_pool_machine.specs.declared.steps.pool.PoolOutcome.TheVariants.{Attaches, Detaches, Gives, Misses, Takes}
use Rattle.bb_memory_pool_machine.specs.declared.steps.pool.PoolStep.TheVariants.{Attach, AttachFrom, Detach, FindToken, GiveBack, GiveBackDetached, Try}
use Rattle.bb_memory_traits.specs.Chunk.{Chunk, IsInside}
use Rattle.bb_memory_traits.specs.PoolObject.{IsPoolGeometry, IsWithin, PoolGeometry, bucket_place}
use Rattle.bb_memory_traits.specs.declared.allocator.AllocationError.{AllocationError}
use Rattle.bb_memory_traits.specs.declared.allocator.AllocationError.TheVariants.{AlignmentFailure, OutOfMemory, SizeIsZero, SizeTooLarge}
use Rattle.bb_memory_traits.specs.declared.layout.Layout.{Layout}
use Rattle.std.specs.Prelude.{All, Err, IfOk, IsErr, List, None, Ok, OnErr, Result, Some, [], length, slice_get, suc, take, zero, ℕ, ◌%◌, ◌++◌, ◌+◌, ◌<◌, ◌↔◌, ◌∷◌, ◌≡◌, ◌≢◌, ◌≤◌, ◌⊎◌}

-- A shared pool: its table of words, which differs from that of any other pool, and its scene,
-- which is its buckets and the number of its parties.
pub record SharedPool : Type 0 where
  pub table : TableId
  pub scene : PoolScene

-- the scene of a pool with these buckets and that many parties
abbrev pub scene_at : PoolGeometry → ℕ → PoolScene
scene_at geometry parties = record { geometry = geometry; parties = parties }

-- the buckets are all for which the region has room, or the first of these, and there is at least one party
pub record IsSharedScene (scene : PoolScene) : Type 0 where
  pub geometry : IsPoolGeometry scene.geometry
  pub parties : 1 ≤ scene.parties

-- a party: the pool that it belongs to, its number there, and its log
pub record PoolParty : Type 0 where
  pub allocator : SharedPool
  pub number : ℕ
  pub log : PoolLog

-- the party of this number that has made no step
abbrev pub fresh_party : SharedPool → ℕ → PoolParty
fresh_party allocator number = record { allocator = allocator; number = number; log = [] }

-- `parties` are all `count` parties of the pool, numbered from 0, and none has made a step
pub record AreFresh (allocator : SharedPool) (count : ℕ) (parties : List PoolParty) : Type 0 where
  pub so_many : allocator.scene.parties ≡ count
  pub as_many : length parties ≡ count
  pub fresh : (number : ℕ) → number < count → slice_get parties number ≡ Some (fresh_party allocator number)
  pub theirs : All (λ party. party.allocator ≡ allocator) parties

-- the party with these entries added to its log
abbrev pub with_entries : PoolParty → PoolLog → PoolParty
with_entries party entries = record { allocator = party.allocator; number = party.number; log = party.log ++ entries }

-- a taken bucket: the pool that it belongs to, its number there, and how many bytes its chunk has
pub record TakenBucket : Type 0 where
  pub allocator : SharedPool
  pub number : ℕ
  pub len : ℕ

-- the taken bucket of this number, with a chunk of `len` bytes
abbrev pub taken_bucket : SharedPool → ℕ → ℕ → TakenBucket
taken_bucket allocator number len = record { allocator = allocator; number = number; len = len }

-- the bucket with a chunk of another length
abbrev pub resized : TakenBucket → ℕ → TakenBucket
resized bucket len = taken_bucket bucket.allocator bucket.number len

-- the chunk of a taken bucket, at the bucket's place
abbrev pub chunk_of : TakenBucket → Chunk
chunk_of bucket = record {
  place = bucket_place bucket.allocator.scene.geometry bucket.number;
  len = bucket.len;
}

-- a party with this log holds each of the first `buckets` buckets
abbrev pub AreAllHeldAfter : PoolLog → ℕ → Type 0
AreAllHeldAfter log buckets = (bucket : ℕ) → bucket < buckets → IsHeldAfter log bucket

-- ENTRIES OF CALLS

-- the party's losses at the first of `buckets` buckets, from bucket 0 up
abbrev pub losses : ℕ → ℕ → ℕ → PoolLog
losses buckets party zero = []
losses buckets party (suc bucket) = losses buckets party bucket ++ entry_of (Try party) (loss_at buckets bucket) ∷ []

-- a pass that takes a bucket: losses at all buckets below it, and its taking
abbrev pub taking_pass : ℕ → ℕ → ℕ → PoolLog
taking_pass buckets party bucket = losses buckets party bucket ++ entry_of (Try party) (Takes bucket) ∷ []

-- a pass that is refused: losses at all buckets
abbrev pub refused_pass : ℕ → ℕ → PoolLog
refused_pass buckets party = losses buckets party buckets

-- a step that gives back a bucket
abbrev pub return_entry : ℕ → ℕ → PoolLog
return_entry party bucket = entry_of (GiveBack party bucket) (Gives bucket) ∷ []

-- a step that detaches a bucket
abbrev pub detach_entry : ℕ → ℕ → PoolLog
detach_entry party bucket = entry_of (Detach party bucket) (Detaches bucket) ∷ []

-- a step that attaches a detached bucket, whoever has detached it
abbrev pub attach_entry : ℕ → ℕ → PoolLog
attach_entry party bucket = entry_of (Attach party bucket) (Attaches bucket) ∷ []

-- a step that attaches a bucket from the party `from`, which has detached it
abbrev pub attach_from_entry : ℕ → ℕ → ℕ → PoolLog
attach_from_entry party bucket from = entry_of (AttachFrom party bucket from) (Attaches bucket) ∷ []

-- a step that misses a bucket: the party tried to attach it from the party `from`, which hasn't detached it
abbrev pub miss_from_entry : ℕ → ℕ → ℕ → PoolLog
miss_from_entry party bucket from = entry_of (AttachFrom party bucket from) (Misses bucket) ∷ []

-- a step that misses a bucket: the party `from` has detached it with a token
abbrev pub token_entry : ℕ → ℕ → ℕ → PoolLog
token_entry party bucket from = entry_of (FindToken party bucket from) (Misses bucket) ∷ []

-- the two steps of one exchange that gives back a bucket that the party `from` has detached: the party attaches the bucket from
-- `from`, and gives it back
abbrev pub return_from_entries : ℕ → ℕ → ℕ → PoolLog
return_from_entries party bucket from = attach_from_entry party bucket from ++ return_entry party bucket

-- a step that gives back a detached bucket
abbrev pub return_detached_entry : ℕ → ℕ → PoolLog
return_detached_entry party bucket = entry_of (GiveBackDetached party bucket) (Gives bucket) ∷ []

-- ANSWERS TO REQUESTS

-- a party may take this bucket for the layout: the layout's size and alignment are small enough, and the party doesn't hold the
-- bucket
pub record MayTakeBucket (party : PoolParty) (layout : Layout) (bucket : ℕ) : Type 0 where
  pub within : IsWithin party.allocator.scene.geometry.bucket layout
  pub below : bucket < party.allocator.scene.geometry.buckets
  pub free : ¬ IsHeldAfter party.log bucket

-- A party's request may be refused with this error, and the party is then `new`. `entries` are those of a search that took no
-- bucket.
abbrev pub MayRefuse : PoolParty → PoolLog → Layout → AllocationError → PoolParty → Type 0
-- refused before any step: the party doesn't change
MayRefuse party entries layout SizeTooLarge new = (party.allocator.scene.geometry.bucket.size < layout.size) × (new ≡ party)
MayRefuse party entries layout AlignmentFailure new =
    (layout.size ≤ party.allocator.scene.geometry.bucket.size) × (party.allocator.scene.geometry.bucket.align < layout.align)
    × (new ≡ party)
MayRefuse party entries layout OutOfMemory new =
    IsWithin party.allocator.scene.geometry.bucket layout × (new ≡ with_entries party entries)
-- a pool never refuses with this error
MayRefuse party entries layout SizeIsZero new = ⊥

-- A party's request may have this answer, and the party is then `new`: a pass took some bucket, or lost at each of them.
abbrev pub MayTake : PoolParty → Layout → Result TakenBucket AllocationError → PoolParty → Type 0
MayTake party layout (Ok bucket) new =
    let buckets = party.allocator.scene.geometry.buckets in
    MayTakeBucket party layout bucket.number × (bucket ≡ taken_bucket party.allocator bucket.number layout.size)
    × (new ≡ with_entries party (taking_pass buckets party.number bucket.number))
MayTake party layout (Err error) new =
    MayRefuse party (refused_pass party.allocator.scene.geometry.buckets party.number) layout error new

-- INTERLEAVINGS

-- some interleaving of the party's log with some logs of the pool's other parties is allowed
abbrev pub IsInterleaved : PoolParty → Type 0
IsInterleaved party = Interleaving party.allocator.scene party.number party.log

-- the invariant of a party: the pool has a party of this number, it is in no pass, and some interleaving has its log
pub record IsParty (party : PoolParty) : Type 0 where
  pub scene : IsSharedScene party.allocator.scene
  pub number : party.number < party.allocator.scene.parties
  pub idle : pass_in party.log ≡ None
  pub interleaved : IsInterleaved party

-- a party before a call and after it: its number is the same, and the invariant of a party holds
pub record IsSameParty (old new : PoolParty) : Type 0 where
  pub number : new.number ≡ old.number
  pub is_party : IsParty new

-- Promises of each request for a bucket, whichever buckets it tries: which buckets the party holds then, and where the chunk in
-- the bucket lies.
pub record Serves (pool : SharedPool) (old : PoolParty) (layout : Layout) (answer : Result TakenBucket AllocationError)
    (new : PoolParty) : Type 0 where
  pub bucket : IfOk answer (λ bucket. bucket.allocator ≡ pool)
  pub number : new.number ≡ old.number
  pub is_party : IsParty new
  pub held : IfOk answer (λ bucket. IsHeldAfter new.log bucket.number)
  pub others_kept : (other : ℕ) → IsHeldAfter old.log other → IsHeldAfter new.log other
  pub others : (other : ℕ) → IfOk answer (λ bucket. other ≢ bucket.number) → IsHeldAfter new.log other → IsHeldAfter old.log other
  pub inside : IfOk answer (λ bucket. IsInside pool.scene.geometry.region (chunk_of bucket))
  pub aligned : IfOk answer (λ bucket. (chunk_of bucket).place % layout.align ≡ 0)
  pub exact_size : IfOk answer (λ bucket. (chunk_of bucket).len ≡ layout.size)

-- All promises of `Serves`. In a pool with one party, a request within the bucket's size and alignment is refused exactly if
-- that party holds each bucket.
pub record ServesAlone (pool : SharedPool) (old : PoolParty) (layout : Layout) (answer : Result TakenBucket AllocationError)
    (new : PoolParty) : Type 0 where
  pub serves : Serves pool old layout answer new
  pub alone : pool.scene.parties ≡ 1 → IsWithin pool.scene.geometry.bucket layout →
      (IsErr answer ↔ AreAllHeldAfter old.log pool.scene.geometry.buckets)

-- the bucket is one of this pool, at a multiple of the layout's alignment
pub record IsAlignedTo (pool : SharedPool) (layout : Layout) (bucket : TakenBucket) : Type 0 where
  pub allocator : bucket.allocator ≡ pool
  pub aligned : (chunk_of bucket).place % layout.align ≡ 0

-- A resize of the bucket's chunk: on success the bucket has the new chunk, which is in the pool's region; otherwise the bucket is
-- unchanged.
pub record IsResizedTo {E : Type 0} (pool : SharedPool) (old : TakenBucket) (answer : Result Chunk E) (new : TakenBucket)
    : Type 0 where
  pub resized : IfOk answer (λ chunk. new ≡ resized old chunk.len)
  pub chunk : IfOk answer (λ chunk. chunk_of new ≡ chunk)
  pub inside : IfOk answer (IsInside pool.scene.geometry.region)
  pub kept : OnErr answer (new ≡ old)

-- The given beginning of the party's log ends with a refused pass, which found each bucket held in the run, each at a step of its
-- own. After the pass's last step the party's entries are that beginning.
pub record HasFoundAllHeld (party : PoolParty) (is : IsParty party) (beginning : PoolLog) : Type 0 where
  pub last : ℕ
  pub its_last : let history = history_of party.allocator.scene is.interleaved.steps in
      entries_by party.number (take (last + 1) history) ≡ beginning
  pub refused : let history = history_of party.allocator.scene is.interleaved.steps in IsRefusedAt history party.number last
  pub found : (bucket : ℕ) → bucket < party.allocator.scene.geometry.buckets →
      FoundHeld party.allocator.scene is.interleaved.steps party.number last bucket

-- the takings and returns of the party's interleaving are a run of the pool object, from the empty list to this one
abbrev pub IsHistoryRun : (party : PoolParty) → IsParty party → List Layout → List Chunk → Type 0
IsHistoryRun party is layouts live = IsPoolRun party.allocator.scene is.interleaved.steps layouts live

-- DETACHED BUCKETS

-- a party may detach a bucket: both are this pool's, the pool has another party, and the party holds the bucket
pub record MayDetach (pool : SharedPool) (party : PoolParty) (bucket : TakenBucket) : Type 0 where
  pub others : 1 < pool.scene.parties
  pub its_party : party.allocator ≡ pool
  pub its_bucket : bucket.allocator ≡ pool
  pub held : IsHeldAfter party.log bucket.number

-- the party has detached the bucket: its log has the step, and it holds only its other buckets
pub record HasDetached (pool : SharedPool) (old : PoolParty) (bucket : TakenBucket) (new : PoolParty) : Type 0 where
  pub logged : new ≡ with_entries old (detach_entry old.number bucket.number)
  pub party : new.allocator ≡ pool
  pub is_party : IsSameParty old new
  pub was_detached : ¬ IsHeldAfter new.log bucket.number
  pub others_kept : (other : ℕ) → other ≢ bucket.number → IsHeldAfter old.log other → IsHeldAfter new.log other
  pub others : (other : ℕ) → IsHeldAfter new.log other → IsHeldAfter old.log other

-- the party and the detached bucket are this pool's
pub record AreOf (pool : SharedPool) (party : PoolParty) (detached : TakenBucket) : Type 0 where
  pub its_party : party.allocator ≡ pool
  pub its_bucket : detached.allocator ≡ pool

-- the party, which didn't hold the bucket of this number, has attached it: its log has this step,
-- and it holds one more bucket
pub record HasGained (pool : SharedPool) (old : PoolParty) (number : ℕ) (step : PoolLog) (new : PoolParty) : Type 0 where
  pub logged : new ≡ with_entries old step
  pub party : new.allocator ≡ pool
  pub is_party : IsSameParty old new
  pub not_held : ¬ IsHeldAfter old.log number
  pub held : IsHeldAfter new.log number
  pub others_kept : (other : ℕ) → IsHeldAfter old.log other → IsHeldAfter new.log other
  pub others : (other : ℕ) → other ≢ number → IsHeldAfter new.log other → IsHeldAfter old.log other

-- the party has attached the bucket that was in the token `detached`
abbrev pub HasAttached : SharedPool → PoolParty → TakenBucket → PoolParty → Type 0
HasAttached pool old detached new = HasGained pool old detached.number (attach_entry old.number detached.number) new

-- The party has attached the bucket of this number from the party `from`, as its log says: the machine allows that step only if
-- the bucket is detached by `from`.
abbrev pub HasAttachedFrom : SharedPool → PoolParty → ℕ → ℕ → PoolParty → Type 0
HasAttachedFrom pool old number from new = HasGained pool old number (attach_from_entry old.number number from) new

-- the step of an exchange that doesn't attach the bucket from the party `from`: this party hasn't detached the bucket, or has
-- detached it with a token
abbrev pub IsMissFrom : ℕ → ℕ → ℕ → PoolLog → Type 0
IsMissFrom party bucket from step = (step ≡ miss_from_entry party bucket from) ⊎ (step ≡ token_entry party bucket from)

-- The party has missed the bucket of this number, which it tried to attach from the party `from`: its log has the step, and it
-- holds what it held before.
pub record HasMissedFrom (pool : SharedPool) (old : PoolParty) (number from : ℕ) (new : PoolParty) : Type 0 where
  pub step : PoolLog
  pub miss : IsMissFrom old.number number from step
  pub logged : new ≡ with_entries old step
  pub party : new.allocator ≡ pool
  pub is_party : IsSameParty old new
  pub unchanged : (bucket : ℕ) → IsHeldAfter old.log bucket ↔ IsHeldAfter new.log bucket

-- the party, which didn't hold the detached bucket, has given it back: its log has the step, and it holds what it held before
pub record HasReturned (pool : SharedPool) (old : PoolParty) (detached : TakenBucket) (new : PoolParty) : Type 0 where
  pub logged : new ≡ with_entries old (return_detached_entry old.number detached.number)
  pub party : new.allocator ≡ pool
  pub is_party : IsSameParty old new
  pub not_held : ¬ IsHeldAfter old.log detached.number
  pub others_kept : (other : ℕ) → IsHeldAfter old.log other → IsHeldAfter new.log other
  pub others : (other : ℕ) → IsHeldAfter new.log other → IsHeldAfter old.log other

-- The party has given back the bucket of this number, which the party `from` had detached, as its log says: the machine allows
-- the first of the two steps only if the bucket is detached by `from`. The party didn't hold the bucket, and holds what it held
-- before.
pub record HasReturnedFrom (pool : SharedPool) (old : PoolParty) (number from : ℕ) (new : PoolParty) : Type 0 where
  pub logged : new ≡ with_entries old (return_from_entries old.number number from)
  pub party : new.allocator ≡ pool
  pub is_party : IsSameParty old new
  pub not_held : ¬ IsHeldAfter old.log number
  pub others_kept : (other : ℕ) → IsHeldAfter old.log other → IsHeldAfter new.log other
  pub others : (other : ℕ) → IsHeldAfter new.log other → IsHeldAfter old.log other
