-- A shared pool, its parties, and detached buckets that go from party to party, in handles: what C gets from their calls.
use Rattle.bb_memory_c_calls.specs.Answers.{answer_of, figure_of, no_figure, refused, shown_flag}
use Rattle.bb_memory_c_calls.specs.Calls.{Answers, AreKnown, AtEach, Cutting, HasRoom, IsOneOf, IsThere, MayBeShared, Parties, Sharing, count_unjoined, with_party}
use Rattle.bb_memory_c_calls.specs.declared.answer.Answer.{Answer}
use Rattle.bb_memory_c_calls.specs.declared.answer.Figure.{Figure}
use Rattle.bb_memory_c_calls.specs.declared.answer.Holder.{Holder}
use Rattle.bb_memory_c_calls.specs.declared.answer.SharedPoolInfo.{SharedPoolInfo}
use Rattle.bb_memory_c_calls.specs.declared.code.TheConstants.{ALREADY_INITIALIZED as already_initialized, BUCKET_DETACHED as bucket_detached, DETACHED_EMPTY as detached_empty, DETACHED_FULL as detached_full, MALLOC_REFUSED as malloc_refused, NOT_A_BUCKET as not_a_bucket, NOT_HELD as not_held, NO_PARTY as no_party, OK as ok, ONE_PARTY as one_party, OTHER_POOL as other_pool, PARTIES_JOINED as parties_joined, SIZE_TOO_LARGE as size_too_large, UNINITIALIZED as uninitialized}
use Rattle.bb_memory_index_set.specs.IndexSets.{Has}
use Rattle.bb_memory_pool_machine.specs.PoolLogs.{MayBeFound}
use Rattle.bb_memory_pool_machine.specs.declared.steps.pool.Flag.{Flag}
use Rattle.bb_memory_shared_pools.specs.SharedPool.{AreFresh, PoolParty, SharedPool, TakenBucket, attach_entry, chunk_of, detach_entry, return_detached_entry, taken_bucket, with_entries}
use Rattle.bb_memory_shared_pools.specs.SharedPoolCaching.{AttachesCaching, CachingParty, IsOut, MissesCaching, ReturnsCaching, ReturnsFromCaching, ServesCaching}
use Rattle.bb_memory_shared_pools.specs.SharedPoolCaching as caching
use Rattle.bb_memory_shared_pools.specs.SharedPoolLeaving.{GivesAllBack}
use Rattle.bb_memory_shared_pools.specs.SharedPoolMeetings.{MetDetached, MetUndetached}
use Rattle.bb_memory_traits.specs.Chunk.{Chunk, IsInside, Region, first_place}
use Rattle.bb_memory_traits.specs.PoolObject.{IsCut, PoolGeometry, bucket_place}
use Rattle.bb_memory_traits.specs.declared.allocator.AllocationError.{AllocationError}
use Rattle.bb_memory_traits.specs.declared.allocator.AllocationError.TheVariants.{OutOfMemory}
use Rattle.bb_memory_traits.specs.declared.layout.Layout.{Layout}
use Rattle.std.specs.Prelude.{All, Bool, Err, IfErr, IfOk, IfSome, List, MatchOption, None, Ok, OnErr, Option, Result, Some, [], count_by, drop, length, min, slice_get, swap, take, ℕ, ◌-◌, ◌<◌, ◌↔◌, ◌≡◌, ◌≢◌, ◌≤◌}
use Rattle.std.specs.Result.{result_map_both}

-- a shared pool, and its parties that haven't joined
abbrev pub PoolParties : Type 0
PoolParties = Parties SharedPool PoolParty

-- a party as it joins: it caches no bucket, and gives each one back to the pool
abbrev pub as_joined : PoolParty → CachingParty
as_joined party = record { party = party; cached = []; most = 0 }

-- the shared pool with one more party that hasn't joined, after the others
abbrev pub with_unjoined : PoolParties → CachingParty → PoolParties
with_unjoined all joined = with_party all joined.party

-- the party is of this pool, and one of its parties has joined
abbrev pub IsAt : PoolParties → CachingParty → Type 0
IsAt all joined = IsOneOf all joined.party.allocator all.shared.scene.parties

-- the party is of this pool, and has just joined
abbrev pub JoinsAt : PoolParties → CachingParty → Type 0
JoinsAt all joined = IsAt all joined × (joined ≡ as_joined joined.party)

-- the buckets of a party's pool
abbrev pub geometry_of : CachingParty → PoolGeometry
geometry_of joined = joined.party.allocator.scene.geometry

-- the place of a pool's first bucket
abbrev pub start_of : SharedPool → ℕ
start_of pool = first_place pool.scene.geometry.region pool.scene.geometry.bucket

-- if the party's pool begins where this one does, it is this one
abbrev pub Knows : PoolParties → CachingParty → Type 0
Knows all joined = AreKnown start_of joined.party.allocator all.shared

-- some of the pool's parties, with room for all of them
pub record AreUnjoined (pool : SharedPool) (capacity : ℕ) (parties : List PoolParty) : Type 0 where
  pub at_most : length parties ≤ pool.scene.parties
  pub room : pool.scene.parties ≤ capacity
  pub theirs : All (λ party. party.allocator ≡ pool) parties

-- the flags say for which of the pool's buckets `are_so` holds; flags after the last bucket aren't
-- set
pub record AreFlagged (pool : SharedPool) (are_so : ℕ → Type 0) (flags : List Bool) : Type 0 where
  pub enough : pool.scene.geometry.buckets ≤ length flags
  pub below : (bucket : ℕ) → Has flags bucket → bucket < pool.scene.geometry.buckets
  pub exact : (bucket : ℕ) → Has flags bucket ↔ are_so bucket

-- the list says which of the pool's buckets the party has in use; if the party caches at most 0
-- buckets, there is no entry
pub record AreListed (joined : CachingParty) (most : ℕ) (list : List Bool) : Type 0 where
  pub flagged : 0 < most → AreFlagged joined.party.allocator (IsOut joined) list
  pub none : most ≡ 0 → list ≡ []

-- the party is of this pool, and `in_use` says which buckets it has in use if it caches any
pub record IsJoinedAt (pool : SharedPool) (joined : CachingParty) (in_use : List Bool) : Type 0 where
  pub theirs : joined.party.allocator ≡ pool
  pub listed : AreListed joined joined.most in_use

-- a pool over the region, cut into buckets of this layout, and all of its parties, which have made
-- no step
pub record AreFreshOver (region : Region) (bucket : Layout) (count : ℕ) (all : PoolParties) : Type 0 where
  pub cut : IsCut region bucket all.shared.scene.geometry
  pub parties : AreFresh all.shared count all.parties

-- how a shared pool over this region, for this number of parties, describes its initialization
abbrev pub cutting_shared_pool : Region → ℕ → Cutting PoolParties
cutting_shared_pool region count = record {
  may = MayBeShared region count;
  room = HasRoom region;
  fresh = λ bucket. IsThere (AreFreshOver region bucket count);
}

-- the party has this many buckets in use: held, and not cached
abbrev pub CountsOut : CachingParty → ℕ → Type 0
CountsOut joined count = (flags : List Bool) × AreFlagged joined.party.allocator (IsOut joined) flags
    × (count ≡ count_by (λ flag. flag) flags)

-- the figures of a shared pool of this geometry, of which `held` buckets are held
abbrev pub shared_pool_info : PoolGeometry → ℕ → SharedPoolInfo
shared_pool_info geometry held = record {
  start_address = first_place geometry.region geometry.bucket;
  size = geometry.region.size;
  bucket_size = geometry.bucket.size;
  max_alignment = geometry.bucket.align;
  number_of_buckets = geometry.buckets;
  held_buckets = held;
}

-- C gets a party's figures: the held buckets are those that the party has in use. The party doesn't
-- change.
abbrev pub ShowsParty : CachingParty → SharedPoolInfo → CachingParty → Type 0
ShowsParty joined info after = (flags : List Bool) × AreFlagged joined.party.allocator (IsOut joined) flags
    × (info ≡ shared_pool_info (geometry_of joined) (count_by (λ flag. flag) flags)) × (after ≡ joined)

-- C gets a shared pool's figures: whatever its parties did meanwhile, no more buckets are held than
-- it has.
abbrev pub ShowsShared : PoolParties → SharedPoolInfo → PoolParties → Type 0
ShowsShared all info after = let geometry = all.shared.scene.geometry in (held : ℕ)
    × (held ≤ geometry.buckets) × (info ≡ shared_pool_info geometry held) × (after ≡ all)

-- C gets the flag of the bucket of a number, as it may be found, or BB_NOT_A_BUCKET if the pool has
-- no bucket of this number.
pub record TellsHolder (all : PoolParties) (number code : ℕ) (before told : Holder) : Type 0 where
  pub found : number < all.shared.scene.geometry.buckets → (code ≡ ok)
      × ((flag : Flag) × MayBeFound all.shared.scene number flag × (told ≡ shown_flag flag))
  pub past : all.shared.scene.geometry.buckets ≤ number → (code ≡ not_a_bucket) × (told ≡ before)

-- the bucket of this number is in use, and begins at this place
pub record HoldsAt (joined : CachingParty) (place number : ℕ) : Type 0 where
  pub out : IsOut joined number
  pub placed : place ≡ bucket_place (geometry_of joined) number

-- the party has a bucket in use that begins at this place
abbrev pub HoldsPlace : CachingParty → ℕ → Type 0
HoldsPlace joined place = (number : ℕ) × HoldsAt joined place number

-- the answer to a request: the chunk in the bucket that it took, or the reason why it took none
abbrev pub GivesChunk : CachingParty → Layout → Result Chunk AllocationError → CachingParty → Type 0
GivesChunk joined layout answer after =
    (taken : Result TakenBucket AllocationError) × (answer ≡ result_map_both chunk_of (λ error. error) taken)
    × ServesCaching joined layout taken after

-- the party gave back the bucket at this place
abbrev pub GivesBack : CachingParty → ℕ → CachingParty → Type 0
GivesBack joined place after = (number : ℕ) × HoldsAt joined place number × ReturnsCaching joined number after

-- the party after it gave back what it cached, each bucket by one step, which caches at most `most`
-- buckets from then on
abbrev pub emptied : CachingParty → ℕ → CachingParty
emptied joined most = let returns = caching.returns_of joined.party.number joined.cached in
    record { party = with_entries joined.party returns; cached = []; most = most }

-- The party gives back what it caches, and caches at most `most` buckets from then on, or all of
-- the pool's if there are fewer. If memory for their list runs out, nothing changes.
pub record TellsCache (joined : CachingParty) (most code : ℕ) (after : CachingParty) : Type 0 where
  pub done : code ≡ ok → after ≡ emptied joined (min most (geometry_of joined).buckets)
  pub else_memory : code ≢ ok → (code ≡ malloc_refused) × (after ≡ joined)

-- a party that leaves gives back what its pool's flags say that it holds, in use or cached
abbrev pub Leaves : CachingParty → CachingParty → Type 0
Leaves joined after = GivesAllBack joined.party after.party

-- a party that stays has given back what its pool's flags say that it holds, in use or cached
pub record HasGivenAllBack (joined after : CachingParty) : Type 0 where
  pub given : GivesAllBack joined.party after.party
  pub empty : after.cached ≡ []
  pub most : after.most ≡ joined.most

-- A pool is destroyed if each party has left and no bucket is detached. Each of its parties has left
-- then, so their logs say which buckets are detached: with BB_BUCKET_DETACHED they have met while one
-- was, and with BB_OK they have met while each of the buckets was not.
pub record TellsDestroy (all : PoolParties) (code : ℕ) : Type 0 where
  pub joined : (code ≡ parties_joined) ↔ (count_unjoined all < all.shared.scene.parties)
  pub detached : code ≡ bucket_detached → (bucket : ℕ) × MetDetached all.shared.scene all.parties bucket
  pub destroyed : code ≡ ok → (bucket : ℕ) → bucket < all.shared.scene.geometry.buckets
      → MetUndetached all.shared.scene all.parties bucket
  pub no_other : code ≢ parties_joined → code ≢ bucket_detached → code ≡ ok

-- PARTIES BY THEIR NUMBERS

-- the party of this number is at this position of the list
abbrev pub IsNumberAt : List PoolParty → ℕ → ℕ → Type 0
IsNumberAt parties at number = (party : PoolParty) × (slice_get parties at ≡ Some party) × (party.number ≡ number)

-- the party of this number hasn't joined
abbrev pub HasUnjoined : PoolParties → ℕ → Type 0
HasUnjoined all number = (at : ℕ) × IsNumberAt all.parties at number

-- the one at this position of those that haven't joined has changed places with the last one
abbrev pub with_last : PoolParties → ℕ → PoolParties
with_last all at = record { shared = all.shared; parties = swap all.parties at (length all.parties - 1) }

-- the party has joined, and the last of those that hadn't joined has its position among them
abbrev pub IsWithout : PoolParties → PoolParty → PoolParties → Type 0
IsWithout all party after = (at : ℕ) × (slice_get all.parties at ≡ Some party)
    × (with_party after party ≡ with_last all at)

-- The party of this number joins, and is returned; `value` is the party of what is returned.
pub record TakesNumber {Y : Type 0} (value : Y → CachingParty) (old : PoolParties) (number : ℕ) (told : Result Y ℕ)
    (new : PoolParties) : Type 0 where
  pub joins : IfOk told (λ joined. JoinsAt new (value joined) × ((value joined).party.number ≡ number)
      × IsWithout old (value joined).party new)
  pub none_such : (told ≡ Err no_party) ↔ (¬ HasUnjoined old number)
  pub else_memory : IfErr told (λ code. code ≢ no_party → code ≡ malloc_refused)
  pub unchanged : OnErr told (new ≡ old)

-- The party of this number joins, if it hasn't joined and memory doesn't run out. Its handle holds
-- `party` then.
pub record TellsJoinNumber (made after : PoolParties) (party : Option CachingParty) (number code : ℕ) : Type 0 where
  pub joins : code ≡ ok → (joined : CachingParty) × (party ≡ Some joined) × JoinsAt after joined
      × (joined.party.number ≡ number) × IsWithout made joined.party after
  pub none_such : (code ≡ no_party) ↔ (¬ HasUnjoined made number)
  pub else_memory : code ≢ ok → code ≢ no_party → code ≡ malloc_refused
  pub unchanged : code ≢ ok → (after ≡ made) × (party ≡ None)

-- a party joins by its number; its handle has to be empty
pub record AnswersJoinNumber (old new : Option PoolParties) (old_party new_party : Option CachingParty) (number code : ℕ)
    : Type 0 where
  pub held_one : old_party ≢ None → (code ≡ already_initialized) × (new ≡ old) × (new_party ≡ old_party)
  pub joins : old_party ≡ None → Answers old new ((code ≡ uninitialized) × (new_party ≡ None))
      (λ made after. TellsJoinNumber made after new_party number code)

-- a party that is forgotten is as it was: what it holds stays held
abbrev pub IsForgotten : CachingParty → CachingParty → Type 0
IsForgotten joined after = after ≡ joined

-- how a shared pool describes its parties
abbrev pub sharing_pool : Sharing PoolParties CachingParty
sharing_pool = record { unjoined = count_unjoined; with_party = with_unjoined; joins = JoinsAt; at = IsAt; leaves = Leaves }

-- how a shared pool describes its parties, if one that leaves is forgotten
abbrev pub forgetting_pool : Sharing PoolParties CachingParty
forgetting_pool = record sharing_pool { leaves = IsForgotten }

-- DETACHED BUCKETS

-- the contents of a `bb_detached`: a detached bucket or none
abbrev pub Detached : Type 0
Detached = Option TakenBucket

-- C gets the length of the chunk in the bucket, or BB_DETACHED_EMPTY if there is none
abbrev pub TellsLen : Detached → Figure → Type 0
TellsLen detached told = MatchOption detached (told ≡ no_figure detached_empty) (λ token. told ≡ figure_of token.len)

-- DETACHING

-- the party's pool has another party
abbrev pub HasOthers : CachingParty → Type 0
HasOthers joined = 1 < joined.party.allocator.scene.parties

-- the party isn't the only one, and has a bucket in use that begins at this place
abbrev pub MayDetachAt : CachingParty → ℕ → Type 0
MayDetachAt joined place = HasOthers joined × HoldsPlace joined place

-- the party may detach the bucket at this place, and a chunk of `len` bytes has room there
abbrev pub MayDetachChunk : CachingParty → ℕ → ℕ → Type 0
MayDetachChunk joined place len = MayDetachAt joined place × (len ≤ (geometry_of joined).bucket.size)

-- The party detached the bucket of a number, by one step, and the token of that bucket has a chunk
-- of `len` bytes.
pub record HasDetached (joined : CachingParty) (number len : ℕ) (after : CachingParty) (token : TakenBucket) : Type 0 where
  pub detached : after ≡ record joined { party = with_entries joined.party (detach_entry joined.party.number number) }
  pub its : token ≡ taken_bucket joined.party.allocator number len

-- A party is to detach the bucket at a place, with a chunk of `len` bytes. If several errors apply,
-- the first one in this list is returned, and nothing changes.
pub record TellsDetach (party : CachingParty) (before : Detached) (place len code : ℕ) (after : CachingParty) (filled : Detached)
    : Type 0 where
  pub one_party : ¬ HasOthers party → code ≡ one_party
  pub not_held : HasOthers party → ¬ HoldsPlace party place → code ≡ not_held
  pub too_large : MayDetachAt party place → (geometry_of party).bucket.size < len → code ≡ size_too_large
  pub full : MayDetachChunk party place len → before ≢ None → code ≡ detached_full
  pub detached : MayDetachChunk party place len → before ≡ None →
      (code ≡ ok) × ((number : ℕ) × (token : TakenBucket) × HoldsAt party place number × (filled ≡ Some token)
      × HasDetached party number len after token)
  pub unchanged : code ≢ ok → (after ≡ party) × (filled ≡ before)

-- WITHOUT A TOKEN

-- A party is to detach the bucket at a place, by one step, and C gets its number. If several errors
-- apply, the first one in this list is returned, and nothing changes.
pub record TellsDetachNumber (party : CachingParty) (place : ℕ) (told : Figure) (after : CachingParty) : Type 0 where
  pub one_party : ¬ HasOthers party → told ≡ no_figure one_party
  pub not_held : HasOthers party → ¬ HoldsPlace party place → told ≡ no_figure not_held
  pub detached : MayDetachAt party place → (number : ℕ) × HoldsAt party place number × (told ≡ figure_of number)
      × (after ≡ record party { party = with_entries party.party (detach_entry party.party.number number) })
  pub unchanged : told.code ≢ ok → after ≡ party

-- A party is to attach the bucket of this number, if `from` has detached it by number. C gets the
-- bucket's place if the party's exchange won. If it lost, the party's log has the miss. If no bucket
-- has this number, nothing changes.
pub record TellsAttachNumber (party : CachingParty) (number from : ℕ) (told : Answer) (after : CachingParty) : Type 0 where
  pub past : (geometry_of party).buckets ≤ number → (told ≡ refused not_a_bucket) × (after ≡ party)
  pub lost : number < (geometry_of party).buckets → told.code ≢ ok
      → (told ≡ refused not_held) × MissesCaching party number from after
  pub attached : told.code ≡ ok → (number < (geometry_of party).buckets) × AttachesCaching party number from after
      × (told ≡ answer_of (Ok (chunk_of (taken_bucket party.party.allocator number (geometry_of party).bucket.size))))

-- A party is to give back the bucket of this number, if `from` has detached it by number. If the party's exchange lost, the
-- party's log has the miss. If no bucket has this number, nothing changes.
pub record TellsReturnNumber (party : CachingParty) (number from code : ℕ) (after : CachingParty) : Type 0 where
  pub past : (geometry_of party).buckets ≤ number → (code ≡ not_a_bucket) × (after ≡ party)
  pub lost : number < (geometry_of party).buckets → code ≢ ok → (code ≡ not_held) × MissesCaching party number from after
  pub returned : code ≡ ok → (number < (geometry_of party).buckets) × ReturnsFromCaching party number from after

-- The buckets of the first `count` numbers are given back, one after another, as by that many single calls. If numbers are left
-- over, the call for the next one was refused.
pub record ReturnsMany (party : CachingParty) (numbers : List ℕ) (from count : ℕ) (after : CachingParty) : Type 0 where
  pub last : CachingParty
  pub returned : AtEach (λ made number next. TellsReturnNumber made number from ok next) party (take count numbers) last
  pub at_most : count ≤ length numbers
  pub all : count ≡ length numbers → after ≡ last
  pub stopped : IfSome (slice_get numbers count) (λ number. (code : ℕ) × (code ≢ ok)
      × TellsReturnNumber last number from code after)

-- the party took the whole bucket of this number, and then detached it
abbrev pub TakesDetached : CachingParty → ℕ → CachingParty → Type 0
TakesDetached party number after = (taken : CachingParty) × (bucket : TakenBucket)
    × ServesCaching party (geometry_of party).bucket (Ok bucket) taken × (number ≡ bucket.number)
    × (after ≡ record taken { party = with_entries taken.party (detach_entry taken.party.number bucket.number) })

-- the party's request for a whole bucket was refused
abbrev pub RefusesTaking : CachingParty → CachingParty → Type 0
RefusesTaking party after = ServesCaching party (geometry_of party).bucket (Err OutOfMemory) after

-- Whole buckets are taken and detached, one after another, and their numbers are in the first `count` places of the array. If
-- places are left over, the next taking was refused.
pub record TakesManyDetached (party after : CachingParty) (before numbers : List ℕ) (count : ℕ) : Type 0 where
  pub last : CachingParty
  pub taken : AtEach TakesDetached party (take count numbers) last
  pub at_most : count ≤ length before
  pub others : drop count numbers ≡ drop count before
  pub all : count ≡ length before → after ≡ last
  pub refused : count < length before → RefusesTaking last after

-- A party is to take and detach buckets, and C gets how many. If the pool has no other party, nothing changes.
pub record TellsTakesDetached (party : CachingParty) (before : List ℕ) (told : Figure) (after : CachingParty) (numbers : List ℕ)
    : Type 0 where
  pub one_party : ¬ HasOthers party → (told ≡ no_figure one_party) × (after ≡ party) × (numbers ≡ before)
  pub taken : HasOthers party → (told ≡ figure_of told.number) × TakesManyDetached party after before numbers told.number

-- ATTACHING

-- if the pool of the detached bucket begins where the party's pool does, it is that pool
abbrev pub KnowsInside : CachingParty → Detached → Type 0
KnowsInside joined detached = IfSome detached (λ token. AreKnown start_of token.allocator joined.party.allocator)

-- The party attached the detached bucket, by one step. The chunk in it is inside the region.
pub record HasAttached (joined : CachingParty) (token : TakenBucket) (after : CachingParty) : Type 0 where
  pub attached : after ≡ record joined { party = with_entries joined.party (attach_entry joined.party.number token.number) }
  pub inside : IsInside (geometry_of joined).region (chunk_of token)

-- the party gave back the detached bucket of this number, by one step
abbrev pub HasReturned : CachingParty → ℕ → CachingParty → Type 0
HasReturned joined number after =
    after ≡ record joined { party = with_entries joined.party (return_detached_entry joined.party.number number) }

-- The bucket is taken out of a `bb_detached` for a party of its pool. If several errors apply, the
-- first one in this list is returned, and nothing changes: the `bb_detached` is empty, its bucket
-- is of another pool.
pub record TakesInside (joined : CachingParty) (before : Detached) (told : Result TakenBucket ℕ) (left : Detached) : Type 0 where
  pub empty : before ≡ None → told ≡ Err detached_empty
  pub others : IfSome before (λ token. token.allocator ≢ joined.party.allocator → told ≡ Err other_pool)
  pub taken : IfSome before (λ token. token.allocator ≡ joined.party.allocator → (told ≡ Ok token) × (left ≡ None))
  pub unchanged : IfErr told (λ code. left ≡ before)

-- If a bucket was taken out of a `bb_detached`, `done` holds for it. Otherwise C gets the code of
-- the error, and the party doesn't change.
abbrev pub OfInside : {T : Type 0} → CachingParty → Detached → T → CachingParty → Detached → (ℕ → T) → (TakenBucket → Type 0)
    → Type 0
OfInside joined before told after left cause done = (inside : Result TakenBucket ℕ) × TakesInside joined before inside left
    × IfOk inside done × IfErr inside (λ code. (told ≡ cause code) × (after ≡ joined))

-- C gets the place of the chunk in the detached bucket, which the party attached, or the code of an
-- error
abbrev pub TellsAttach : CachingParty → Detached → Answer → CachingParty → Detached → Type 0
TellsAttach joined before told after left = OfInside joined before told after left refused
    (λ token. (told ≡ answer_of (Ok (chunk_of token))) × HasAttached joined token after)

-- the party gave back the detached bucket, or C gets the code of an error
abbrev pub TellsReturnDetached : CachingParty → Detached → ℕ → CachingParty → Detached → Type 0
TellsReturnDetached joined before code after left = OfInside joined before code after left (λ cause. cause)
    (λ token. (code ≡ ok) × HasReturned joined token.number after)
