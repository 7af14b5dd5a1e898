-- Pools in files, in handles: what C gets from the calls of a party of a file, and of the words that the parties share.
use Rattle.bb_memory_c.specs.SharedPools.{shared_pool_info}
use Rattle.bb_memory_c.specs.declared.file_answer.DetachedNumber.{DetachedNumber}
use Rattle.bb_memory_c.specs.declared.file_answer.Message.{Message}
use Rattle.bb_memory_c.specs.declared.file_answer.PostedMessage.{PostedMessage}
use Rattle.bb_memory_c.specs.declared.file_answer.ShownEntry.{ShownEntry}
use Rattle.bb_memory_c.specs.declared.file_answer.ShownFlag.{ShownFlag}
use Rattle.bb_memory_c.specs.declared.file_answer.ShownSlot.{ShownSlot}
use Rattle.bb_memory_c_calls.specs.Answers.{figure_of, no_figure, refused}
use Rattle.bb_memory_c_calls.specs.Calls.{Answers, Cutting, HasRoom, IsThere, MayBeShared}
use Rattle.bb_memory_c_calls.specs.declared.answer.Answer.{Answer}
use Rattle.bb_memory_c_calls.specs.declared.answer.Figure.{Figure}
use Rattle.bb_memory_c_calls.specs.declared.answer.SharedPoolInfo.{SharedPoolInfo}
use Rattle.bb_memory_c_calls.specs.declared.code.TheConstants.{ALREADY_INITIALIZED as already_initialized, DETACHED_EMPTY as detached_empty, DETACHED_FULL as detached_full, FILE_NOT_DONE as file_not_done, INVALID_ARGUMENT as invalid_argument, MALLOC_REFUSED as malloc_refused, NOT_A_BUCKET as not_a_bucket, NOT_HELD as not_held, NO_PARTY as no_party, OK as ok, PARTIES_JOINED as parties_joined, SIZE_TOO_LARGE as size_too_large, UNINITIALIZED as uninitialized}
use Rattle.bb_memory_file.specs.FileCalls.{IsJoin, IsLeave, IsOver}
use Rattle.bb_memory_file.specs.FileFormat.{entry_at, entry_in, flag_at, flag_in, geometry_of, life_at, slot_at, slot_in, words_of}
use Rattle.bb_memory_file.specs.FileLog.{FileLog, fresh_log}
use Rattle.bb_memory_file.specs.FileNotes.{Allocates, Attaches, Caches, CachesAll, Detaches, Finishes, Flushes, GivesAllBack, IsDoneWith, JoinedParty, Joins, JoinsNot, MissesFirst, Posts, Reaps, Receives, Returns, Sends, Takes, queues_of, used_in}
use Rattle.bb_memory_file.specs.FileParties.{IsUnlocked, log_of, scene_of}
use Rattle.bb_memory_file.specs.FileTables.{FileTable, HasLoaded}
use Rattle.bb_memory_file.specs.Recorded.{beginning_of}
use Rattle.bb_memory_file.specs.declared.joined.Note.{Note}
use Rattle.bb_memory_file.specs.declared.joined.Note.TheVariants.{InUse, Undone}
use Rattle.bb_memory_file.specs.declared.joined.Refusal.TheVariants.{NotDone}
use Rattle.bb_memory_file.specs.declared.joined.Taken.{Taken}
use Rattle.bb_memory_file.specs.declared.joined.Taken.TheVariants as taken
use Rattle.bb_memory_file.specs.declared.party.FileParty.{FileParty}
use Rattle.bb_memory_file.specs.declared.queues.Sending.{Sending}
use Rattle.bb_memory_file.specs.declared.queues.Sending.TheVariants.{Full, Overtaken, Sent}
use Rattle.bb_memory_file_machine.specs.declared.steps.file.Entry.{Entry}
use Rattle.bb_memory_file_machine.specs.declared.steps.file.Entry.TheVariants.{In, Nowhere}
use Rattle.bb_memory_file_machine.specs.declared.steps.file.FileFlag.{FileFlag}
use Rattle.bb_memory_file_machine.specs.declared.steps.file.FileFlag.TheVariants.{DetachedBy, Free, HeldBy, SentTo}
use Rattle.bb_memory_file_machine.specs.declared.steps.file.Slot.{Slot}
use Rattle.bb_memory_file_machine.specs.declared.steps.file.Slot.TheVariants as slots
use Rattle.bb_memory_pool_machine.specs.PoolHints.{first_hint}
use Rattle.bb_memory_traits.specs.Chunk.{Chunk, Region}
use Rattle.bb_memory_traits.specs.Geometry.{MayBeCut}
use Rattle.bb_memory_traits.specs.PoolObject.{HasBucket, IsWithin, PoolGeometry, bucket_place, chunk_in, pool_geometry}
use Rattle.bb_memory_traits.specs.declared.allocator.AllocationError.{AllocationError}
use Rattle.bb_memory_traits.specs.declared.allocator.AllocationError.TheVariants.{AlignmentFailure, OutOfMemory, SizeTooLarge}
use Rattle.bb_memory_traits.specs.declared.layout.Layout.{Layout}
use Rattle.std.specs.Prelude.{Bool, Err, IfSome, None, Ok, Option, Result, Some, [], false, if◌then◌else◌, max, min, replicate, slice_get, true, ℕ, ◌-◌, ◌<◌, ◌^◌, ◌↔◌, ◌≡◌, ◌≢◌, ◌≤◌, ◌⊎◌}

-- VALUES

-- a party of a file, and where this process has the buckets
pub record JoinedFile : Type 0 where
  pub party : JoinedParty FileParty
  pub places : PoolGeometry

-- the words of a file, and where this process has the buckets
pub record OpenFile : Type 0 where
  pub table : FileTable
  pub places : PoolGeometry

-- the geometry has as many buckets as the party's file
abbrev pub IsPlaced : JoinedParty FileParty → PoolGeometry → Type 0
IsPlaced party places = places.buckets ≡ (log_of party.words).scene.buckets

-- the region has room for this many buckets of this layout
abbrev pub HasRoomFor : Region → ℕ → Layout → Type 0
HasRoomFor region buckets bucket = (i : ℕ) → i < buckets → HasBucket region bucket i

-- the region may be cut into buckets of this layout, and has room for those of the file
pub record IsOpen (table : FileTable) (region : Region) (bucket : Layout) : Type 0 where
  pub may : MayBeCut region bucket
  pub room : HasRoomFor region table.geometry.buckets bucket

-- THE WORDS OF A FILE

-- a file may have this many buckets and slots
abbrev pub MayHave : ℕ → ℕ → Type 0
MayHave buckets slots = (buckets < 2 ^ 32 - 1) × (slots < 2 ^ 32 - 1)

-- C gets how many words the row of a file has, or BB_INVALID_ARGUMENT if no file has that many buckets
-- or slots.
pub record TellsWords (buckets slots parties : ℕ) (told : Figure) : Type 0 where
  pub there : MayHave buckets slots → told ≡ figure_of (words_of (geometry_of buckets slots parties))
  pub none : ¬ MayHave buckets slots → told ≡ no_figure invalid_argument

-- the words of a file with these numbers, which begin as zeros, and whose buckets are in the region
pub record IsFileOver (region : Region) (buckets slots parties : ℕ) (bucket : Layout) (file : OpenFile) : Type 0 where
  pub geometry : file.table.geometry ≡ geometry_of buckets slots parties
  pub looks : file.table.looks ≡ []
  pub places : file.places ≡ pool_geometry region bucket buckets
  pub beginning : beginning_of file.table.words ≡ replicate (words_of file.table.geometry) 0

-- how the words of a file with these numbers, whose buckets are in the region, describe their
-- initialization
abbrev pub cutting_file : Region → ℕ → ℕ → ℕ → Cutting OpenFile
cutting_file region buckets slots parties = record {
  may = λ bucket. MayBeShared region parties bucket × MayHave buckets slots;
  room = λ bucket. HasRoom region bucket × HasRoomFor region buckets bucket;
  fresh = λ bucket. IsThere (IsFileOver region buckets slots parties bucket);
}

-- JOINING AND LEAVING

-- the log of a party of the file whose number's lock was just taken
abbrev pub fresh_of : OpenFile → ℕ → FileLog
fresh_of file number = fresh_log (scene_of file.table.geometry) number

-- by these steps a party with this log leaves, frees this many buckets, and its words are given up
abbrev pub LeavesFrom : FileLog → ℕ → Type 0
LeavesFrom log freed = (after : FileLog) × IsUnlocked after × ((process : ℕ) → IsLeave process log freed after)

-- The party has just joined as this number. Its first search begins in its own part of the buckets. The
-- file has queues of this depth: 0 counts as 1.
abbrev pub JoinsAt : OpenFile → ℕ → ℕ → JoinedFile → Type 0
JoinsAt file number depth joined =
    (words : FileParty) × (log_of words ≡ fresh_of file number)
    × Joins log_of words (first_hint file.table.geometry.buckets file.table.geometry.parties file.places.bucket.size number)
    (max depth 1) (Ok joined.party)
    × (joined.places ≡ file.places)

-- Memory ran out, and the words of the number were given up: before the number was settled, or after a
-- party had joined and left again.
abbrev pub GivesUp : FileLog → Type 0
GivesUp log = JoinsNot IsUnlocked log ⊎ ((joined : FileLog) × ((process : ℕ) → IsJoin process log true joined)
    × ((freed : ℕ) × LeavesFrom joined freed))

-- nobody can join as this number: the file has no such party, or the number's life was just found to be
-- over
abbrev pub HasNoParty : OpenFile → ℕ → Type 0
HasNoParty file number =
    (file.table.geometry.parties ≤ number) ⊎ ((after : FileLog) × IsOver (fresh_of file number) after)

-- A party joins as this number, whose lock the caller has just taken. Its handle holds `party` then. C
-- gets BB_PARTIES_JOINED if no more parties can be counted: nothing was done to the file.
pub record TellsJoin (file : OpenFile) (party : Option JoinedFile) (number depth code : ℕ) : Type 0 where
  pub joins : code ≡ ok → IsThere (JoinsAt file number depth) party
  pub none_such : file.table.geometry.parties ≤ number → code ≡ no_party
  pub over : code ≡ no_party → HasNoParty file number
  pub no_memory : code ≡ malloc_refused → GivesUp (fresh_of file number)
  pub no_other : code ≢ ok → code ≢ no_party → code ≢ malloc_refused → code ≡ parties_joined
  pub empty : code ≢ ok → party ≡ None

-- a party joins; its handle has to be empty
pub record AnswersJoin (old new : Option OpenFile) (old_party new_party : Option JoinedFile) (number depth code : ℕ)
    : Type 0 where
  pub held_one : old_party ≢ None → (code ≡ already_initialized) × (new ≡ old) × (new_party ≡ old_party)
  pub joins : old_party ≡ None → Answers old new ((code ≡ uninitialized) × (new_party ≡ None))
      (λ file after. TellsJoin file new_party number depth code × (after ≡ file))

-- a party leaves, and C gets how many buckets were freed; its handle is empty then
pub record AnswersLeave (old new : Option JoinedFile) (told : Figure) : Type 0 where
  pub left : IfSome old (λ file. (told ≡ figure_of told.number) × LeavesFrom (log_of file.party.words) told.number)
  pub was_empty : old ≡ None → told ≡ no_figure uninitialized
  pub empty : new ≡ None

-- A number is settled, whose lock the caller has just taken, and C gets how many buckets were freed. C
-- gets BB_PARTIES_JOINED if no more parties can be counted: nothing was done to the file.
pub record TellsReap (file : OpenFile) (number : ℕ) (dead left : Bool) (told : Figure) : Type 0 where
  pub reaped : told.code ≡ ok → (words : FileParty)
      × (log_of words ≡ fresh_of file number) × Reaps log_of IsUnlocked words dead left (Ok told.number)
  pub none_such : file.table.geometry.parties ≤ number → told.code ≡ no_party
  pub over : told.code ≡ no_party → HasNoParty file number
  pub no_other : told.code ≢ ok → told.code ≢ no_party → told.code ≡ parties_joined
  pub frees_none : told.code ≢ ok → told.number ≡ 0

-- LOOKS

-- A load of this word of the file has found this. The handle's file has one more look than before, and
-- is otherwise what it was.
abbrev pub HasLooked : OpenFile → ℕ → ℕ → OpenFile → Type 0
HasLooked file word found after =
    HasLoaded file.table word found after.table × (after ≡ record file { table = after.table })

-- a bucket's flag in the form that C gets it
abbrev pub shown_flag : FileFlag → ShownFlag
shown_flag Free = record { state = 0; by = 0; lap = 0 }
shown_flag (HeldBy party) = record { state = 1; by = party; lap = 0 }
shown_flag (DetachedBy party) = record { state = 2; by = party; lap = 0 }
shown_flag (SentTo slot lap) = record { state = 3; by = slot; lap = lap }

-- a slot's word in the form that C gets it
abbrev pub shown_slot : Slot → ShownSlot
shown_slot (slots.Empty lap) = record { is_full = false; lap = lap; bucket = 0 }
shown_slot (slots.Message lap bucket) = record { is_full = true; lap = lap; bucket = bucket }

-- a bucket's entry in the form that C gets it
abbrev pub shown_entry : Entry → ShownEntry
shown_entry Nowhere = record { is_in_slot = false; slot = 0; length = 0 }
shown_entry (In slot length) = record { is_in_slot = true; slot = slot; length = length }

-- C gets the flag of the bucket of this number, as a load found it, or that it is free if there is none.
pub record TellsFlag (file : OpenFile) (bucket : ℕ) (told : ShownFlag) (after : OpenFile) : Type 0 where
  pub there : bucket < file.table.geometry.buckets → (word : ℕ)
      × HasLooked file (flag_at file.table.geometry bucket) word after × (told ≡ shown_flag (flag_in word))
  pub past : file.table.geometry.buckets ≤ bucket → (told ≡ shown_flag Free) × (after ≡ file)

-- C gets the word of this slot, as a load found it, or that it is empty if there is none.
pub record TellsSlot (file : OpenFile) (slot : ℕ) (told : ShownSlot) (after : OpenFile) : Type 0 where
  pub there : slot < file.table.geometry.slots → (word : ℕ)
      × HasLooked file (slot_at file.table.geometry slot) word after × (told ≡ shown_slot (slot_in word))
  pub past : file.table.geometry.slots ≤ slot → (told ≡ shown_slot (slots.Empty 0)) × (after ≡ file)

-- C gets the entry of the bucket of this number, as a load found it, or that it is in no slot if there
-- is none.
pub record TellsEntry (file : OpenFile) (bucket : ℕ) (told : ShownEntry) (after : OpenFile) : Type 0 where
  pub there : bucket < file.table.geometry.buckets → (word : ℕ)
      × HasLooked file (entry_at file.table.geometry bucket) word after
      × (told ≡ shown_entry (entry_in file.table.geometry.slots word))
  pub past : file.table.geometry.buckets ≤ bucket → (told ≡ shown_entry Nowhere) × (after ≡ file)

-- C gets the life of the party of this number, as a load found it, or 0 if there is none.
pub record TellsLife (file : OpenFile) (party told : ℕ) (after : OpenFile) : Type 0 where
  pub there : party < file.table.geometry.parties → HasLooked file (life_at file.table.geometry party) told after
  pub past : file.table.geometry.parties ≤ party → (told ≡ 0) × (after ≡ file)

-- BUCKETS OF A PARTY

-- the slots of the party's file are single, and this is one of them
abbrev pub HasSingle : JoinedFile → ℕ → Type 0
HasSingle file slot = (file.party.depth ≡ 1) × (slot < (log_of file.party.words).scene.slots)

-- the party's file has this queue
abbrev pub HasQueue : JoinedFile → ℕ → Type 0
HasQueue file queue = queue < queues_of (log_of file.party.words).scene.slots file.party.depth

-- the number of the party
abbrev pub number_of : JoinedFile → ℕ
number_of file = (log_of file.party.words).party

-- the party becomes another one, as `call` says
abbrev pub Becomes : (JoinedParty FileParty → JoinedParty FileParty → Type 0) → JoinedFile → JoinedFile → Type 0
Becomes call file after = call file.party after.party × (after ≡ record file { party = after.party })

-- the bucket of this number begins at this place, and this is the party's note of it
abbrev pub IsNoted : JoinedFile → ℕ → ℕ → Note → Type 0
IsNoted file place number note = (slice_get file.party.notes number ≡ Some note) × (place ≡ bucket_place file.places number)

-- a bucket begins at this place, and this is the party's note of it
abbrev pub IsNotedAt : JoinedFile → ℕ → Note → Type 0
IsNotedAt file place note = (number : ℕ) × IsNoted file place number note

-- the party has a bucket in use that begins at this place: one in no slot, or one with whose message it
-- isn't done
abbrev pub HoldsPlace : JoinedFile → ℕ → Type 0
HoldsPlace file place = IsNotedAt file place InUse ⊎ IsNotedAt file place Undone

-- the party may free the bucket at this place: the party has it in use, and it is in no slot
abbrev pub MayFree : JoinedFile → ℕ → Type 0
MayFree file place = IsNotedAt file place InUse

-- The answer to a request: the chunk in the bucket that the party took, or the reason why it took none.
abbrev pub GivesChunk : JoinedFile → Layout → Result Chunk AllocationError → JoinedFile → Type 0
GivesChunk file layout (Ok chunk) after = IsWithin file.places.bucket layout
    × ((number : ℕ) × (number < file.places.buckets) × (chunk ≡ chunk_in file.places number layout)
    × Becomes (λ old new. Allocates log_of old (Some number) new) file after)
GivesChunk file layout (Err OutOfMemory) after =
    IsWithin file.places.bucket layout × Becomes (λ old new. Allocates log_of old None new) file after
GivesChunk file layout (Err SizeTooLarge) after = (file.places.bucket.size < layout.size) × (after ≡ file)
GivesChunk file layout (Err AlignmentFailure) after =
    (layout.size ≤ file.places.bucket.size) × (file.places.bucket.align < layout.align) × (after ≡ file)
GivesChunk file layout (Err error) after = ⊥

-- the first bucket that the taking of a whole bucket tried wasn't free, and the taking isn't over
abbrev pub MissesFirstAt : JoinedFile → JoinedFile → Type 0
MissesFirstAt = Becomes (MissesFirst log_of)

-- the party gave back the bucket at this place
abbrev pub GivesBack : JoinedFile → ℕ → JoinedFile → Type 0
GivesBack file place after =
    (number : ℕ) × IsNoted file place number InUse × Becomes (λ old new. Returns log_of old number new) file after

-- A party is to free the bucket at a place. Each code is returned for exactly its cause. The number is 1
-- if the bucket is free then, and otherwise 0: the party caches the bucket, or the call has failed.
pub record TellsDeallocate (file : JoinedFile) (place : ℕ) (told : Figure) (after : JoinedFile) : Type 0 where
  pub not_held : (told.code ≡ not_held) ↔ (¬ HoldsPlace file place)
  pub not_done : (told.code ≡ file_not_done) ↔ IsNotedAt file place Undone
  pub freed : (told.code ≡ ok) ↔ MayFree file place
  pub gone : told.code ≡ ok → GivesBack file place after
  pub unchanged : told.code ≢ ok → after ≡ file
  pub free : (told.number ≡ 1) ↔ (MayFree file place × CachesAll file.party)
  pub not_free : told.number ≢ 1 → told.number ≡ 0

-- the party gives back all that it holds, and C gets how many buckets were freed
abbrev pub TellsFreed : JoinedFile → Figure → JoinedFile → Type 0
TellsFreed file told after =
    (told ≡ figure_of told.number) × Becomes (λ old new. GivesAllBack log_of old told.number new) file after

-- The party gives back what it caches, and caches at most `most` buckets from then on, or as many as the
-- file has if there are fewer. If memory for their list runs out, nothing changes. With 0 there is no list.
pub record TellsCache (file : JoinedFile) (most code : ℕ) (after : JoinedFile) : Type 0 where
  pub done : code ≡ ok → Becomes (λ old new. Caches {E = ⊥} log_of old most (Ok tt) new) file after
  pub else_memory : code ≢ ok → (code ≡ malloc_refused) × (after ≡ file)
  pub none : most ≡ 0 → code ≡ ok

-- the party gives back what it caches
abbrev pub TellsFlush : JoinedFile → ℕ → JoinedFile → Type 0
TellsFlush file code after = (code ≡ ok) × Becomes (Flushes log_of) file after

-- C gets the figures of the file's pool: the held buckets are those that the party has in use. The party
-- doesn't change.
abbrev pub ShowsParty : JoinedFile → SharedPoolInfo → JoinedFile → Type 0
ShowsParty file info after = (info ≡ shared_pool_info file.places (used_in file.party.notes)) × (after ≡ file)

-- MESSAGES

-- a message of this length fits into a bucket, and into the bucket's entry
abbrev pub Fits : JoinedFile → ℕ → Type 0
Fits file len = (len ≤ file.places.bucket.size) × (len < 2 ^ 32)

-- the code of the reason why the party may not post the bucket at this place with a message of `len`
-- bytes: the first one in this list that applies
pub record MayNotPost (file : JoinedFile) (place len code : ℕ) : Type 0 where
  pub not_held : ¬ HoldsPlace file place → code ≡ not_held
  pub not_done : IsNotedAt file place Undone → code ≡ file_not_done
  pub too_large : MayFree file place → ¬ Fits file len × (code ≡ size_too_large)

-- the answer to a post with this code, to which no other sender has anything to do
abbrev pub posted_as : ℕ → PostedMessage
posted_as code = record { code = code; is_overtaken = false }

-- the answer to a post that other senders have overtaken
abbrev pub overtaken : PostedMessage
overtaken = record { code = detached_full; is_overtaken = true }

-- C's answer to the posting of a message into a queue
abbrev pub posted_by : Sending → PostedMessage
posted_by (Sent slot) = posted_as ok
posted_by Full = posted_as detached_full
posted_by Overtaken = overtaken

-- the party has tried to post the bucket of this number into a single slot
abbrev pub PostsSingle : JoinedFile → ℕ → ℕ → ℕ → PostedMessage → JoinedFile → Type 0
PostsSingle file slot number len told after =
    (is_posted : Bool) × (told ≡ posted_as (if is_posted then ok else detached_full))
    × Becomes (λ old new. Posts log_of old slot number len (Ok is_posted) new) file after

-- the party has tried to post the bucket of this number into a queue
abbrev pub PostsQueued : JoinedFile → ℕ → ℕ → ℕ → PostedMessage → JoinedFile → Type 0
PostsQueued file queue number len told after =
    (sending : Sending) × (told ≡ posted_by sending)
    × Becomes (λ old new. Sends log_of old queue number len (Ok sending) new) file after

-- A party is to post the bucket at a place, with a message of `len` bytes, in a slot, if the file has
-- that slot. `posts` says how the party tries it with the bucket of a number. If several errors apply, the
-- first one in this list is returned.
pub record TellsPost (has_slot : Type 0) (posts : ℕ → ℕ → PostedMessage → JoinedFile → Type 0) (file : JoinedFile) (place len : ℕ)
    (told : PostedMessage) (after : JoinedFile) : Type 0 where
  pub no_slot : ¬ has_slot → (told ≡ posted_as invalid_argument) × (after ≡ file)
  pub not_held : has_slot → ¬ HoldsPlace file place → (told ≡ posted_as not_held) × (after ≡ file)
  pub not_done : has_slot → IsNotedAt file place Undone → (told ≡ posted_as file_not_done) × (after ≡ file)
  pub too_large : has_slot → MayFree file place → ¬ Fits file len → (told ≡ posted_as size_too_large) × (after ≡ file)
  pub tried : has_slot → MayFree file place → Fits file len → (number : ℕ) × IsNoted file place number InUse
      × posts number len told after

-- no message, for the reason of this code
abbrev pub no_message : ℕ → Message
no_message code = record { code = code; number = 0; place = 0; len = 0 }

-- C's answer to the taking of a message
abbrev pub message_of : PoolGeometry → Taken → Message
message_of places taken.Empty = no_message detached_empty
message_of places taken.NotSent = no_message not_held
message_of places taken.Wrong = no_message not_a_bucket
message_of places (taken.Message bucket length) =
    record { code = ok; number = bucket; place = bucket_place places bucket; len = length }

-- the bucket of a message that was taken is one of the file's
abbrev pub HasBucketOf : JoinedFile → Taken → Type 0
HasBucketOf file (taken.Message bucket length) = bucket < file.places.buckets
HasBucketOf file answer = Unit {0}

-- the greatest length of a message in a bucket, and in the bucket's entry
abbrev pub size_of : JoinedFile → ℕ
size_of file = min file.places.bucket.size (2 ^ 32 - 1)

-- the party has looked for a message in a single slot, and found this
abbrev pub TakesSingle : JoinedFile → ℕ → Taken → JoinedFile → Type 0
TakesSingle file slot answer after = Becomes (λ old new. Takes log_of old slot (size_of file) answer new) file after

-- the party has looked for a message in a queue, and found this
abbrev pub TakesQueued : JoinedFile → ℕ → Taken → JoinedFile → Type 0
TakesQueued file queue answer after = Becomes (λ old new. Receives log_of old queue (size_of file) answer new) file after

-- A party is to take a message in a slot, if the file has that slot. `takes` says what it finds there.
pub record TellsMessage (has_slot : Type 0) (takes : Taken → JoinedFile → Type 0) (file : JoinedFile) (told : Message)
    (after : JoinedFile) : Type 0 where
  pub no_slot : ¬ has_slot → (told ≡ no_message invalid_argument) × (after ≡ file)
  pub tried : has_slot → (answer : Taken) × (told ≡ message_of file.places answer) × takes answer after

-- A party says that it is done with the message in a single slot.
pub record TellsDone (file : JoinedFile) (slot code : ℕ) (after : JoinedFile) : Type 0 where
  pub no_slot : ¬ HasSingle file slot → (code ≡ invalid_argument) × (after ≡ file)
  pub tried : HasSingle file slot → (is_done : Bool) × (code ≡ (if is_done then ok else not_held))
      × Becomes (λ old new. IsDoneWith log_of old slot is_done new) file after

-- C's answer to an attempt to be done with the message in the bucket of this number: the slot that is
-- empty now, or the reason why none is
abbrev pub MayFinish : JoinedFile → ℕ → Figure → JoinedFile → Type 0
MayFinish file number told after =
    ((slot : ℕ) × (told ≡ figure_of slot) × Becomes (λ old new. Finishes log_of old number (Ok slot) new) file after)
    ⊎ ((told ≡ no_figure not_a_bucket) × Becomes (λ old new. Finishes log_of old number (Err NotDone) new) file after)

-- A party says that it is done with the message in the bucket at a place.
pub record TellsDoneWith (file : JoinedFile) (place : ℕ) (told : Figure) (after : JoinedFile) : Type 0 where
  pub not_held : ¬ IsNotedAt file place Undone → (told ≡ no_figure not_held) × (after ≡ file)
  pub undone : IsNotedAt file place Undone → (number : ℕ) × IsNoted file place number Undone
      × MayFinish file number told after

-- BY NUMBER

-- no detached bucket, for the reason of this code
abbrev pub none_detached : ℕ → DetachedNumber
none_detached code = record { code = code; number = 0; slot = 0; is_put_back = false }

-- the number of a bucket that is detached
abbrev pub detached_number : ℕ → DetachedNumber
detached_number number = record { code = ok; number = number; slot = 0; is_put_back = false }

-- the number of a bucket whose message was put back in this slot
abbrev pub put_back_number : ℕ → ℕ → DetachedNumber
put_back_number number slot = record { code = ok; number = number; slot = slot; is_put_back = true }

-- C's answer to an attempt to put back the message in the bucket of this number
abbrev pub MayPutBack : JoinedFile → ℕ → DetachedNumber → JoinedFile → Type 0
MayPutBack file number told after =
    ((slot : ℕ) × (told ≡ put_back_number number slot)
    × Becomes (λ old new. Detaches log_of old number (Ok (Some slot)) new) file after)
    ⊎ ((told ≡ none_detached not_a_bucket) × Becomes (λ old new. Detaches log_of old number (Err NotDone) new) file after)

-- A party is to detach the bucket at a place, or to put back the bucket's message.
pub record TellsDetach (file : JoinedFile) (place : ℕ) (told : DetachedNumber) (after : JoinedFile) : Type 0 where
  pub not_held : ¬ HoldsPlace file place → (told ≡ none_detached not_held) × (after ≡ file)
  pub detached : MayFree file place → (number : ℕ) × IsNoted file place number InUse
      × (told ≡ detached_number number) × Becomes (λ old new. Detaches log_of old number (Ok None) new) file after
  pub undone : IsNotedAt file place Undone → (number : ℕ) × IsNoted file place number Undone
      × MayPutBack file number told after

-- A party is to attach the bucket of this number, whoever has detached it.
pub record TellsAttach (file : JoinedFile) (number : ℕ) (told : Answer) (after : JoinedFile) : Type 0 where
  pub past : file.places.buckets ≤ number → (told ≡ refused not_a_bucket) × (after ≡ file)
  pub tried : number < file.places.buckets → (is_attached : Bool)
      × (told ≡ (if is_attached then record { code = ok; place = bucket_place file.places number } else refused not_held))
      × Becomes (λ old new. Attaches log_of old number (Ok is_attached) new) file after
