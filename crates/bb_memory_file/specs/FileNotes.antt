-- What a party that has joined has noted of its buckets, and what its calls promise.
use Rattle.bb_memory_file.specs.FileCalls.{AllocateSays, BeginsSearch, Gets, IsAttach, IsDeallocate, IsDetach, IsDone, IsJoin, IsPost, IsPutBack, IsReap, IsReceive, IsSettled, Makes}
use Rattle.bb_memory_file.specs.FileCalls.received as received
use Rattle.bb_memory_file.specs.FileCalls.whereabouts as whereabouts
use Rattle.bb_memory_file.specs.FileCode.{FileLog, Holds, Known, LoadSlot, Path, StoreFlag, Unknown, known_of, told}
use Rattle.bb_memory_file.specs.FileLog.{Event, fresh_log}
use Rattle.bb_memory_file.specs.FileNames.{Counting, Deallocate, Empty, FileStep, Free, In, Message, Nowhere, Outside, Slot}
use Rattle.bb_memory_file.specs.FileQueueCalls.{AllObey, IsDoneAt, IsReceipt, IsSend, Sending, Sent, noted_after}
use Rattle.bb_memory_file.specs.FileQueueLooks.{KnowsHead, KnowsTail, Position}
use Rattle.bb_memory_file.specs.FileSettlers.{IsCounted}
pub use Rattle.bb_memory_file.specs.declared.joined.Ends.{Ends}
pub use Rattle.bb_memory_file.specs.declared.joined.Note.{Note}
pub use Rattle.bb_memory_file.specs.declared.joined.Note.TheVariants.{Cached, InUse, Undone, Unheld}
pub use Rattle.bb_memory_file.specs.declared.joined.Refusal.{Refusal}
pub use Rattle.bb_memory_file.specs.declared.joined.Refusal.TheVariants.{NotABucket, NotDone, NotHeld}
pub use Rattle.bb_memory_file.specs.declared.joined.Taken.{Taken}
pub use Rattle.bb_memory_file.specs.declared.joined.Taken.TheVariants as taken
use Rattle.bb_memory_file_machine.specs.FileQueues.{FileQueue}
use Rattle.bb_memory_pool_machine.specs.PoolHints.{hint_after}
use Rattle.bb_memory_pool_machine.specs.declared.hint.Hint.{Hint}
use Rattle.bb_memory_pool_machine.specs.declared.steps.pool.PoolOutcome.TheVariants as outcome
use Rattle.std.specs.Prelude.{AllPairs, Bool, Contains, Err, IfSome, List, None, Ok, Option, Result, Some, [], false, if◌then◌else◌, length, map, nat_lt, replicate, slice_get, slice_set, true, ℕ, ◌++◌, ◌+◌, ◌/◌, ◌<◌, ◌==◌, ◌^◌, ◌∷◌, ◌≡◌, ◌≢◌, ◌≤◌, ◌⊎◌}

-- A party that has joined: the words of its file, a note of each bucket, the hint at which its next
-- search begins, the numbers of the buckets that it caches, in the order in which it cached them, how
-- many it caches at most, the depth of the file's queues, and where it goes on at each of them.
pub record JoinedParty (W : Type 0) : Type 0 where
  pub words : W
  pub notes : List Note
  pub hint : Hint
  pub cached : List ℕ
  pub most : ℕ
  pub depth : ℕ
  pub ends : List Ends

-- The note says what the party knows of the bucket. If others have changed the file, a look may have
-- found the party's number in the flag of a bucket that it hasn't taken: it doesn't hold that one.
abbrev pub IsNoted : Known → Note → Type 0
IsNoted Unknown Unheld = Unit {0}
IsNoted (Holds None seen) Unheld = Unit {0}
IsNoted (Holds (Some Nowhere) seen) InUse = Unit {0}
IsNoted (Holds (Some Nowhere) seen) Cached = Unit {0}
IsNoted (Holds (Some (In slot length)) seen) Undone = Unit {0}
IsNoted known note = ⊥

-- there is a note of each bucket, which says what the party knows of it
pub record AreNoted (log : FileLog) (notes : List Note) : Type 0 where
  pub enough : length notes ≡ log.scene.buckets
  pub each : (bucket : ℕ) (note : Note) → slice_get notes bucket ≡ Some note → IsNoted (known_of log bucket) note

-- by all that the party has done since its process has taken the lock, the process is in no call
abbrev pub IsHome : FileLog → Type 0
IsHome log = (process : ℕ) →
    (steps : List FileStep) × Path process (fresh_log log.scene log.party) (Counting log.party) log steps Outside

-- the invariant of a party that has joined
pub record IsJoined (log : FileLog) (notes : List Note) : Type 0 where
  pub home : IsHome log
  pub noted : AreNoted log notes

-- No two of the cached buckets are the same, and a bucket is cached exactly if that is its note.
pub record AreCached (notes : List Note) (cached : List ℕ) : Type 0 where
  pub differ : AllPairs (λ one other. one ≢ other) cached
  pub noted : (bucket : ℕ) → Contains cached bucket → slice_get notes bucket ≡ Some Cached
  pub all : (bucket : ℕ) → slice_get notes bucket ≡ Some Cached → Contains cached bucket

-- how many queues of this depth a file of this many slots has: at depth 1 its slots are single
abbrev pub queues_of : ℕ → ℕ → ℕ
queues_of slots depth = if depth == 1 then 0 else slots / depth

-- a party that has been at no queue
abbrev pub no_ends : Ends
no_ends = record { tail = None; head = None }

-- where the party goes on at the queue is what it knows by these events
pub record AreEnds (queue : FileQueue) (events : List Event) (ends : Ends) : Type 0 where
  pub tail : IfSome ends.tail (λ position. KnowsTail queue events position)
  pub head : IfSome ends.head (λ position. KnowsHead queue events position)

-- what the party has done obeys the rules of each queue of this depth, and it knows where it goes on
pub record KeepsQueues (log : FileLog) (depth : ℕ) (ends : List Ends) : Type 0 where
  pub deep : 0 < depth
  pub fits : log.scene.slots < 2 ^ 32
  pub enough : length ends ≡ queues_of log.scene.slots depth
  pub known : (number : ℕ) (its : Ends) → slice_get ends number ≡ Some its →
      AreEnds (record { scene = log.scene; number = number; depth = depth }) log.events its
  pub obeys : AllObey depth log

-- the party holds the bucket with this note
abbrev pub IsHeldNote : Option Note → Type 0
IsHeldNote (Some Cached) = Unit {0}
IsHeldNote (Some InUse) = Unit {0}
IsHeldNote (Some Undone) = Unit {0}
IsHeldNote _ = ⊥

-- CALLS

-- why a call refuses a bucket with this note, or without a note
abbrev pub IsRefusal : Option Note → Refusal → Type 0
IsRefusal None NotABucket = Unit {0}
IsRefusal (Some Unheld) NotHeld = Unit {0}
IsRefusal (Some Cached) NotHeld = Unit {0}
IsRefusal (Some Undone) NotDone = Unit {0}
IsRefusal _ _ = ⊥

-- the call does this to the file, and notes this of the bucket
abbrev pub Does : {W : Type 0} → (W → FileLog) → (ℕ → FileLog → FileLog → Type 0) → JoinedParty W → ℕ → Note → JoinedParty W →
    Type 0
Does log call old bucket note new =
    ((process : ℕ) → call process (log old.words) (log new.words))
    × (new ≡ record old { words = new.words; notes = slice_set old.notes bucket note })

-- the call does this to the file, and notes nothing
abbrev pub DoesOnly : {W : Type 0} → (W → FileLog) → (ℕ → FileLog → FileLog → Type 0) → JoinedParty W → JoinedParty W → Type 0
DoesOnly log call old new =
    ((process : ℕ) → call process (log old.words) (log new.words)) × (new ≡ record old { words = new.words })

-- The party has joined with this hint, has noted of each bucket that it doesn't hold the bucket, caches
-- none, and has been at no queue of this depth. Or the life of its number can't become greater.
abbrev pub Joins : {W : Type 0} → (W → FileLog) → W → Hint → ℕ → Result (JoinedParty W) W → Type 0
Joins log words hint depth (Ok party) =
    ((process : ℕ) → IsJoin process (log words) true (log party.words))
    × (party ≡ record {
      words = party.words;
      notes = replicate (log words).scene.buckets Unheld;
      hint = hint;
      cached = [];
      most = 0;
      depth = depth;
      ends = replicate (queues_of (log words).scene.slots depth) no_ends;
    })
Joins log words hint depth (Err after) = (process : ℕ) → IsJoin process (log words) false (log after)

-- the process has counted that it has taken the number's lock, has done nothing else, and has given up
-- the words
abbrev pub JoinsNot : (FileLog → Type 0) → FileLog → Type 0
JoinsNot unlocked old =
    (new : FileLog) × unlocked new × ((life : ℕ) × ((process : ℕ) → IsCounted process old (Some life) new))

-- the process has settled the number and given up the words, or found the number's life to be over
abbrev pub Reaps : {W : Type 0} → (W → FileLog) → (FileLog → Type 0) → W → Bool → Bool → Result ℕ W → Type 0
Reaps log unlocked words dead left (Ok freed) =
    (new : FileLog) × unlocked new × ((process : ℕ) → IsReap process (log words) dead left (Some freed) new)
Reaps log unlocked words dead left (Err after) = (process : ℕ) → IsReap process (log words) dead left None (log after)

-- a search from the party's hint has taken a bucket that was free, or found none
abbrev pub Searches : {W : Type 0} → (W → FileLog) → JoinedParty W → Option ℕ → JoinedParty W → Type 0
Searches log old None new =
    AllocateSays (log old.words) old.hint.bucket None (log new.words) × (new ≡ record old { words = new.words })
Searches log old (Some bucket) new =
    AllocateSays (log old.words) old.hint.bucket (Some bucket) (log new.words)
    × (new ≡ record old {
      words = new.words;
      notes = slice_set old.notes bucket InUse;
      hint = hint_after old.hint (outcome.Takes bucket);
    })

-- the party has taken the bucket that was cached last, without an operation; or if none was cached, it
-- has searched for one
pub record Allocates {W : Type 0} (log : W → FileLog) (old : JoinedParty W) (answer : Option ℕ) (new : JoinedParty W) : Type 0 where
  pub cached : (before : List ℕ) (last : ℕ) → old.cached ≡ before ++ last ∷ [] →
      (answer ≡ Some last) × (new ≡ record old { notes = slice_set old.notes last InUse; cached = before })
  pub searched : old.cached ≡ [] → Searches log old answer new

-- none was cached, and the bucket at which the search begins wasn't free; the search isn't over
pub record MissesFirst {W : Type 0} (log : W → FileLog) (old new : JoinedParty W) : Type 0 where
  pub none_cached : old.cached ≡ []
  pub begun : BeginsSearch (log old.words) old.hint.bucket (log new.words)
  pub unchanged : new ≡ record old { words = new.words }

-- the party caches as many buckets as it may, so the next one that it gives back is free
abbrev pub CachesAll : {W : Type 0} → JoinedParty W → Type 0
CachesAll party = party.most ≤ length party.cached

-- the bucket is cached if the party caches fewer than it may; otherwise it is given back, and moves the
-- hint
pub record Returns {W : Type 0} (log : W → FileLog) (old : JoinedParty W) (bucket : ℕ) (new : JoinedParty W) : Type 0 where
  pub cached : length old.cached < old.most →
      new ≡ record old { notes = slice_set old.notes bucket Cached; cached = old.cached ++ bucket ∷ [] }
  pub returned : old.most ≤ length old.cached → ((process : ℕ) → IsDeallocate process (log old.words) bucket (log new.words))
      × (new ≡ record old {
        words = new.words;
        notes = slice_set old.notes bucket Unheld;
        hint = hint_after old.hint (outcome.Gives bucket);
      })

-- the bucket was in use, and is cached or given back; or the call says why not
abbrev pub Deallocates : {W : Type 0} → (W → FileLog) → JoinedParty W → ℕ → Result (Unit {0}) Refusal → JoinedParty W → Type 0
Deallocates log old bucket (Ok _) new = (slice_get old.notes bucket ≡ Some InUse) × Returns log old bucket new
Deallocates log old bucket (Err refusal) new = IsRefusal (slice_get old.notes bucket) refusal × (new ≡ old)

-- the bucket that was cached last is given back, if one was cached
abbrev pub FreesLast : {W : Type 0} → (W → FileLog) → JoinedParty W → Bool → JoinedParty W → Type 0
FreesLast log old true new =
    (before : List ℕ) × (last : ℕ) × (old.cached ≡ before ++ last ∷ [])
    × ((process : ℕ) → IsDeallocate process (log old.words) last (log new.words))
    × (new ≡ record old {
      words = new.words;
      notes = slice_set old.notes last Unheld;
      hint = hint_after old.hint (outcome.Gives last);
      cached = before;
    })
FreesLast log old false new = (old.cached ≡ []) × (new ≡ old)

-- the notes after these buckets were given back
abbrev pub notes_without : List Note → List ℕ → List Note
notes_without notes [] = notes
notes_without notes (bucket ∷ buckets) = slice_set (notes_without notes buckets) bucket Unheld

-- the hint after these buckets were given back, from the last to the first
abbrev pub hint_without : Hint → List ℕ → Hint
hint_without hint [] = hint
hint_without hint (bucket ∷ buckets) = hint_after (hint_without hint buckets) (outcome.Gives bucket)

-- The party has given back each bucket that was cached, from the one that was cached last to the one
-- that was cached first.
pub record Flushes {W : Type 0} (log : W → FileLog) (old new : JoinedParty W) : Type 0 where
  pub gets : Gets (log old.words) (map (λ bucket. StoreFlag bucket Free) old.cached) (log new.words)
  pub makes : (process : ℕ) → Makes process (log old.words)
      (map (λ bucket. Deallocate process (log old.words).party bucket) old.cached) (log new.words)
  pub party : new ≡ record old {
    words = new.words;
    notes = notes_without old.notes old.cached;
    hint = hint_without old.hint old.cached;
    cached = [];
  }

-- The party has flushed, and caches at most this many buckets from now on, or as many as the file has if
-- those are fewer. If memory ran out, nothing has changed.
abbrev pub Caches : {W E : Type 0} → (W → FileLog) → JoinedParty W → ℕ → Result (Unit {0}) E → JoinedParty W → Type 0
Caches log old most (Ok _) new =
    let buckets = (log old.words).scene.buckets in
    Flushes log (record old { most = if nat_lt most buckets then most else buckets }) new
Caches log old most (Err _) new = new ≡ old

-- The bucket was in use, and is detached; or its message is put back in this slot; or the call says why
-- not. If the message's slot hasn't the bucket, which no file shows in which only these calls write, the
-- party isn't done with it.
abbrev pub Detaches : {W : Type 0} → (W → FileLog) → JoinedParty W → ℕ → Result (Option ℕ) Refusal → JoinedParty W → Type 0
Detaches log old bucket (Ok None) new =
    (slice_get old.notes bucket ≡ Some InUse)
    × Does log (λ process before after. IsDetach process before bucket after) old bucket Unheld new
Detaches log old bucket (Ok (Some slot)) new =
    (slice_get old.notes bucket ≡ Some Undone) × ((lap : ℕ)
    × Does log (λ process before after. IsPutBack process before bucket (whereabouts.In slot lap) after) old bucket Unheld new)
Detaches log old bucket (Err refusal) new =
    IsRefusal (slice_get old.notes bucket) refusal
    × (((slice_get old.notes bucket ≢ Some Undone) × (new ≡ old)) ⊎ ((slice_get old.notes bucket ≡ Some Undone)
    × (DoesOnly log (λ process before after. IsPutBack process before bucket whereabouts.Entered after) old new
    ⊎ Does log (λ process before after. IsPutBack process before bucket whereabouts.Nowhere after) old bucket InUse new)))

-- the bucket is attached, or the party holds it, or it isn't detached
abbrev pub Attaches : {W : Type 0} → (W → FileLog) → JoinedParty W → ℕ → Result Bool Refusal → JoinedParty W → Type 0
Attaches log old bucket (Ok true) new =
    (slice_get old.notes bucket ≡ Some Unheld)
    × Does log (λ process before after. IsAttach process before bucket true after) old bucket InUse new
Attaches log old bucket (Ok false) new =
    ((slice_get old.notes bucket ≡ Some Unheld)
    × DoesOnly log (λ process before after. IsAttach process before bucket false after) old new)
    ⊎ (IsHeldNote (slice_get old.notes bucket) × (new ≡ old))
Attaches log old bucket (Err refusal) new = (slice_get old.notes bucket ≡ None) × (refusal ≡ NotABucket) × (new ≡ old)

-- the bucket was in use, and is posted, or the slot is full; or the call says why not
abbrev pub Posts : {W : Type 0} → (W → FileLog) → JoinedParty W → ℕ → ℕ → ℕ → Result Bool Refusal → JoinedParty W → Type 0
Posts log old slot bucket length (Ok true) new =
    (slice_get old.notes bucket ≡ Some InUse)
    × Does log (λ process before after. IsPost process before slot bucket length true after) old bucket Unheld new
Posts log old slot bucket length (Ok false) new =
    (slice_get old.notes bucket ≡ Some InUse)
    × DoesOnly log (λ process before after. IsPost process before slot bucket length false after) old new
Posts log old slot bucket length (Err refusal) new = IsRefusal (slice_get old.notes bucket) refusal × (new ≡ old)

-- the call has looked at the slot, and found this word
abbrev pub looked : FileLog → ℕ → Slot → FileLog
looked log slot word = told log (LoadSlot slot word)

-- what the call did, by its answer: a message in a bucket of the party's own is none that is sent
abbrev pub Takes : {W : Type 0} → (W → FileLog) → JoinedParty W → ℕ → ℕ → Taken → JoinedParty W → Type 0
Takes log old slot size taken.Empty new =
    (lap : ℕ) × (log new.words ≡ looked (log old.words) slot (Empty lap)) × (new ≡ record old { words = new.words })
Takes log old slot size taken.Wrong new =
    (lap : ℕ) × (bucket : ℕ)
    × (((slice_get old.notes bucket ≡ None) × (log new.words ≡ looked (log old.words) slot (Message lap bucket))
    × (new ≡ record old { words = new.words }))
    ⊎ ((slice_get old.notes bucket ≡ Some Unheld) × DoesOnly log (λ process before after.
    IsReceive process (looked before slot (Message lap bucket)) slot lap bucket size received.Wrong after) old new))
Takes log old slot size taken.NotSent new =
    (lap : ℕ) × (bucket : ℕ)
    × ((IsHeldNote (slice_get old.notes bucket) × (log new.words ≡ looked (log old.words) slot (Message lap bucket))
    × (new ≡ record old { words = new.words }))
    ⊎ ((slice_get old.notes bucket ≡ Some Unheld) × DoesOnly log (λ process before after.
    IsReceive process (looked before slot (Message lap bucket)) slot lap bucket size received.NotSent after) old new))
Takes log old slot size (taken.Message bucket length) new =
    (lap : ℕ) × (slice_get old.notes bucket ≡ Some Unheld) × Does log (λ process before after.
    IsReceive process (looked before slot (Message lap bucket)) slot lap bucket size (received.Message length) after)
    old bucket Undone new

-- the word has no message that the party has taken, and isn't done with
abbrev pub HasNone : List Note → Slot → Type 0
HasNone notes (Empty lap) = Unit {0}
HasNone notes (Message lap bucket) = slice_get notes bucket ≢ Some Undone

-- the party was at work on the message in the slot, which is empty now; or the slot has none of its
-- messages
abbrev pub IsDoneWith : {W : Type 0} → (W → FileLog) → JoinedParty W → ℕ → Bool → JoinedParty W → Type 0
IsDoneWith log old slot true new =
    (lap : ℕ) × (bucket : ℕ) × (slice_get old.notes bucket ≡ Some Undone) × Does log (λ process before after.
    IsDone process (looked before slot (Message lap bucket)) slot bucket lap after) old bucket InUse new
IsDoneWith log old slot false new =
    (word : Slot) × (log new.words ≡ looked (log old.words) slot word) × HasNone old.notes word
    × (new ≡ record old { words = new.words })

-- the queue of this number, at the depth of the party's queues
abbrev pub queue_at : {W : Type 0} → (W → FileLog) → JoinedParty W → ℕ → FileQueue
queue_at log party number = record { scene = (log party.words).scene; number = number; depth = party.depth }

-- the notes after this answer of a sender of the bucket
abbrev pub notes_sent : List Note → ℕ → Sending → List Note
notes_sent notes bucket (Sent slot) = slice_set notes bucket Unheld
notes_sent notes bucket sending = notes

-- The bucket was in use. The party has noted where it goes on as a sender at the queue, and if it has sent
-- the message, that it no longer holds the bucket. Or the call says why not.
abbrev pub Sends : {W : Type 0} → (W → FileLog) → JoinedParty W → ℕ → ℕ → ℕ → Result Sending Refusal → JoinedParty W → Type 0
Sends log old queue bucket length (Ok sending) new =
    (slice_get old.notes bucket ≡ Some InUse)
    × ((process : ℕ) → IsSend process (log old.words) (queue_at log old queue) bucket length sending (log new.words))
    × ((its : Ends) × (tail : Position) × (slice_get old.ends queue ≡ Some its)
    × (new ≡ record old {
      words = new.words;
      notes = notes_sent old.notes bucket sending;
      ends = slice_set old.ends queue (record its { tail = Some tail });
    }))
Sends log old queue bucket length (Err refusal) new = IsRefusal (slice_get old.notes bucket) refusal × (new ≡ old)

-- The party has noted where it goes on as a receiver at the queue, and if it has received a message, that
-- it isn't done with it.
abbrev pub Receives : {W : Type 0} → (W → FileLog) → JoinedParty W → ℕ → ℕ → Taken → JoinedParty W → Type 0
Receives log old queue size taken new =
    ((process : ℕ) → IsReceipt process (log old.words) old.notes (queue_at log old queue) size taken (log new.words))
    × ((its : Ends) × (head : Option Position) × (slice_get old.ends queue ≡ Some its)
    × (new ≡ record old {
      words = new.words;
      notes = noted_after old.notes taken;
      ends = slice_set old.ends queue (record its { head = head });
    }))

-- the party has no message in a bucket with this note
abbrev pub HasNoMessage : Option Note → Type 0
HasNoMessage (Some Unheld) = Unit {0}
HasNoMessage (Some Cached) = Unit {0}
HasNoMessage (Some InUse) = Unit {0}
HasNoMessage _ = ⊥

-- The party was at work on the message in the bucket, and its slot, which is this one, is empty now. Or the
-- call says why not. If the message's slot hasn't the bucket, which no file shows in which only these calls
-- write, the party isn't done with it.
abbrev pub Finishes : {W : Type 0} → (W → FileLog) → JoinedParty W → ℕ → Result ℕ Refusal → JoinedParty W → Type 0
Finishes log old bucket (Ok slot) new =
    (slice_get old.notes bucket ≡ Some Undone) × ((lap : ℕ)
    × Does log (λ process before after. IsDoneAt process before bucket (whereabouts.In slot lap) after) old bucket InUse new)
Finishes log old bucket (Err NotABucket) new = (slice_get old.notes bucket ≡ None) × (new ≡ old)
Finishes log old bucket (Err NotHeld) new = HasNoMessage (slice_get old.notes bucket) × (new ≡ old)
Finishes log old bucket (Err NotDone) new =
    (slice_get old.notes bucket ≡ Some Undone)
    × (DoesOnly log (λ process before after. IsDoneAt process before bucket whereabouts.Entered after) old new
    ⊎ Does log (λ process before after. IsDoneAt process before bucket whereabouts.Nowhere after) old bucket InUse new)

-- all buckets that the party held, in use or cached, are given back, or sent, and it holds none
abbrev pub GivesAllBack : {W : Type 0} → (W → FileLog) → JoinedParty W → ℕ → JoinedParty W → Type 0
GivesAllBack log old freed new =
    ((process : ℕ) → IsSettled process (log old.words) false Outside freed [] (log new.words) Outside)
    × (new ≡ record old { words = new.words; notes = replicate (length old.notes) Unheld; cached = [] })

-- the party has the bucket with this note in use
abbrev pub is_used : Note → Bool
is_used InUse = true
is_used Undone = true
is_used note = false

-- how many buckets with these notes the party has in use
abbrev pub used_in : List Note → ℕ
used_in [] = 0
used_in (note ∷ notes) = (if is_used note then 1 else 0) + used_in notes
