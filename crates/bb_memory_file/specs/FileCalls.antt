-- What the calls on the words of a file promise.
--
-- Each call takes some steps of the machine. A call that refuses says what it found: the events that
-- its log gets are the operations that it made.
use Rattle.bb_memory_file.specs.FileCode.{EmptySlot, Event, ExchangeFlag, ExchangeSlot, FileLog, Has, HasNot, Holds, IsWalk, Known, LoadEntry, LoadFlag, LoadLife, LoadSlot, MissFlag, MissSlot, Seen, StoreEntry, StoreFlag, StoreLife, Unknown, Unseen, known_of, life_by}
use Rattle.bb_memory_file.specs.FileLog.{IsLap, seen_in}
use Rattle.bb_memory_file.specs.FileNames.{Allocate, AttachNumber, Count, Counting, Deallocate, DetachNumber, DetachedBy, Done, Empty, Entry, FileFlag, FileStep, Fill, Free, HeldBy, In, Leave, Message, Next, Nowhere, Outside, Place, Post, PutBack, Recover, SentTo, Settled, Slot, Take}
pub use Rattle.bb_memory_file.specs.declared.calls.Received.{Received}
pub use Rattle.bb_memory_file.specs.declared.calls.Received.TheVariants as received
pub use Rattle.bb_memory_file.specs.declared.calls.Whereabouts.{Whereabouts}
pub use Rattle.bb_memory_file.specs.declared.calls.Whereabouts.TheVariants as whereabouts
use Rattle.bb_memory_file_machine.specs.FileMachine.{same_flag}
use Rattle.std.specs.Prelude.{Bool, List, None, Option, Some, [], false, if◌then◌else◌, nat_lt, not, suc, true, zero, ℕ, ◌%◌, ◌++◌, ◌+◌, ◌-◌, ◌<◌, ◌==◌, ◌^◌, ◌∷◌, ◌≡◌, ◌≢◌, ◌≤◌, ◌⊎◌}

-- the call takes these steps, the last first; the process is in no call before it and after it
abbrev pub Makes : ℕ → FileLog → List FileStep → FileLog → Type 0
Makes process old taken new = IsWalk process old Outside new taken Outside

-- the log has got these events, the last first
abbrev pub Gets : FileLog → List Event → FileLog → Type 0
Gets old events new = new ≡ record old { events = events ++ old.events }

-- the test holds for one of these events or steps
abbrev pub has_some : {X : Type 0} → (X → Bool) → List X → Bool
has_some test [] = false
has_some test (x ∷ xs) = if test x then true else has_some test xs

-- the event fills a slot, takes a message, or empties a slot
abbrev pub moves_message : Event → Bool
moves_message (ExchangeFlag bucket (SentTo slot lap) to) = true
moves_message (ExchangeSlot slot from to) = true
moves_message (EmptySlot slot next) = true
moves_message event = false

-- the party has done more since, and has moved no message by that
abbrev pub MovesNone : FileLog → FileLog → Type 0
MovesNone old new = (events : List Event) × Gets old events new × (has_some moves_message events ≡ false)

-- BUCKETS

-- The events of a search that has tried this many buckets, from the bucket `first` on, each of them once, and
-- has found that none was free.
abbrev pub misses_from : ℕ → ℕ → List Event
misses_from first zero = []
misses_from first (suc count) = MissFlag (first + count) Free ∷ misses_from first count

-- The events of a search that has come to this bucket, from the bucket `first` on and then from bucket 0 on, and
-- has found that none before it was free.
abbrev pub misses_before : ℕ → ℕ → ℕ → List Event
misses_before buckets first bucket =
    if nat_lt bucket first then misses_from 0 bucket ++ misses_from first (buckets - first)
    else misses_from first (bucket - first)

-- the party knows that it has taken the bucket, which was free, and of each other bucket what it knew
abbrev pub IsGained : FileLog → ℕ → FileLog → Type 0
IsGained old bucket new =
    (known_of new bucket ≡ Holds (Some Nowhere) Unseen)
    × ((other : ℕ) → other ≢ bucket → known_of new other ≡ known_of old other)

-- The call has tried these buckets in order, each of them once. It has taken the first one that was free, and has
-- tried none after that one; or none was free.
abbrev pub SearchSays : FileLog → ℕ → ℕ → Option ℕ → FileLog → Type 0
SearchSays old from to None new =
    Gets old (misses_from from (to - from)) new × ((process : ℕ) → Makes process old [] new)
    × ((other : ℕ) → known_of new other ≡ known_of old other)
SearchSays old from to (Some bucket) new =
    Gets old (ExchangeFlag bucket Free (HeldBy old.party) ∷ misses_from from (bucket - from)) new
    × ((process : ℕ) → Makes process old (Allocate process old.party bucket ∷ []) new)
    × (from ≤ bucket) × (bucket < to) × IsGained old bucket new

-- The call has tried the buckets from `first` on, and then those from 0 on. It has taken the first one that was
-- free, and has tried none after that one; or it has tried each bucket of the file, and none was free.
abbrev pub AllocatesFrom : FileLog → ℕ → Option ℕ → FileLog → Type 0
AllocatesFrom old first None new =
    Gets old (misses_from 0 first ++ misses_from first (old.scene.buckets - first)) new
    × ((process : ℕ) → Makes process old [] new) × ((other : ℕ) → known_of new other ≡ known_of old other)
AllocatesFrom old first (Some bucket) new =
    Gets old (ExchangeFlag bucket Free (HeldBy old.party) ∷ misses_before old.scene.buckets first bucket) new
    × ((process : ℕ) → Makes process old (Allocate process old.party bucket ∷ []) new)
    × (bucket < old.scene.buckets) × IsGained old bucket new

-- A search begins at its hint, or at bucket 0 if the file has no such bucket.
abbrev pub AllocateSays : FileLog → ℕ → Option ℕ → FileLog → Type 0
AllocateSays old hint answer new = AllocatesFrom old (if nat_lt hint old.scene.buckets then hint else 0) answer new

-- the call has tried the bucket at which a search begins, if the file has that bucket, and found that it
-- wasn't free
abbrev pub BeginsSearch : FileLog → ℕ → FileLog → Type 0
BeginsSearch old hint new = Gets old (if nat_lt hint old.scene.buckets then MissFlag hint Free ∷ [] else []) new

-- the call has taken this bucket, or none, has moved no message, and knows of each other bucket what it knew
abbrev pub TakesOne : FileLog → Option ℕ → FileLog → Type 0
TakesOne old None new =
    ((process : ℕ) → Makes process old [] new) × ((other : ℕ) → known_of new other ≡ known_of old other) × MovesNone old new
TakesOne old (Some bucket) new =
    ((process : ℕ) → Makes process old (Allocate process old.party bucket ∷ []) new)
    × (bucket < old.scene.buckets) × IsGained old bucket new × MovesNone old new

-- the call has given back the bucket
abbrev pub IsDeallocate : ℕ → FileLog → ℕ → FileLog → Type 0
IsDeallocate process old bucket new =
    Makes process old (Deallocate process old.party bucket ∷ []) new × Gets old (StoreFlag bucket Free ∷ []) new

-- the call has detached the bucket
abbrev pub IsDetach : ℕ → FileLog → ℕ → FileLog → Type 0
IsDetach process old bucket new =
    Makes process old (DetachNumber process old.party bucket ∷ []) new
    × Gets old (StoreFlag bucket (DetachedBy old.party) ∷ []) new

-- the party `from` has detached the bucket
abbrev pub is_detached : FileFlag → Bool
is_detached (DetachedBy from) = true
is_detached flag = false

-- the call has attached a bucket that somebody has detached, or it found that nobody has
abbrev pub IsAttach : ℕ → FileLog → ℕ → Bool → FileLog → Type 0
IsAttach process old bucket true new =
    (from : ℕ) × Makes process old (AttachNumber process old.party bucket from ∷ []) new
    × Gets old (ExchangeFlag bucket (DetachedBy from) (HeldBy old.party) ∷ LoadFlag bucket (DetachedBy from) ∷ []) new
IsAttach process old bucket false new =
    Makes process old [] new
    × (((flag : FileFlag) × Gets old (LoadFlag bucket flag ∷ []) new × (is_detached flag ≡ false))
    ⊎ ((from : ℕ) × Gets old (MissFlag bucket (DetachedBy from) ∷ LoadFlag bucket (DetachedBy from) ∷ []) new))

-- MESSAGES

-- The call has posted a message of this length, or found that the slot is full. If it found that only
-- after it had begun, it gave up.
abbrev pub IsPost : ℕ → FileLog → ℕ → ℕ → ℕ → Bool → FileLog → Type 0
IsPost process old slot bucket length true new =
    (lap : ℕ) × Makes process old (Next process ∷ Fill process lap ∷ Post process old.party slot bucket length ∷ []) new
    × Gets old (StoreFlag bucket (SentTo slot lap) ∷ ExchangeSlot slot (Empty lap) (Message lap bucket)
    ∷ StoreEntry bucket (In slot length) ∷ LoadSlot slot (Empty lap) ∷ []) new
    × IsLap lap
IsPost process old slot bucket length false new =
    (lap : ℕ) × (((other : ℕ) × Gets old (LoadSlot slot (Message lap other) ∷ []) new × Makes process old [] new)
    ⊎ (Gets old (StoreEntry bucket Nowhere ∷ MissSlot slot (Empty lap) ∷ StoreEntry bucket (In slot length)
    ∷ LoadSlot slot (Empty lap) ∷ []) new
    × Makes process old (Next process ∷ Post process old.party slot bucket length ∷ []) new))

-- The call has posted a message of this length into a slot that was empty at this lap, or found that it no
-- longer was, and gave up.
abbrev pub IsFill : ℕ → FileLog → ℕ → ℕ → ℕ → ℕ → Bool → FileLog → Type 0
IsFill process old slot lap bucket length true new =
    Makes process old (Next process ∷ Fill process lap ∷ Post process old.party slot bucket length ∷ []) new
    × Gets old (StoreFlag bucket (SentTo slot lap) ∷ ExchangeSlot slot (Empty lap) (Message lap bucket)
    ∷ StoreEntry bucket (In slot length) ∷ []) new
IsFill process old slot lap bucket length false new =
    Makes process old (Next process ∷ Post process old.party slot bucket length ∷ []) new
    × Gets old (StoreEntry bucket Nowhere ∷ MissSlot slot (Empty lap) ∷ StoreEntry bucket (In slot length) ∷ []) new

-- the call has emptied the slot, which goes on with the next lap
abbrev pub IsDone : ℕ → FileLog → ℕ → ℕ → ℕ → FileLog → Type 0
IsDone process old slot bucket lap new =
    Makes process old (Next process ∷ Done process old.party slot bucket ((lap + 1) % 2 ^ 30) ∷ []) new
    × Gets old (StoreEntry bucket Nowhere ∷ EmptySlot slot ((lap + 1) % 2 ^ 30) ∷ []) new

-- the length of the message of an entry, in bytes
abbrev pub length_in : Entry → ℕ
length_in Nowhere = 0
length_in (In slot length) = length

-- the entry is that of a message in this slot that fits into so many bytes
abbrev pub is_fit : ℕ → ℕ → Entry → Bool
is_fit slot size Nowhere = false
is_fit slot size (In other length) = if other == slot then not (nat_lt size length) else false

-- what the call did, by its answer: a message that it has taken, and whose entry is wrong, it puts back
abbrev pub IsReceive : ℕ → FileLog → ℕ → ℕ → ℕ → ℕ → Received → FileLog → Type 0
IsReceive process old slot lap bucket size received.NotSent new =
    Makes process old [] new × Gets old (MissFlag bucket (SentTo slot lap) ∷ []) new
IsReceive process old slot lap bucket size received.Wrong new =
    (entry : Entry) × (is_fit slot size entry ≡ false)
    × Makes process old (PutBack process old.party slot bucket ∷ Take process old.party slot bucket lap ∷ []) new
    × Gets old (StoreFlag bucket (SentTo slot lap) ∷ LoadEntry bucket entry
    ∷ ExchangeFlag bucket (SentTo slot lap) (HeldBy old.party) ∷ []) new
IsReceive process old slot lap bucket size (received.Message length) new =
    (length ≤ size) × Makes process old (Take process old.party slot bucket lap ∷ []) new
    × Gets old (LoadEntry bucket (In slot length) ∷ ExchangeFlag bucket (SentTo slot lap) (HeldBy old.party) ∷ []) new

-- how many buckets were given back by the event
abbrev pub frees : Event → ℕ
frees (StoreFlag bucket Free) = 1
frees event = 0

-- how many buckets were given back by these events
abbrev pub freed_in : List Event → ℕ
freed_in [] = 0
freed_in (event ∷ events) = frees event + freed_in events

-- the event is one on the life of the party's number
abbrev pub is_on_life : Event → Bool
is_on_life (LoadLife found) = true
is_on_life (StoreLife to) = true
is_on_life event = false

-- those of these events that are on the life of the party's number
abbrev pub on_life : List Event → List Event
on_life [] = []
on_life (event ∷ events) = if is_on_life event then event ∷ on_life events else on_life events

-- the operations by which a process counts that it has taken the number's lock
abbrev pub locking : ℕ → List Event
locking life = StoreLife (life + 2) ∷ LoadLife life ∷ []

-- the operations by which a process makes this life have the parity, if it can
abbrev pub counting : ℕ → ℕ → List Event
counting parity life =
    if life % 2 == parity then LoadLife life ∷ []
    else (if life == 2 ^ 64 - 1 then LoadLife life ∷ [] else StoreLife (life + 1) ∷ LoadLife life ∷ [])

-- what a party knows, without what it has seen of slots
abbrev pub unseen : Known → Known
unseen Unknown = Unknown
unseen (Holds entry seen) = Holds entry Unseen

-- what a look says of where a bucket is: the party knows this of the bucket from then on
abbrev pub IsAt : ℕ → Whereabouts → FileLog → Type 0
IsAt bucket (whereabouts.In slot lap) new =
    (size : ℕ) × (known_of new bucket ≡ Holds (Some (In slot size)) (Has slot lap)) × IsLap lap
IsAt bucket whereabouts.Entered new =
    (slot : ℕ) × (size : ℕ) × (known_of new bucket ≡ Holds (Some (In slot size)) (HasNot slot))
IsAt bucket whereabouts.Nowhere new = (seen : Seen) × (known_of new bucket ≡ Holds (Some Nowhere) seen)

-- By these looks, and no others, the party found where the bucket is: it has loaded the bucket's entry, and if
-- the entry names a slot, the slot.
abbrev pub IsLookedUp : ℕ → Whereabouts → List Event → Type 0
IsLookedUp bucket (whereabouts.In slot lap) looks =
    (length : ℕ) × (looks ≡ LoadSlot slot (Message lap bucket) ∷ LoadEntry bucket (In slot length) ∷ [])
IsLookedUp bucket whereabouts.Entered looks =
    (slot : ℕ) × (length : ℕ) × (word : Slot) × (looks ≡ LoadSlot slot word ∷ LoadEntry bucket (In slot length) ∷ [])
    × (seen_in bucket slot word ≡ HasNot slot)
IsLookedUp bucket whereabouts.Nowhere looks = looks ≡ LoadEntry bucket Nowhere ∷ []

-- the call only looks, and knows where the bucket is
pub record IsFound (old : FileLog) (bucket : ℕ) (answer : Whereabouts) (new : FileLog) : Type 0 where
  pub events : List Event
  pub gets : Gets old events new
  pub frees : freed_in events ≡ 0
  pub quiet : on_life events ≡ []
  pub looks : (process : ℕ) (here : Place) → IsWalk process old here new [] here
  pub found : IsAt bucket answer new
  pub by : IsLookedUp bucket answer events
  pub others : (other : ℕ) → other ≢ bucket → unseen (known_of new other) ≡ unseen (known_of old other)

-- The call has found where the bucket is, and if a slot has it, has put it back there. Of each other bucket the
-- party knows what it knew.
abbrev pub IsPutBack : ℕ → FileLog → ℕ → Whereabouts → FileLog → Type 0
IsPutBack process old bucket (whereabouts.In slot lap) new =
    Makes process old (PutBack process old.party slot bucket ∷ []) new × (known_of new bucket ≡ Unknown)
    × ((other : ℕ) → other ≢ bucket → unseen (known_of new other) ≡ unseen (known_of old other))
    × ((looks : List Event) × IsLookedUp bucket (whereabouts.In slot lap) looks
    × Gets old (StoreFlag bucket (SentTo slot lap) ∷ looks) new)
IsPutBack process old bucket found new =
    Makes process old [] new × IsAt bucket found new
    × ((other : ℕ) → other ≢ bucket → unseen (known_of new other) ≡ unseen (known_of old other))
    × ((looks : List Event) × IsLookedUp bucket found looks × Gets old looks new)

-- SETTLERS

-- by the event the party found that it hasn't detached the bucket, or it tried to take the bucket back
abbrev pub tries : ℕ → ℕ → Event → Bool
tries party bucket (LoadFlag other found) =
    if other == bucket then not (same_flag found (DetachedBy party)) else false
tries party bucket (ExchangeFlag other from to) = if other == bucket then same_flag from (DetachedBy party) else false
tries party bucket (MissFlag other from) = if other == bucket then same_flag from (DetachedBy party) else false
tries party bucket event = false

abbrev pub is_tried : ℕ → ℕ → List Event → Bool
is_tried party bucket events = has_some (tries party bucket) events

-- the step takes back a detached bucket
abbrev pub recovers : FileStep → Bool
recovers (Recover process) = true
recovers step = false

-- the step is none of those that a settler takes
abbrev pub strays : FileStep → Bool
strays (Count process life) = false
strays (Leave process party) = false
strays (Next process) = false
strays (Recover process) = false
strays step = true

-- what a settler does about detached buckets: it takes back each, or none
abbrev pub IsRecovered : FileLog → Bool → List Event → List FileStep → Type 0
IsRecovered old true events taken =
    (bucket : ℕ) → bucket < old.scene.buckets → is_tried old.party bucket events ≡ true
IsRecovered old false events taken = has_some recovers taken ≡ false

-- The call walks from one place to another, gives back so many buckets, and moves no message. If it is to, it also
-- takes back each bucket that the party has detached.
pub record IsSettled (process : ℕ) (old : FileLog) (detached : Bool) (from : Place) (freed : ℕ) (lives : List Event)
    (new : FileLog) (there : Place) : Type 0 where
  pub events : List Event
  pub gets : Gets old events new
  pub taken : List FileStep
  pub walk : IsWalk process old from new taken there
  pub frees : freed_in events ≡ freed
  pub settles : has_some strays taken ≡ false
  pub moves_none : has_some moves_message events ≡ false
  pub counts : on_life events ≡ lives
  pub recovered : IsRecovered old detached events taken
  pub unknown : (bucket : ℕ) → bucket < old.scene.buckets → known_of new bucket ≡ Unknown

-- the number's life is this one by the log
abbrev pub IsLifeOf : FileLog → ℕ → Type 0
IsLifeOf log life = life_by log.events ≡ Some life

-- the number's life was found to be so great that it can't become greater
abbrev pub IsOver : FileLog → FileLog → Type 0
IsOver old new = (life : ℕ) × Gets old (LoadLife life ∷ []) new × (2 ^ 64 ≤ life + 4)

-- the call has joined as the number, whose life is odd now, or found the life to be over
abbrev pub IsJoin : ℕ → FileLog → Bool → FileLog → Type 0
IsJoin process old true new =
    (freed : ℕ) × (found : ℕ) × (other : ℕ) × (found + 4 < 2 ^ 64)
    × IsSettled process old false (Counting old.party) freed (counting 1 other ++ locking found) new Outside
    × ((life : ℕ) × IsLifeOf new life × (life % 2 ≡ 1))
IsJoin process old false new = IsOver old new

-- the call has settled the number, whose life is even now, or as great as it can be
abbrev pub IsLeave : ℕ → FileLog → ℕ → FileLog → Type 0
IsLeave process old freed new =
    ((found : ℕ) × IsSettled process old false Outside freed (counting 0 found) new (Settled old.party))
    × ((life : ℕ) × IsLifeOf new life × ((life % 2 ≡ 0) ⊎ (life ≡ 2 ^ 64 - 1)))

-- whether the settler is to take back what a number with this life has detached: an odd life says that
-- whoever had the number was killed
abbrev pub is_whose : Bool → Bool → ℕ → Bool
is_whose dead left life = if life % 2 == 1 then dead else left

-- The call has found this life and has settled the number, or found the life to be over.
abbrev pub IsReap : ℕ → FileLog → Bool → Bool → Option ℕ → FileLog → Type 0
IsReap process old dead left (Some freed) new =
    (life : ℕ) × (life + 4 < 2 ^ 64) × ((events : List Event) × Gets old (events ++ LoadLife life ∷ []) new)
    × IsSettled process old (is_whose dead left life) (Counting old.party) freed (locking life) new (Settled old.party)
IsReap process old dead left None new = IsOver old new
