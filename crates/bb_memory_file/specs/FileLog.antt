-- What one party has done to the words of a file, by single atomic operations, and what it knows of
-- the words by that.
use Rattle.bb_memory_file.specs.FileNames.{DetachedBy, Empty, Entry, FileFlag, Free, HeldBy, In, Message, Nowhere, SentTo, Slot}
pub use Rattle.bb_memory_file.specs.declared.words.Event.{Event}
pub use Rattle.bb_memory_file.specs.declared.words.Event.TheVariants.{EmptySlot, ExchangeFlag, ExchangeSlot, LoadEntry, LoadFlag, LoadLife, LoadSlot, MissFlag, MissSlot, StoreEntry, StoreFlag, StoreLife}
use Rattle.bb_memory_file_machine.specs.FileMachine.{FileScene, same_flag}
use Rattle.std.specs.Prelude.{Bool, List, None, Option, Some, [], false, if◌then◌else◌, true, ℕ, ◌<◌, ◌==◌, ◌^◌, ◌∷◌, ◌≡◌}

-- The figures of the file, the party's number, and the operations of the party since its process has
-- taken the number's lock, the last first.
pub record FileLog : Type 0 where
  pub scene : FileScene
  pub party : ℕ
  pub events : List Event

-- the log with one more event
abbrev pub told : FileLog → Event → FileLog
told log event = record log { events = event ∷ log.events }

-- the log of a party whose process has just taken the number's lock
abbrev pub fresh_log : FileScene → ℕ → FileLog
fresh_log scene party = record { scene = scene; party = party; events = [] }

-- WHAT A PARTY KNOWS OF A BUCKET

-- what a party has last seen of a bucket in a slot: that the slot has the bucket at this lap, or that
-- it hasn't the bucket
pub data Seen : Type 0 where
  Unseen : Seen
  Has : (slot lap : ℕ) → Seen
  HasNot : (slot : ℕ) → Seen

-- what a party knows of a bucket: nothing, or that it holds the bucket, whose entry it may know, too
pub data Known : Type 0 where
  Unknown : Known
  Holds : Option Entry → Seen → Known

-- what a party knows of a bucket that it has taken by an exchange of this flag: the entry of a bucket
-- that is free or detached by its number says that the bucket is in no slot
abbrev pub taken_from : FileFlag → Known
taken_from Free = Holds (Some Nowhere) Unseen
taken_from (DetachedBy party) = Holds (Some Nowhere) Unseen
taken_from (SentTo slot lap) = Holds None (Has slot lap)
taken_from (HeldBy party) = Holds None Unseen

-- what it knows once it has seen that it holds the bucket
abbrev pub held_still : Known → Known
held_still Unknown = Holds None Unseen
held_still known = known

-- what it knows once the entry of the bucket is this one
abbrev pub with_entry : Known → Entry → Known
with_entry Unknown entry = Unknown
with_entry (Holds old seen) entry = Holds (Some entry) seen

-- what a slot with this word says of the bucket
abbrev pub seen_in : ℕ → ℕ → Slot → Seen
seen_in bucket slot (Empty lap) = HasNot slot
seen_in bucket slot (Message lap other) = if other == bucket then Has slot lap else HasNot slot

-- what it knows once a slot says this of the bucket
abbrev pub with_seen : Known → Seen → Known
with_seen Unknown seen = Unknown
with_seen (Holds entry old) seen = Holds entry seen

-- what the party knows of the bucket after one more event
abbrev pub learns : ℕ → ℕ → Known → Event → Known
learns party bucket known (LoadFlag other found) =
    if other == bucket then (if same_flag found (HeldBy party) then held_still known else Unknown) else known
learns party bucket known (ExchangeFlag other from to) =
    if other == bucket then (if same_flag to (HeldBy party) then taken_from from else Unknown) else known
learns party bucket known (MissFlag other from) = known
learns party bucket known (StoreFlag other to) = if other == bucket then Unknown else known
learns party bucket known (LoadEntry other found) = if other == bucket then with_entry known found else known
learns party bucket known (StoreEntry other to) = if other == bucket then with_entry known to else known
learns party bucket known (LoadSlot slot found) = with_seen known (seen_in bucket slot found)
learns party bucket known (ExchangeSlot slot from to) = with_seen known (seen_in bucket slot to)
learns party bucket known (MissSlot slot from) = known
learns party bucket known (EmptySlot slot next) = with_seen known (HasNot slot)
learns party bucket known (LoadLife found) = known
learns party bucket known (StoreLife to) = known

-- what the party knows of the bucket by its events
abbrev pub known_by : ℕ → ℕ → List Event → Known
known_by party bucket [] = Unknown
known_by party bucket (event ∷ events) = learns party bucket (known_by party bucket events) event

abbrev pub known_of : FileLog → ℕ → Known
known_of log bucket = known_by log.party bucket log.events

-- the party holds the bucket
abbrev pub is_held : Known → Bool
is_held Unknown = false
is_held (Holds entry seen) = true

-- the party holds the bucket, whose entry says that it is in no slot
abbrev pub is_clear : Known → Bool
is_clear (Holds (Some Nowhere) seen) = true
is_clear known = false

-- the party holds the bucket, which this slot has at this lap
abbrev pub IsKnownIn : FileLog → ℕ → ℕ → ℕ → Type 0
IsKnownIn log bucket slot lap = (entry : Option Entry) × (known_of log bucket ≡ Holds entry (Has slot lap))

-- THE PARTY'S LIFE

-- the life that the party's number has by its last load or store of it
abbrev pub life_by : List Event → Option ℕ
life_by [] = None
life_by (LoadLife found ∷ events) = Some found
life_by (StoreLife to ∷ events) = Some to
life_by (event ∷ events) = life_by events

-- LAPS

-- a lap that a flag can say: the others come round
abbrev pub IsLap : ℕ → Type 0
IsLap lap = lap < 2 ^ 30

-- the lap of a slot
abbrev pub lap_in : Slot → ℕ
lap_in (Empty lap) = lap
lap_in (Message lap bucket) = lap

-- the entry names one of so many slots, or none
abbrev pub NamesSlot : ℕ → Entry → Type 0
NamesSlot slots Nowhere = Unit {0}
NamesSlot slots (In slot length) = slot < slots

-- a flag can say this: if it says where a bucket is sent, the lap is one of these
abbrev pub IsSaid : FileFlag → Type 0
IsSaid (SentTo slot lap) = IsLap lap
IsSaid flag = Unit {0}

-- the slot has one of this many buckets, or is empty
abbrev pub NamesBucket : ℕ → Slot → Type 0
NamesBucket buckets (Empty lap) = Unit {0}
NamesBucket buckets (Message lap bucket) = bucket < buckets
