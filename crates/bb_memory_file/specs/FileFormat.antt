-- The words of a file: where each of them is in one row of words, and what it says.
use Rattle.bb_memory_file.specs.FileLog.{EmptySlot, Event, ExchangeFlag, ExchangeSlot, IsLap, LoadEntry, LoadFlag, LoadLife, LoadSlot, MissFlag, MissSlot, StoreEntry, StoreFlag, StoreLife}
use Rattle.bb_memory_file.specs.FileNames.{DetachedBy, Empty, Entry, FileFlag, Free, HeldBy, In, Message, Nowhere, SentTo, Slot}
use Rattle.bb_memory_file.specs.Recorded.{Exchange, Load, Store, WordEvent, word_of}
use Rattle.bb_memory_file.specs.declared.geometry.FileGeometry.{FileGeometry}
use Rattle.std.specs.Prelude.{if◌then◌else◌, nat_lt, ℕ, ◌%◌, ◌*◌, ◌+◌, ◌-◌, ◌/◌, ◌<◌, ◌==◌, ◌^◌, ◌≡◌, ◌≤◌}

-- PLACES

-- A row of this many words has room for the words of each bucket, party and slot, in this order and
-- apart: the flags, the lives, the entries and the slots. There are 16 words before all of them.
pub record IsGeometry (geometry : FileGeometry) (words : ℕ) : Type 0 where
  pub buckets : geometry.buckets < 2 ^ 32 - 1
  pub slots : geometry.slots < 2 ^ 32 - 1
  pub parties : geometry.parties < 2 ^ 32
  pub before : geometry.first_flag ≡ 16
  pub flags : geometry.first_flag + geometry.buckets ≤ geometry.first_life
  pub lives : geometry.first_life + geometry.parties ≤ geometry.first_entry
  pub entries : geometry.first_entry + geometry.buckets ≤ geometry.first_slot
  pub row : geometry.first_slot + 16 * geometry.slots ≤ words
  pub numbered : words < 2 ^ 64

-- the number of words that this many words take, if the next part begins at a multiple of 16 words
abbrev pub part_of : ℕ → ℕ
part_of words = (words + 15) / 16 * 16

-- the geometry of a file with this many buckets, slots and parties, in which each part begins at a
-- multiple of 16 words
abbrev pub geometry_of : ℕ → ℕ → ℕ → FileGeometry
geometry_of buckets slots parties = record {
  buckets = buckets;
  slots = slots;
  parties = parties;
  first_flag = 16;
  first_life = 16 + part_of buckets;
  first_entry = 16 + part_of buckets + part_of parties;
  first_slot = 16 + part_of buckets + part_of parties + part_of buckets;
}

-- how many words the row of a file has
abbrev pub words_of : FileGeometry → ℕ
words_of geometry = geometry.first_slot + 16 * geometry.slots

-- the number of the word of a bucket's flag
abbrev pub flag_at : FileGeometry → ℕ → ℕ
flag_at geometry bucket = geometry.first_flag + bucket

-- the number of the word of a party's life
abbrev pub life_at : FileGeometry → ℕ → ℕ
life_at geometry party = geometry.first_life + party

-- the number of the word of a bucket's entry
abbrev pub entry_at : FileGeometry → ℕ → ℕ
entry_at geometry bucket = geometry.first_entry + bucket

-- the number of a slot's word
abbrev pub slot_at : FileGeometry → ℕ → ℕ
slot_at geometry slot = geometry.first_slot + 16 * slot

-- the part of the file that a word is
pub data Part : Type 0 where
  FlagOf : (bucket : ℕ) → Part
  LifeOf : (party : ℕ) → Part
  EntryOf : (bucket : ℕ) → Part
  SlotOf : (slot : ℕ) → Part

-- the part that the word of this number is
abbrev pub part_at : FileGeometry → ℕ → Part
part_at geometry word =
    if nat_lt word geometry.first_life then FlagOf (word - geometry.first_flag)
    else (if nat_lt word geometry.first_entry then LifeOf (word - geometry.first_life)
    else (if nat_lt word geometry.first_slot then EntryOf (word - geometry.first_entry)
    else SlotOf ((word - geometry.first_slot) / 16)))

-- FLAGS

-- the word of a flag
abbrev pub flag_word : FileFlag → ℕ
flag_word Free = 0
flag_word (HeldBy party) = 4 * party + 1
flag_word (DetachedBy party) = 4 * party + 2
flag_word (SentTo slot lap) = lap * 2 ^ 34 + 4 * slot + 3

-- the flag has a word
abbrev pub HasFlagWord : FileFlag → Type 0
HasFlagWord Free = Unit {0}
HasFlagWord (HeldBy party) = party < 2 ^ 32
HasFlagWord (DetachedBy party) = party < 2 ^ 32
HasFlagWord (SentTo slot lap) = (slot < 2 ^ 32) × IsLap lap

-- the flag of a number of this kind, by which a word that is no flag's says that a bucket is sent at a
-- lap that is none
abbrev pub flag_of : ℕ → ℕ → FileFlag
flag_of kind number =
    if kind == 3 then SentTo (number % 2 ^ 32) (number / 2 ^ 32)
    else (if nat_lt number (2 ^ 32)
    then (if kind == 1 then HeldBy number else (if kind == 2 then DetachedBy number else SentTo 0 (2 ^ 30)))
    else SentTo 0 (2 ^ 30))

-- the flag that a word says
abbrev pub flag_in : ℕ → FileFlag
flag_in word = if word == 0 then Free else flag_of (word % 4) (word / 4)

-- ENTRIES

-- the word of an entry
abbrev pub entry_word : Entry → ℕ
entry_word Nowhere = 0
entry_word (In slot length) = length * 2 ^ 32 + slot + 1

-- the entry that a word of a file with this many slots says
abbrev pub entry_in : ℕ → ℕ → Entry
entry_in slots word =
    if word % 2 ^ 32 == 0 then Nowhere
    else (if nat_lt (word % 2 ^ 32 - 1) slots then In (word % 2 ^ 32 - 1) (word / 2 ^ 32) else Nowhere)

-- SLOTS

-- the word of a slot
abbrev pub slot_word : Slot → ℕ
slot_word (Empty lap) = lap * 2 ^ 32
slot_word (Message lap bucket) = lap * 2 ^ 32 + bucket + 1

-- the slot has a word
abbrev pub HasSlotWord : Slot → Type 0
HasSlotWord (Empty lap) = IsLap lap
HasSlotWord (Message lap bucket) = IsLap lap × (bucket < 2 ^ 32 - 1)

-- the lap that a slot's word says
abbrev pub lap_at : ℕ → ℕ
lap_at word = word / 2 ^ 32

-- the slot's word that a word says: a word that is no slot's says that the slot has a bucket that no file
-- has
abbrev pub slot_in : ℕ → Slot
slot_in word =
    if nat_lt word (2 ^ 62)
    then (if word % 2 ^ 32 == 0 then Empty (lap_at word) else Message (lap_at word) (word % 2 ^ 32 - 1))
    else Message 0 (2 ^ 32 - 1)

-- EVENTS

-- the event that an operation on the word of this part is, in a file with this many slots. No party
-- exchanges a life or an entry.
abbrev pub event_on : ℕ → Part → WordEvent → Event
event_on slots (FlagOf bucket) (Load word found) = LoadFlag bucket (flag_in found)
event_on slots (FlagOf bucket) (Exchange word from to found) =
    if found == from then ExchangeFlag bucket (flag_in from) (flag_in to) else MissFlag bucket (flag_in from)
event_on slots (FlagOf bucket) (Store word to) = StoreFlag bucket (flag_in to)
event_on slots (LifeOf party) (Load word found) = LoadLife found
event_on slots (LifeOf party) (Exchange word from to found) = LoadLife found
event_on slots (LifeOf party) (Store word to) = StoreLife to
event_on slots (EntryOf bucket) (Load word found) = LoadEntry bucket (entry_in slots found)
event_on slots (EntryOf bucket) (Exchange word from to found) = LoadEntry bucket (entry_in slots found)
event_on slots (EntryOf bucket) (Store word to) = StoreEntry bucket (entry_in slots to)
event_on slots (SlotOf slot) (Load word found) = LoadSlot slot (slot_in found)
event_on slots (SlotOf slot) (Exchange word from to found) =
    if found == from then ExchangeSlot slot (slot_in from) (slot_in to) else MissSlot slot (slot_in from)
event_on slots (SlotOf slot) (Store word to) = EmptySlot slot (lap_at to)

-- the event that an operation on a word of the file is
abbrev pub event_of : FileGeometry → WordEvent → Event
event_of geometry operation = event_on geometry.slots (part_at geometry (word_of operation)) operation
