-- Operations on a file's row of words are events on the words of the machine.
use Rattle.bb_memory_file.proofs.FileFlagWords.{flag_of_word, word_of_flag}
use Rattle.bb_memory_file.proofs.FileSlotWords.{slot_of_word, word_of_slot}
use Rattle.bb_memory_file.specs.FileCode.{Finds, left_by}
use Rattle.bb_memory_file.specs.FileFormat.{EntryOf, FlagOf, HasFlagWord, HasSlotWord, IsGeometry, LifeOf, SlotOf, entry_at, entry_in, event_of, flag_at, flag_in, flag_word, lap_at, life_at, part_at, slot_at, slot_in, slot_word}
use Rattle.bb_memory_file.specs.FileLog.{EmptySlot, Event, ExchangeFlag, ExchangeSlot, IsLap, LoadEntry, LoadFlag, LoadLife, LoadSlot, MissFlag, MissSlot, StoreEntry, StoreFlag, StoreLife}
use Rattle.bb_memory_file.specs.FileNames.{Empty, FileFlag, Slot}
use Rattle.bb_memory_file.specs.FileOperations.{IsLook, IsMade, empties_slot, exchanges_flag, exchanges_slot, loads_entry, loads_flag, loads_life, loads_slot, looks_at_entry, looks_at_flag, looks_at_life, looks_at_slot, stores_entry, stores_flag, stores_life}
use Rattle.bb_memory_file.specs.FileRecords.{party_by}
use Rattle.bb_memory_file.specs.FileRows.{IsEvent, Says}
use Rattle.bb_memory_file.specs.Recorded.{Exchange, IsFoundIn, WordEvent, written}
use Rattle.bb_memory_file.specs.declared.geometry.FileGeometry.{FileGeometry}
use Rattle.bb_memory_file_machine.proofs.FileTests.{flag_there}
use Rattle.bb_memory_file_machine.specs.FileLaws.{IsFlag, IsSlot}
use Rattle.bb_memory_file_machine.specs.FileMachine.{FileWords, is_flag, with_entry, with_flag, with_life, with_slot}
use Rattle.bb_memory_lists.proofs.SliceGets.{slice_get-set_apart, slice_get-set_at}
use Rattle.bb_memory_pool_machine.proofs.PoolSteps.{test_same}
use Rattle.std.proofs.Common.{Bool, List, None, Some, ap, arith, false, inl, inr, length, refl, subst, sym, true, ℕ, ◌<◌, ◌∙◌, ◌≡◌, ◌≢◌}
use Rattle.std.proofs.lemmas.Bool.{cases_eq, eqb-true, le-ltb, lt-ltb}
use Rattle.std.proofs.lemmas.Grind.{get_or-set_at}
use Rattle.std.proofs.lemmas.List.{get_or-set_other}
use Rattle.std.specs.Prelude.{slice_get, slice_index, slice_set, ◌==◌}

-- PARTS

module _ (geometry : FileGeometry) (words : ℕ) (is : IsGeometry geometry words) where
  flag_part : (bucket : ℕ) → bucket < geometry.buckets → part_at geometry (flag_at geometry bucket) ≡ FlagOf bucket
  flag_part bucket below =
      let flags = is.flags in
      rw (lt-ltb (flag_at geometry bucket) geometry.first_life (omega (arith, flags, below))) (ap FlagOf (omega arith))

  life_part : (party : ℕ) → party < geometry.parties → part_at geometry (life_at geometry party) ≡ LifeOf party
  life_part party below =
      let lives = is.lives in
      rw (
        le-ltb (life_at geometry party) geometry.first_life (omega arith),
        lt-ltb (life_at geometry party) geometry.first_entry (omega (arith, lives, below)),
      ) (ap LifeOf (omega arith))

  entry_part : (bucket : ℕ) → bucket < geometry.buckets → part_at geometry (entry_at geometry bucket) ≡ EntryOf bucket
  entry_part bucket below =
      let lives = is.lives in
      let entries = is.entries in
      rw (
        le-ltb (entry_at geometry bucket) geometry.first_life (omega (arith, lives)),
        le-ltb (entry_at geometry bucket) geometry.first_entry (omega arith),
        lt-ltb (entry_at geometry bucket) geometry.first_slot (omega (arith, entries, below)),
      ) (ap EntryOf (omega arith))

  slot_part : (slot : ℕ) → part_at geometry (slot_at geometry slot) ≡ SlotOf slot
  slot_part slot =
      let lives = is.lives in
      let entries = is.entries in
      rw (
        le-ltb (slot_at geometry slot) geometry.first_life (omega (arith, lives, entries)),
        le-ltb (slot_at geometry slot) geometry.first_entry (omega (arith, entries)),
        le-ltb (slot_at geometry slot) geometry.first_slot (omega arith),
      ) (ap SlotOf (omega arith))

-- READS OF A WRITTEN ROW

-- the word of an empty slot says an empty slot
empty_said : (lap : ℕ) → IsLap lap → slot_in (slot_word (Empty lap)) ≡ Empty (lap_at (slot_word (Empty lap)))
empty_said lap is = slot_of_word (Empty lap) is ∙ ap Empty (omega arith)

-- another word says what it said
still : {X : Type 0} (said : ℕ → X) (xs : List X) (number : ℕ) (row : List ℕ) (at word to : ℕ) →
    slice_get xs number ≡ Some (said (slice_index row word)) → word ≢ at →
    slice_get xs number ≡ Some (said (slice_index (slice_set row at to) word))
still said xs number row at word to there apart =
    there ∙ ap (λ (w : ℕ). Some (said w)) (sym (get_or-set_other row at word to 0 apart))

-- each word of the same kind says what it said, or what was written
anew : {X : Type 0} (said : ℕ → X) (xs : List X) (at : ℕ → ℕ) (number other : ℕ) (row : List ℕ) (to : ℕ) →
    slice_get xs number ≡ Some (said (slice_index row (at number))) →
    slice_get xs other ≡ Some (said (slice_index row (at other))) → at number < length row →
    (number ≢ other → at other ≢ at number) →
    slice_get (slice_set xs number (said to)) other ≡ Some (said (slice_index (slice_set row (at number) to) (at other)))
anew said xs at number other row to there others inside apart = elim (cases_eq number other) [
  | inl same ↦ slice_get-set_at xs number other (said to) (said (slice_index row (at number))) same there
      ∙ ap (λ (w : ℕ). Some (said w)) (sym (get_or-set_at row (at number) (at other) to 0 (ap at (sym same)) inside))
  | inr differ ↦ slice_get-set_apart xs number other (said to) differ
      ∙ still said xs other row (at number) (at other) to others (apart differ)
]

module _ (geometry : FileGeometry) (row : List ℕ) (words : FileWords) (is : IsGeometry geometry (length row))
    (says : Says geometry row words) where
  -- WRITES

  flag_written : (bucket to : ℕ) → bucket < geometry.buckets →
      Says geometry (slice_set row (flag_at geometry bucket) to) (with_flag words bucket (flag_in to))
  flag_written bucket to below =
      let flags = is.flags in
      let lives = is.lives in
      let entries = is.entries in
      let end = is.row in record {
        flags = λ other less. anew flag_in words.flags (flag_at geometry) bucket other row to (says.flags bucket below)
            (says.flags other less) (omega (arith, flags, lives, entries, end, below)) (λ apart same. apart (omega (arith, same)));
        lives = λ party less. still (λ life. life) words.lives party row (flag_at geometry bucket) (life_at geometry party) to
            (says.lives party less) (λ same. absurd (omega (arith, flags, below, same)));
        entries = λ other less. still (entry_in geometry.slots) words.entries other row (flag_at geometry bucket)
            (entry_at geometry other) to (says.entries other less) (λ same. absurd (omega (arith, flags, lives, below, same)));
        slots = λ slot less. still slot_in words.slots slot row (flag_at geometry bucket) (slot_at geometry slot) to
            (says.slots slot less) (λ same. absurd (omega (arith, flags, lives, entries, below, same)));
      }

  life_written : (party to : ℕ) → party < geometry.parties →
      Says geometry (slice_set row (life_at geometry party) to) (with_life words party to)
  life_written party to below =
      let flags = is.flags in
      let lives = is.lives in
      let entries = is.entries in
      let end = is.row in record {
        flags = λ bucket less. still flag_in words.flags bucket row (life_at geometry party) (flag_at geometry bucket) to
            (says.flags bucket less) (λ same. absurd (omega (arith, flags, less, same)));
        lives = λ other less. anew (λ life. life) words.lives (life_at geometry) party other row to (says.lives party below)
            (says.lives other less) (omega (arith, lives, entries, end, below)) (λ apart same. apart (omega (arith, same)));
        entries = λ bucket less. still (entry_in geometry.slots) words.entries bucket row (life_at geometry party)
            (entry_at geometry bucket) to (says.entries bucket less) (λ same. absurd (omega (arith, lives, below, same)));
        slots = λ slot less. still slot_in words.slots slot row (life_at geometry party) (slot_at geometry slot) to
            (says.slots slot less) (λ same. absurd (omega (arith, lives, entries, below, same)));
      }

  entry_written : (bucket to : ℕ) → bucket < geometry.buckets →
      Says geometry (slice_set row (entry_at geometry bucket) to) (with_entry words bucket (entry_in geometry.slots to))
  entry_written bucket to below =
      let flags = is.flags in
      let lives = is.lives in
      let entries = is.entries in
      let end = is.row in record {
        flags = λ other less. still flag_in words.flags other row (entry_at geometry bucket) (flag_at geometry other) to
            (says.flags other less) (λ same. absurd (omega (arith, flags, lives, less, same)));
        lives = λ party less. still (λ life. life) words.lives party row (entry_at geometry bucket) (life_at geometry party) to
            (says.lives party less) (λ same. absurd (omega (arith, lives, less, same)));
        entries = λ other less. anew (entry_in geometry.slots) words.entries (entry_at geometry) bucket other row to
            (says.entries bucket below) (says.entries other less) (omega (arith, entries, end, below))
            (λ apart same. apart (omega (arith, same)));
        slots = λ slot less. still slot_in words.slots slot row (entry_at geometry bucket) (slot_at geometry slot) to
            (says.slots slot less) (λ same. absurd (omega (arith, entries, below, same)));
      }

  slot_written : (slot to : ℕ) → slot < geometry.slots →
      Says geometry (slice_set row (slot_at geometry slot) to) (with_slot words slot (slot_in to))
  slot_written slot to below =
      let flags = is.flags in
      let lives = is.lives in
      let entries = is.entries in
      let end = is.row in record {
        flags = λ bucket less. still flag_in words.flags bucket row (slot_at geometry slot) (flag_at geometry bucket) to
            (says.flags bucket less) (λ same. absurd (omega (arith, flags, lives, entries, less, same)));
        lives = λ party less. still (λ life. life) words.lives party row (slot_at geometry slot) (life_at geometry party) to
            (says.lives party less) (λ same. absurd (omega (arith, lives, entries, less, same)));
        entries = λ bucket less. still (entry_in geometry.slots) words.entries bucket row (slot_at geometry slot)
            (entry_at geometry bucket) to (says.entries bucket less) (λ same. absurd (omega (arith, entries, less, same)));
        slots = λ other less. anew slot_in words.slots (slot_at geometry) slot other row to (says.slots slot below)
            (says.slots other less) (omega (arith, end, below)) (λ apart same. apart (omega (arith, same)));
      }

  -- EVENTS

  module _ (party : ℕ) where
    is_event : (operation : WordEvent) (event : Event) → event_of geometry operation ≡ event → Finds words party event →
        Says geometry (written row operation) (left_by words party event) → IsEvent geometry party row words operation
    is_event operation event same finds after = record {
      finds = subst (λ (e : Event). Finds words party e) (sym same) finds;
      says = subst (λ (e : Event). Says geometry (written row operation) (left_by words party e)) (sym same) after;
    }

  module _ (party : ℕ) (its : party < geometry.parties) where
    -- no other word says the flag from which the exchange was to be
    missed : (bucket found : ℕ) (from : FileFlag) (same : Bool) → HasFlagWord from → IsFlag words bucket (flag_in found) →
        (found == flag_word from) ≡ false → is_flag words bucket (flag_in (flag_word from)) ≡ same → same ≡ false
    missed bucket found from false has there apart is' = refl
    missed bucket found from true has there apart is' =
        let other = flag_there words bucket (flag_in (flag_word from)) is' in
        let same = sym there ∙ other in
        let said : flag_in found ≡ flag_in (flag_word from) = cc in
        let hit = test_same found (flag_word from) (word_of_flag found from has (said ∙ flag_of_word from has)) in absurd (cc)

    flag_exchanged : (bucket : ℕ) (from : FileFlag) (to found : ℕ) (hit : Bool) → (found == flag_word from) ≡ hit →
        bucket < geometry.buckets → HasFlagWord from → slice_index row (flag_at geometry bucket) ≡ found →
        IsEvent geometry party row words (Exchange (flag_at geometry bucket) (flag_word from) to found)
    flag_exchanged bucket from to found true test below has is' =
        is_event party (Exchange (flag_at geometry bucket) (flag_word from) to found)
        (ExchangeFlag bucket (flag_in (flag_word from)) (flag_in to))
        (rw (flag_part geometry (length row) is bucket below, test) refl)
        (says.flags bucket below ∙ ap (λ (w : ℕ). Some (flag_in w)) (is' ∙ eqb-true found (flag_word from) test))
        (rw test (flag_written bucket to below))
    flag_exchanged bucket from to found false test below has is' =
        is_event party (Exchange (flag_at geometry bucket) (flag_word from) to found) (MissFlag bucket (flag_in (flag_word from)))
        (rw (flag_part geometry (length row) is bucket below, test) refl)
        (missed bucket found from (is_flag words bucket (flag_in (flag_word from))) has
        (says.flags bucket below ∙ ap (λ (w : ℕ). Some (flag_in w)) is') test refl)
        (rw test says)

    -- no other word says the slot from which the exchange was to be
    slot_missed : (slot found : ℕ) (from : Slot) → HasSlotWord from → IsSlot words slot (slot_in found) →
        (found == slot_word from) ≡ false → ¬ IsSlot words slot (slot_in (slot_word from))
    slot_missed slot found from has there apart other =
        let same = sym there ∙ other in
        let said : slot_in found ≡ slot_in (slot_word from) = cc in
        let hit = test_same found (slot_word from) (word_of_slot found from has (said ∙ slot_of_word from has)) in absurd (cc)

    slot_exchanged : (slot : ℕ) (from : Slot) (to found : ℕ) (hit : Bool) → (found == slot_word from) ≡ hit →
        slot < geometry.slots → HasSlotWord from → slice_index row (slot_at geometry slot) ≡ found →
        IsEvent geometry party row words (Exchange (slot_at geometry slot) (slot_word from) to found)
    slot_exchanged slot from to found true test below has is' =
        is_event party (Exchange (slot_at geometry slot) (slot_word from) to found)
        (ExchangeSlot slot (slot_in (slot_word from)) (slot_in to)) (rw (slot_part geometry (length row) is slot, test) refl)
        (says.slots slot below ∙ ap (λ (w : ℕ). Some (slot_in w)) (is' ∙ eqb-true found (slot_word from) test))
        (rw test (slot_written slot to below))
    slot_exchanged slot from to found false test below has is' =
        is_event party (Exchange (slot_at geometry slot) (slot_word from) to found) (MissSlot slot (slot_in (slot_word from)))
        (rw (slot_part geometry (length row) is slot, test) refl)
        (slot_missed slot found from has (says.slots slot below ∙ ap (λ (w : ℕ). Some (slot_in w)) is') test) (rw test says)

    pub events_are : (operation : WordEvent) → IsMade geometry party operation → IsFoundIn row operation →
        IsEvent geometry party row words operation
    events_are operation (loads_flag bucket found below) is' =
        is_event party operation (LoadFlag bucket (flag_in found)) (rw (flag_part geometry (length row) is bucket below) refl)
        (says.flags bucket below ∙ ap (λ (w : ℕ). Some (flag_in w)) is') says
    events_are operation (exchanges_flag bucket from to found below has) is' =
        flag_exchanged bucket from to found (found == flag_word from) refl below has is'
    events_are operation (stores_flag bucket to below) is' =
        is_event party operation (StoreFlag bucket (flag_in to)) (rw (flag_part geometry (length row) is bucket below) refl) tt
        (flag_written bucket to below)
    events_are operation (loads_entry bucket found below) is' =
        is_event party operation (LoadEntry bucket (entry_in geometry.slots found))
        (rw (entry_part geometry (length row) is bucket below) refl)
        (says.entries bucket below ∙ ap (λ (w : ℕ). Some (entry_in geometry.slots w)) is') says
    events_are operation (stores_entry bucket to below) is' =
        is_event party operation (StoreEntry bucket (entry_in geometry.slots to))
        (rw (entry_part geometry (length row) is bucket below) refl) tt (entry_written bucket to below)
    events_are operation (loads_slot slot found below) is' =
        is_event party operation (LoadSlot slot (slot_in found)) (rw (slot_part geometry (length row) is slot) refl)
        (says.slots slot below ∙ ap (λ (w : ℕ). Some (slot_in w)) is') says
    events_are operation (exchanges_slot slot from to found below has) is' =
        slot_exchanged slot from to found (found == slot_word from) refl below has is'
    events_are operation (empties_slot slot lap below its_lap) is' =
        is_event party operation (EmptySlot slot (lap_at (slot_word (Empty lap))))
        (rw (slot_part geometry (length row) is slot) refl) tt
        (subst (λ (word : Slot). Says geometry (slice_set row (slot_at geometry slot) (slot_word (Empty lap)))
        (with_slot words slot word))
        (empty_said lap its_lap) (slot_written slot (slot_word (Empty lap)) below))
    events_are operation (loads_life found) is' =
        is_event party operation (LoadLife found) (rw (life_part geometry (length row) is party its) refl)
        (says.lives party its ∙ ap (λ (w : ℕ). Some w) is') says
    events_are operation (stores_life to) is' =
        is_event party operation (StoreLife to) (rw (life_part geometry (length row) is party its) refl) tt
        (life_written party to its)

  -- LOOKS

  -- a look at a life is by the party whose life it is
  looks_as : (operation : WordEvent) (party : ℕ) → party_by geometry None operation ≡ party →
      IsEvent geometry party row words operation → IsEvent geometry (party_by geometry None operation) row words operation
  looks_as operation party same event = subst (λ (p : ℕ). IsEvent geometry p row words operation) (sym same) event

  pub looks_are : (operation : WordEvent) → IsLook geometry operation → IsFoundIn row operation →
      IsEvent geometry (party_by geometry None operation) row words operation
  looks_are operation (looks_at_flag bucket found below) is' =
      is_event (party_by geometry None operation) operation (LoadFlag bucket (flag_in found))
      (rw (flag_part geometry (length row) is bucket below) refl)
      (says.flags bucket below ∙ ap (λ (w : ℕ). Some (flag_in w)) is') says
  looks_are operation (looks_at_entry bucket found below) is' =
      is_event (party_by geometry None operation) operation (LoadEntry bucket (entry_in geometry.slots found))
      (rw (entry_part geometry (length row) is bucket below) refl)
      (says.entries bucket below ∙ ap (λ (w : ℕ). Some (entry_in geometry.slots w)) is') says
  looks_are operation (looks_at_slot slot found below) is' =
      is_event (party_by geometry None operation) operation (LoadSlot slot (slot_in found))
      (rw (slot_part geometry (length row) is slot) refl)
      (says.slots slot below ∙ ap (λ (w : ℕ). Some (slot_in w)) is') says
  looks_are operation (looks_at_life party found below) is' =
      looks_as operation party (rw (life_part geometry (length row) is party below) refl)
      (is_event party operation (LoadLife found) (rw (life_part geometry (length row) is party below) refl)
      (says.lives party below ∙ ap (λ (w : ℕ). Some w) is') says)
