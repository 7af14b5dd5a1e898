-- A slot has one word, and no other word says the slot.
use Rattle.bb_memory_file.specs.FileFormat.{HasSlotWord, lap_at, slot_in, slot_word}
use Rattle.bb_memory_file.specs.FileLog.{IsLap, NamesBucket, lap_in}
use Rattle.bb_memory_file.specs.FileNames.{Empty, Message, Slot}
use Rattle.std.proofs.Common.{Bool, arith, false, refl, subst, sym, true, ℕ, ◌*◌, ◌+◌, ◌<◌, ◌≡◌}
use Rattle.std.proofs.lemmas.Bool.{eqb-false, eqb-true}
use Rattle.std.specs.Prelude.{if◌then◌else◌, nat_lt, ◌%◌, ◌-◌, ◌/◌, ◌==◌, ◌^◌, ◌≢◌}

no_bucket : (from : Slot) → Message 0 (2 ^ 32 - 1) ≡ from → HasSlotWord from → ⊥
no_bucket from same has = let bucket = (subst HasSlotWord (sym same) has).1 in absurd (omega (arith, bucket))

empty_word : (found : ℕ) → found % 2 ^ 32 ≡ 0 → found ≡ found / 2 ^ 32 * 2 ^ 32
empty_word found empty = omega (arith, empty)

message_word : (found : ℕ) → found % 2 ^ 32 ≢ 0 → found ≡ found / 2 ^ 32 * 2 ^ 32 + (found % 2 ^ 32 - 1) + 1
message_word found full = omega (arith, full)

word_by : (found : ℕ) (from : Slot) (few empty : Bool) → (found % 2 ^ 32 == 0) ≡ empty → HasSlotWord from →
    (if few then (if empty then Empty (lap_at found) else Message (lap_at found) (found % 2 ^ 32 - 1))
    else Message 0 (2 ^ 32 - 1)) ≡ from → found ≡ slot_word from
word_by found from false empty e has same = absurd (no_bucket from same has)
word_by found from true true e has same =
    subst (λ (slot : Slot). found ≡ slot_word slot) same (empty_word found (eqb-true (found % 2 ^ 32) 0 e))
word_by found from true false e has same =
    subst (λ (slot : Slot). found ≡ slot_word slot) same (message_word found (eqb-false (found % 2 ^ 32) 0 e))

-- a word that says the slot is the slot's word
pub word_of_slot : (found : ℕ) (from : Slot) → HasSlotWord from → slot_in found ≡ from → found ≡ slot_word from
word_of_slot found from has same = word_by found from (nat_lt found (2 ^ 62)) (found % 2 ^ 32 == 0) refl has same

-- the slot's word says the slot
pub slot_of_word : (slot : Slot) → HasSlotWord slot → slot_in (slot_word slot) ≡ slot
slot_of_word (Empty lap) has = grind (arith, has)
slot_of_word (Message lap bucket) has = grind (arith, has)

-- a slot of a file with this many buckets has a word
pub has_word : (buckets : ℕ) (slot : Slot) → buckets < 2 ^ 32 - 1 → IsLap (lap_in slot) → NamesBucket buckets slot →
    HasSlotWord slot
has_word buckets (Empty lap) few is names = is
has_word buckets (Message lap bucket) few is names = (is, omega (arith, few, names))
