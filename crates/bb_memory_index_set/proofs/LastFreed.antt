-- A set of numbers without the one that was freed last: the number's bit is set, and the number is
-- free.
use Rattle.bb_memory_index_set.proofs.NumberWords.{length-numbers_of, released}
use Rattle.bb_memory_index_set.proofs.Tallies.{tally-released}
use Rattle.bb_memory_index_set.specs.IndexSets.{AreIndexWords, Has, IsLastFreed, IsTally, Lacks, SetsBit, index_words, less_last_freed, numbers_of}
use Rattle.bb_memory_lists.proofs.SliceGets.{slice_get-set, slice_get-set_other, slice_get-set_same}
use Rattle.std.proofs.Common.{Bool, List, ap, arith, eqb, false, get_or, length, length-set, set, sym, true, ℕ, ◌-◌, ◌/◌, ◌<◌, ◌∙◌, ◌≡◌, ◌≢◌, ◌≤◌}
use Rattle.std.proofs.lemmas.List.{set-get_or, set-set, set_comm, set_past}
use Rattle.std.proofs.lemmas.Option.{slice_get-get_or, slice_get_within}
use Rattle.std.specs.Prelude.{IsTrue, Some, not, ◌↔◌}

-- THE NUMBER THAT IS ASIDE, AND THE OTHERS

-- a set lacks a number that was freed last
pub last_freed_lacks : (numbers : List Bool) (last_freed : ℕ) → Has numbers last_freed →
    Lacks (less_last_freed numbers last_freed) last_freed
last_freed_lacks numbers last_freed has = slice_get-set_same numbers last_freed false true has

-- a number of the set is another than the one that was freed last, and its bit is set
pub others_have : (numbers : List Bool) (last_freed number : ℕ) → Has (less_last_freed numbers last_freed) number →
    (number ≢ last_freed) × Has numbers number
others_have numbers last_freed number has = grind (arith, slice_get-set, last_freed_lacks)

-- a number whose bit is set is in the set, if it wasn't freed last
others_in : (numbers : List Bool) (last_freed number : ℕ) → number ≢ last_freed → Has numbers number →
    Has (less_last_freed numbers last_freed) number
others_in numbers last_freed number apart has = slice_get-set_other numbers last_freed number false apart ∙ has

-- a number whose bit is set is in the set if and only if it wasn't freed last
pub apart_in : (numbers : List Bool) (last_freed number : ℕ) → Has numbers number →
    IsTrue (not (eqb last_freed number)) ↔ Has (less_last_freed numbers last_freed) number
apart_in numbers last_freed number has = grind (arith, others_in, others_have)

-- if no number is freed last, each number whose bit is set is in the set
pub less_none : (bound : ℕ) (words : List ℕ) (last_freed : ℕ) → bound ≤ last_freed →
    less_last_freed (numbers_of bound words) last_freed ≡ numbers_of bound words
less_none bound words last_freed past =
    set_past (numbers_of bound words) last_freed false (omega (arith, length-numbers_of bound words, past))

-- THE SET `held`: THE NUMBERS WHOSE BIT IS SET, LESS THE ONE THAT IS ASIDE

-- `held` has this many numbers
length-held : (bound : ℕ) (words : List ℕ) (held : List Bool) (last_freed : ℕ) →
    less_last_freed (numbers_of bound words) last_freed ≡ held →
    length held ≡ bound
length-held bound words held last_freed is =
    ap (λ (l : List Bool). length l) (sym is) ∙ length-set (numbers_of bound words) last_freed false
    ∙ length-numbers_of bound words

-- there are just the words that the numbers need
pub word_count : (bound : ℕ) (words : List ℕ) (held : List Bool) (last_freed : ℕ) →
    less_last_freed (numbers_of bound words) last_freed ≡ held →
    AreIndexWords bound words → length words ≡ index_words (length held)
word_count bound words held last_freed is are = omega (arith, are.count, length-held bound words held last_freed is)

-- each of the numbers has a word
pub has_bound : (bound : ℕ) (words : List ℕ) (held : List Bool) (last_freed number : ℕ) →
    less_last_freed (numbers_of bound words) last_freed ≡ held → AreIndexWords bound words → number < length held →
    (number < bound) × (number / 64 < length words)
has_bound bound words held last_freed number is are within = grind (arith, length-held)

-- a taking of the number that was freed last: the numbers whose bit is set are the set with this
-- one
pub given : (numbers held : List Bool) (last_freed : ℕ) → less_last_freed numbers last_freed ≡ held → Has numbers last_freed →
    Lacks held last_freed × (numbers ≡ set held last_freed true)
given numbers held last_freed is has =
    let read : Some (get_or numbers last_freed false) ≡ Some true =
    sym (slice_get-get_or numbers last_freed false (slice_get_within numbers last_freed true has)) ∙ has in
    let flag : get_or numbers last_freed false ≡ true = cc in (
      rw (← is) (last_freed_lacks numbers last_freed has),
      sym (set-get_or numbers last_freed false) ∙ ap (set numbers last_freed) flag ∙ sym (set-set numbers last_freed false true)
          ∙ ap (λ (l : List Bool). set l last_freed true) is,
    )

-- a release: another number is the one freed last, and the bit of the number before it is cleared
pub swapped : (numbers held : List Bool) (last_freed number : ℕ) → less_last_freed numbers last_freed ≡ held → Has held number →
    less_last_freed (less_last_freed numbers number) last_freed ≡ less_last_freed held number
swapped numbers held last_freed number is has = grind (arith, set_comm)

-- the words after a number of the set was put back: its bit is cleared, and `last_freed` is
-- unchanged
pub record IsPutBack (bound : ℕ) (words new : List ℕ) (last_freed number : ℕ) : Type 0 where
  pub are : AreIndexWords bound new
  pub still_last_freed : IsLastFreed (numbers_of bound new) last_freed
  pub less : less_last_freed (numbers_of bound new) last_freed ≡ less_last_freed
      (less_last_freed (numbers_of bound words) last_freed) number
  pub tally : (count most : ℕ) → IsTally (numbers_of bound words) count most → IsTally (numbers_of bound new) (count - 1) most

pub put_back : (bound : ℕ) (words new : List ℕ) (last_freed number : ℕ) → AreIndexWords bound words →
    IsLastFreed (numbers_of bound words) last_freed → Has (less_last_freed (numbers_of bound words) last_freed) number →
    SetsBit words number false new → IsPutBack bound words new last_freed number
put_back bound words new last_freed number are is_last_freed has sets =
    let numbers = numbers_of bound words in
    let other = others_have numbers last_freed number has in
    let left = released bound words new number are other.1 sets in
    record {
      are = left.0;
      still_last_freed = λ some. rw left.1
          (others_in numbers number last_freed (λ same. other.0 (sym same)) (is_last_freed some));
      less = ap (λ (l : List Bool). less_last_freed l last_freed) left.1 ∙ set_comm numbers number last_freed false false other.0;
      tally = λ count most is. rw left.1 (tally-released numbers count most number is other.1);
    }
