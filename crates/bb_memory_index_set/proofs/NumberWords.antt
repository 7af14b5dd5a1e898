-- Words of 64 bits as a set of numbers.
use Rattle.bb_memory_index_set.specs.IndexSets.{AreIndexWords, Has, IsFull, Lacks, SetsBit, has_bit, index_words, numbers_of}
use Rattle.std.proofs.Common.{Bool, List, ap, arith, eq-eqb, eqb, ext_get_or, false, get_or, get_or-set_other, get_or-set_same, inl, inr, length, length-set, replicate, set, sym, true, w64, ℕ, ◌%◌, ◌*◌, ◌-◌, ◌/◌, ◌<◌, ◌^◌, ◌∙◌, ◌≡◌, ◌≢◌, ◌≤◌}
use Rattle.std.proofs.lemmas.Bool.{cases_eq, cases_lt, false≢true}
use Rattle.std.proofs.lemmas.Grind.{common_steps}
use Rattle.std.proofs.lemmas.List.{get_or-replicate, length-replicate}
use Rattle.std.proofs.lemmas.List.FromFn.{get_or-map-range_with_len, length-map-range_with_len}
use Rattle.std.proofs.lemmas.Nat.Bits.{bit_at-zero, bit_at_clear_other, bit_at_clear_same, bit_at_mask_below, bit_at_mask_inside, bit_at_ones, ones_shl}
use Rattle.std.proofs.lemmas.Option.{slice_get-get_or, slice_get_within}
use Rattle.std.specs.Int.{bit_at, bit_not}
use Rattle.std.specs.Prelude.{IsTrue, Some, bit_and, slice_get, slice_index, ◌↔◌}

-- a set has a flag for each number below its bound
pub length-numbers_of : (bound : ℕ) (words : List ℕ) → length (numbers_of bound words) ≡ bound
unfolding numbers_of
length-numbers_of bound words = length-map-range_with_len (has_bit words) 0 bound

get_or-numbers_of : (bound : ℕ) (words : List ℕ) (n : ℕ) → n < bound → get_or (numbers_of bound words) n false ≡ has_bit words n
unfolding numbers_of
get_or-numbers_of bound words n below = get_or-map-range_with_len (has_bit words) 0 bound n n false below (omega arith)

-- a number's flag is its bit
slice_get-numbers_of : (bound : ℕ) (words : List ℕ) (n : ℕ) → n < bound →
    slice_get (numbers_of bound words) n ≡ Some (has_bit words n)
slice_get-numbers_of bound words n below =
    slice_get-get_or (numbers_of bound words) n false (omega (arith, length-numbers_of bound words))
    ∙ ap Some (get_or-numbers_of bound words n below)

-- a bit of a word becomes a flag, and its other bits stay
abbrev pub Changes : ℕ → ℕ → ℕ → Bool → Type 0
Changes old new bit flag = (eqb (bit_at new bit) 1 ≡ flag) × ((i : ℕ) → i < 64 → i ≢ bit → bit_at new i ≡ bit_at old i)

clear_bit : (word bit : ℕ) → bit < 64 → Changes word (bit_and word (bit_not w64 (1 * 2 ^ bit % 2 ^ 64))) bit false
clear_bit word bit low =
    (ap (λ x. eqb x 1) (bit_at_clear_same w64 word bit low), λ i within other. bit_at_clear_other w64 word bit low i within other)

-- a number's bit changes with that bit of its word
pub change : (words : List ℕ) (number new : ℕ) (flag : Bool) → number / 64 < length words →
    Changes (get_or words (number / 64) 0) new (number % 64) flag → SetsBit words number flag (set words (number / 64) new)
change words number new flag within changes = grind (arith, common_steps)

-- a number's bit is cleared in its word
pub cleared : (words : List ℕ) (number : ℕ) → number / 64 < length words →
    let word = get_or words (number / 64) 0 in
    SetsBit words number false (set words (number / 64) (bit_and word (bit_not w64 (1 * 2 ^ (number % 64) % 2 ^ 64))))
cleared words number within =
    change words number _ false within (clear_bit (get_or words (number / 64) 0) (number % 64) (omega arith))

-- a word with a cleared bit isn't full
pub cleared_is_open : (word bit : ℕ) → bit < 64 → bit_and word (bit_not w64 (1 * 2 ^ bit % 2 ^ 64)) ≢ 2 ^ 64 - 1
cleared_is_open word bit low full =
    false≢true (sym (clear_bit word bit low).0 ∙ ap (λ x. eqb (bit_at x bit) 1) full ∙ eq-eqb _ 1 (bit_at_ones 64 bit low))

-- A set after a change of one number's bit, below its bound.
module _ (bound : ℕ) (words new : List ℕ) (number : ℕ) (flag : Bool) (below : number < bound)
    (sets : SetsBit words number flag new) where
  pub numbers_of-set : numbers_of bound new ≡ set (numbers_of bound words) number flag
  numbers_of-set =
      let inside : number < length (numbers_of bound words) = omega (arith, length-numbers_of bound words) in
      ext_get_or false _ _
      (length-numbers_of bound new ∙ sym (length-numbers_of bound words) ∙ sym (length-set (numbers_of bound words) number flag))
      (λ n h.
      let n_in : n < bound = omega (arith, h, length-numbers_of bound new) in
      get_or-numbers_of bound new n n_in
      ∙ (elim (cases_eq n number) as (λ _. has_bit new n ≡ get_or (set (numbers_of bound words) number flag) n false) [
        | inl same ↦ rw same (sets.set ∙ sym (get_or-set_same (numbers_of bound words) number flag false inside))
        | inr other ↦
            sets.others n other ∙ sym (get_or-numbers_of bound words n n_in)
            ∙ sym (get_or-set_other (numbers_of bound words) number n flag false other)
      ]))

  -- the changed words are words of the bound again
  pub AreIndexWords-set : AreIndexWords bound words → AreIndexWords bound new
  AreIndexWords-set are = record {
    count = sets.len ∙ are.count;
    past = λ n past h. sets.others n (omega arith) ∙ are.past n past (omega (arith, sets.len));
  }

-- with every word full, every number is in the set
pub full_words : (bound : ℕ) (words : List ℕ) → AreIndexWords bound words →
    ((at : ℕ) → at < length words → slice_index words at ≡ 2 ^ 64 - 1) → IsFull (numbers_of bound words)
full_words bound words are full n below =
    let n_in : n < bound = omega (arith, below, length-numbers_of bound words) in
    let at : n / 64 < length words = omega (arith, are.count) in
    let is : has_bit words n ≡ true =
    ap (λ x. eqb (bit_at x (n % 64)) 1) (full (n / 64) at) ∙ eq-eqb _ 1 (bit_at_ones 64 (n % 64) (omega arith)) in
    slice_get-numbers_of bound words n n_in ∙ ap Some is

-- the bit of a number below the bound says whether it is in the set
pub bit_tells : (bound : ℕ) (words : List ℕ) (number : ℕ) → number < bound →
    IsTrue (has_bit words number) ↔ Has (numbers_of bound words) number
bit_tells bound words number below = grind (arith, slice_get-numbers_of)

-- a number of the set has a word
pub has_word : (bound : ℕ) (words : List ℕ) (number : ℕ) → AreIndexWords bound words → Has (numbers_of bound words) number →
    (number < bound) × (number / 64 < length words)
has_word bound words number are has =
    let within : number < length (numbers_of bound words) = slice_get_within (numbers_of bound words) number true has in
    let below : number < bound = omega (arith, length-numbers_of bound words) in
    (below, omega (arith, are.count))

-- a release: with the number's bit clear, the words are the set without the number
pub released : (bound : ℕ) (words new : List ℕ) (number : ℕ) → AreIndexWords bound words → Has (numbers_of bound words) number →
    SetsBit words number false new →
    AreIndexWords bound new × (numbers_of bound new ≡ set (numbers_of bound words) number false)
released bound words new number are has sets = grind (arith, has_word, numbers_of-set)

-- a number whose bit is clear isn't in the set
pub lacks : (bound : ℕ) (words : List ℕ) (number : ℕ) → AreIndexWords bound words → number / 64 < length words →
    has_bit words number ≡ false → (number < bound) × Lacks (numbers_of bound words) number
lacks bound words number are within clear =
    let below : number < bound = elim (cases_lt number bound) [
      | inl is ↦ is
      | inr past ↦ absurd (false≢true (sym clear ∙ are.past number past (omega (arith, within))))
    ] in (below, slice_get-numbers_of bound words number below ∙ ap Some clear)

-- no bit below the bound is set, and each from the bound on is
record AreFresh (bound : ℕ) (words : List ℕ) : Type 0 where
  count : length words ≡ index_words bound
  clear : (n : ℕ) → n < bound → has_bit words n ≡ false
  past : (n : ℕ) → bound ≤ n → n < 64 * length words → has_bit words n ≡ true

-- none of the words is full
abbrev pub NoneIsFull : List ℕ → Type 0
NoneIsFull words = (at : ℕ) → at < length words → get_or words at 0 ≢ 2 ^ 64 - 1

fresh : (bound : ℕ) (words : List ℕ) → AreFresh bound words →
    AreIndexWords bound words × NoneIsFull words × (numbers_of bound words ≡ replicate bound false)
fresh bound words are = (
  record { count = are.count; past = are.past },
  λ at within full.
      let first : (at * 64) / 64 ≡ at = omega arith in
      let low : (at * 64) % 64 ≡ 0 = omega arith in
      let set : has_bit words (at * 64) ≡ true =
      ap (λ x. eqb (bit_at (get_or words x 0) ((at * 64) % 64)) 1) first
      ∙ ap (λ x. eqb (bit_at (get_or words at 0) x) 1) low
      ∙ ap (λ x. eqb (bit_at x 0) 1) full
      ∙ eq-eqb _ 1 (bit_at_ones 64 0 (omega arith)) in
      false≢true (sym (are.clear (at * 64) (omega (arith, are.count))) ∙ set),
  ext_get_or false _ _ (length-numbers_of bound words ∙ sym (length-replicate bound false))
      (λ n h.
      let n_in : n < bound = omega (arith, h, length-numbers_of bound words) in
      get_or-numbers_of bound words n n_in ∙ are.clear n n_in ∙ sym (get_or-replicate bound n false false n_in)),
)

abbrev pub zeros : ℕ → List ℕ
zeros count = replicate count 0

has_bit-zeros : (count n : ℕ) → n / 64 < count → has_bit (zeros count) n ≡ false
has_bit-zeros count n within =
    ap (λ x. eqb (bit_at x (n % 64)) 1) (get_or-replicate count (n / 64) 0 0 within) ∙ ap (λ x. eqb x 1) (bit_at-zero (n % 64))

-- words of zeros are the empty set if the bound is a multiple of 64
pub fresh_whole : (bound count : ℕ) → count ≡ index_words bound → bound % 64 ≡ 0 →
    AreIndexWords bound (zeros count) × NoneIsFull (zeros count) × (numbers_of bound (zeros count) ≡ replicate bound false)
fresh_whole bound count is whole =
    let len : length (zeros count) ≡ count = length-replicate count 0 in
    fresh bound (zeros count)
    (record {
      count = len ∙ is;
      clear = λ n below. has_bit-zeros count n (omega arith);
      past = λ n past within. absurd (omega arith);
    })

-- the last word: its bits from the bound on are set
abbrev pub last_word : ℕ → ℕ
last_word bound = (2 ^ 64 - 1) * 2 ^ (bound % 64) % 2 ^ 64

-- if the bound isn't a multiple of 64, words of zeros with that last word are the empty set
pub fresh_part : (bound count : ℕ) → count ≡ index_words bound → bound % 64 ≢ 0 →
    let words = set (zeros count) (count - 1) (last_word bound) in
    AreIndexWords bound words × NoneIsFull words × (numbers_of bound words ≡ replicate bound false)
fresh_part bound count is part =
    let used = bound % 64 in
    let small : used ≤ 64 = omega arith in
    let mask : ℕ = last_word bound in
    let mask_is : mask ≡ 2 ^ 64 - 2 ^ used = ones_shl 64 used small in
    let last : ℕ = count - 1 in
    let words = set (zeros count) last mask in
    let len0 : length (zeros count) ≡ count = length-replicate count 0 in
    let len : length words ≡ length (zeros count) = length-set (zeros count) last mask in
    let inside : last < length (zeros count) = omega arith in
    let in_last : (n : ℕ) → n / 64 ≡ last → has_bit words n ≡ eqb (bit_at mask (n % 64)) 1 = λ n row.
    ap (λ x. eqb (bit_at (get_or words x 0) (n % 64)) 1) row
    ∙ ap (λ x. eqb (bit_at x (n % 64)) 1) (get_or-set_same (zeros count) last mask 0 inside) in
    fresh bound words
    (record {
      count = len ∙ len0 ∙ is;
      clear = λ n below. elim (cases_eq (n / 64) last) [
        | inl row ↦
            in_last n row
            ∙ ap (λ x. eqb (bit_at x (n % 64)) 1) mask_is
            ∙ ap (λ x. eqb x 1) (bit_at_mask_below used 64 (n % 64) (omega arith))
        | inr other ↦
            ap (λ x. eqb (bit_at x (n % 64)) 1) (get_or-set_other (zeros count) last (n / 64) mask 0 other)
            ∙ has_bit-zeros count n (omega arith)
      ];
      past = λ n past within.
          let row : n / 64 ≡ last = omega arith in
          in_last n row
          ∙ ap (λ x. eqb (bit_at x (n % 64)) 1) mask_is
          ∙ eq-eqb _ 1 (bit_at_mask_inside used 64 (n % 64) (omega arith) (omega arith));
    })
