-- The lowest clear bit of a word, the word with that bit set, and a set of numbers with that bit's
-- number.
use Rattle.bb_memory_index_set.proofs.NumberWords.{AreIndexWords-set, Changes, change, lacks, numbers_of-set}
use Rattle.bb_memory_index_set.specs.IndexSets.{AreIndexWords, Lacks, SetsBit, has_bit, numbers_of}
use Rattle.std.proofs.Common.{List, ap, arith, eqb, false, get_or, length, set, suc, sym, true, w64, zero, ℕ, ◌%◌, ◌*◌, ◌+◌, ◌/◌, ◌<◌, ◌^◌, ◌∙◌, ◌≡◌}
use Rattle.std.proofs.lemmas.Nat.Bits.{bit_at-suc, bit_at-trailing_ones, bit_at_lowest, bit_at_or}
use Rattle.std.specs.Int.{bit_at, trailing_ones}
use Rattle.std.specs.Prelude.{bit_or}

-- half of an odd number, and of the next
half_odd : (n : ℕ) → n % 2 ≡ 1 → (n + 1) / 2 ≡ n / 2 + 1
half_odd n odd = omega (arith, odd)

-- in the next number the lowest clear bit is set
next_same : (bit n : ℕ) → bit_at n bit ≡ 0 → ((i : ℕ) → i < bit → bit_at n i ≡ 1) → bit_at (n + 1) bit ≡ 1
next_same zero n clear ones = grind arith
next_same (suc bit) n clear ones =
    let odd : n % 2 ≡ 1 = sym (bit_at_lowest n) ∙ ones 0 (omega arith) in
    bit_at-suc (n + 1) bit ∙ ap (λ m. bit_at m bit) (half_odd n odd)
    ∙ next_same bit (n / 2) (sym (bit_at-suc n bit) ∙ clear) (λ i h. sym (bit_at-suc n i) ∙ ones (suc i) (omega (arith, h)))

-- the bits above the lowest clear bit stay
next_above : (bit n i : ℕ) → bit_at n bit ≡ 0 → ((i : ℕ) → i < bit → bit_at n i ≡ 1) → bit < i → bit_at (n + 1) i ≡ bit_at n i
next_above bit n zero clear ones above = absurd (omega (arith, above))
next_above zero n (suc i) clear ones above = grind (arith, bit_at-suc)
next_above (suc bit) n (suc i) clear ones above =
    let odd : n % 2 ≡ 1 = sym (bit_at_lowest n) ∙ ones 0 (omega arith) in
    bit_at-suc (n + 1) i ∙ ap (λ m. bit_at m i) (half_odd n odd)
    ∙ next_above bit (n / 2) i (sym (bit_at-suc n bit) ∙ clear) (λ j h. sym (bit_at-suc n j) ∙ ones (suc j) (omega (arith, h)))
    (omega (arith, above))
    ∙ sym (bit_at-suc n i)

-- a number or the next has the lowest clear bit more, and no other
next_or : (word bit : ℕ) → bit_at word bit ≡ 0 → ((i : ℕ) → i < bit → bit_at word i ≡ 1) →
    Changes word (bit_or word (word + 1)) bit true
next_or word bit clear ones = grind (arith, next_same, bit_at_or, next_above)

-- the number of the lowest clear bit of a word, and the words with that bit set
pub lowest_set : (words : List ℕ) (at word : ℕ) → at < length words → word ≡ get_or words at 0 → word + 1 < 2 ^ 64 →
    (trailing_ones w64 word < 64) × (has_bit words (at * 64 + trailing_ones w64 word) ≡ false)
    × SetsBit words (at * 64 + trailing_ones w64 word) true (set words at (bit_or word (word + 1)))
lowest_set words at word within read not_full =
    let bit = trailing_ones w64 word in
    let lowest = bit_at-trailing_ones w64 word not_full in
    let low : bit < 64 = lowest.0 in
    let e : (at * 64 + bit) / 64 ≡ at = omega arith in
    let f : (at * 64 + bit) % 64 ≡ bit = omega arith in
    let clear : has_bit words (at * 64 + bit) ≡ false =
    ap (λ x. eqb (bit_at (get_or words x 0) ((at * 64 + bit) % 64)) 1) e
    ∙ ap (λ x. eqb (bit_at (get_or words at 0) x) 1) f
    ∙ ap (λ x. eqb (bit_at x bit) 1) (sym read)
    ∙ ap (λ x. eqb x 1) lowest.1 in
    let changes : Changes (get_or words ((at * 64 + bit) / 64) 0) (bit_or word (word + 1)) ((at * 64 + bit) % 64) true =
    rw (e, f, ← read) (next_or word bit lowest.1 lowest.2) in
    let sets : SetsBit words (at * 64 + bit) true (set words at (bit_or word (word + 1))) =
    rw e at (change words (at * 64 + bit) (bit_or word (word + 1)) true (rw e within) changes) in
    (low, clear, sets)

-- A taking: the number of that bit wasn't in the set. With the bit set, the words are the set with
-- the number.
pub taken : (bound : ℕ) (words : List ℕ) (at word : ℕ) → AreIndexWords bound words → at < length words →
    word ≡ get_or words at 0 → word + 1 < 2 ^ 64 →
    let number = at * 64 + trailing_ones w64 word in
    let new = set words at (bit_or word (word + 1)) in
    Lacks (numbers_of bound words) number × AreIndexWords bound new
    × (numbers_of bound new ≡ set (numbers_of bound words) number true)
taken bound words at word are within read not_full =
    let (low, clear, sets) = lowest_set words at word within read not_full in
    let number : ℕ = at * 64 + trailing_ones w64 word in
    let (below, free) = lacks bound words number are (omega (arith, low, within)) clear in (
      free,
      AreIndexWords-set bound words _ number true below sets are,
      numbers_of-set bound words _ number true below sets,
    )
