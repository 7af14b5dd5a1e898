-- The least place is what its name says, and a mask computes it.
use Rattle.bb_memory_traits.proofs.PowersOfTwo.{power_of_two-clears, power_of_two-divides, power_of_two-positive}
use Rattle.bb_memory_traits.specs.LeastPlace.{IsLeastPlace, least_place}
use Rattle.std.proofs.Common.{ap, arith, bit_and, bit_or, div-add-mod', inl, inr, mul-le-mul_right, pow_pos, sym, ℕ, ◌%◌, ◌*◌, ◌+◌, ◌-◌, ◌/◌, ◌<◌, ◌^◌, ◌∙◌, ◌≡◌, ◌≤◌}
use Rattle.std.proofs.Math.Nat.{add-mod_right, mod-le}
use Rattle.std.proofs.lemmas.Bool.{cases_lt}
use Rattle.std.proofs.lemmas.Nat.{and_mask, le-div, mod-mul-add}
use Rattle.std.specs.Int.{IsPowerOfTwo}
use Rattle.std.specs.Int.Bits.{or_add_and}

-- a multiple is its own least place
least_place-stays : (v align : ℕ) → 0 < align → v % align ≡ 0 → least_place v align ≡ v
unfolding least_place
least_place-stays v align positive none = grind arith

-- any other number goes up by what its rest lacks
least_place-raises : (v align : ℕ) → 0 < align → 0 < v % align → least_place v align ≡ v + (align - v % align)
unfolding least_place
least_place-raises v align positive some = grind arith

-- a number that is a multiple and a small rest has that rest
rest_of : (n k align rest : ℕ) → n ≡ k * align + rest → rest < align → n % align ≡ rest
rest_of n k align rest parts small = ap (λ m. m % align) parts ∙ mod-mul-add k align rest small

-- to go one short of an alignment up and take the rest away gives the least place
pub least_place-rounds : (v align : ℕ) → 0 < align → least_place v align ≡ (v + (align - 1)) - (v + (align - 1)) % align
least_place-rounds v align positive =
    let whole = div-add-mod' v align in
    elim (cases_lt 0 (v % align)) [
      | inl some ↦ let rest = rest_of (v + (align - 1)) (v / align + 1) align (v % align - 1) (omega arith) (omega arith) in
          omega (arith, least_place-raises v align positive some, rest)
      | inr none ↦ let rest = rest_of (v + (align - 1)) (v / align) align (align - 1) (omega arith) (omega arith) in
          omega (arith, least_place-stays v align positive (omega arith), rest)
    ]

-- the least place by its quotient
least_place-quotient : (v align : ℕ) → 0 < align → least_place v align ≡ (v + (align - 1)) / align * align
least_place-quotient v align positive = omega (arith, least_place-rounds v align positive, div-add-mod' (v + (align - 1)) align)

-- a multiple that isn't below a number isn't below the least place
least_place-below : (v align k : ℕ) → 0 < align → v ≤ k * align → least_place v align ≤ k * align
least_place-below v align k positive above = grind (arith, least_place-quotient, div-add-mod')

-- the least place is the least multiple that isn't below the number
pub least_place-is : (v align : ℕ) → 0 < align → IsLeastPlace v align (least_place v align)
least_place-is v align positive = record {
  multiple = ((v + (align - 1)) / align, least_place-quotient v align positive);
  above = omega (arith, least_place-rounds v align positive);
  least = λ k above. least_place-below v align k positive above;
}

-- there is only one least multiple
pub least_place-unique : (v align p : ℕ) → 0 < align → IsLeastPlace v align p → p ≡ least_place v align
least_place-unique v align p positive is = grind (arith, least_place-is)

-- the least place has no rest
pub least_place-multiple : (v align : ℕ) → 0 < align → least_place v align % align ≡ 0
least_place-multiple v align positive = grind (arith, least_place-is, rest_of)

-- a multiple that is less than an alignment above the number isn't above the least place
pub least_place-beyond : (v align k : ℕ) → 0 < align → k * align ≤ v + (align - 1) → k * align ≤ least_place v align
least_place-beyond v align k positive near = grind (arith, le-div, least_place-quotient, mul-le-mul_right)

-- the address before the least place has the low bits of the mask set, and the others of the
-- address before the number
pub least_place-behind : (v align : ℕ) → IsPowerOfTwo align → 0 < v → bit_or (v - 1) (align - 1) + 1 ≡ least_place v align
least_place-behind v align (k, is) some =
    let rounds = least_place-rounds v align (power_of_two-positive align (k, is)) in
    let whole : v + (align - 1) ≡ v - 1 + align = omega (arith, is, pow_pos k) in
    let rest : (v + (align - 1)) % align ≡ (v - 1) % align = ap (λ n. n % align) whole ∙ add-mod_right (v - 1) align in
    let low : bit_and (v - 1) (align - 1) ≡ (v - 1) % align =
    ap (λ n. bit_and (v - 1) (n - 1)) is ∙ and_mask (v - 1) k ∙ ap (λ n. (v - 1) % n) (sym is) in
    omega (arith, rounds, rest, low, or_add_and (v - 1) (align - 1), is, pow_pos k, mod-le (v - 1) align)

-- to round up by a mask, as the machine does
pub least_place-masked : (v align : ℕ) → IsPowerOfTwo align → align < 2 ^ 64 → v + (align - 1) < 2 ^ 64
    → (least_place v align < 2 ^ 64) × (bit_and (v + (align - 1)) (2 ^ 64 - 1 - (align - 1)) ≡ least_place v align)
least_place-masked v align power small fits =
    let rounds = least_place-rounds v align (power_of_two-positive align power) in
    (omega (arith, rounds), power_of_two-clears (v + (align - 1)) align power small fits ∙ sym rounds)

-- if the sum doesn't fit the machine, the least place doesn't either
pub least_place-too_far : (v align : ℕ) → IsPowerOfTwo align → align < 2 ^ 64 →
    2 ^ 64 ≤ v + (align - 1) → 2 ^ 64 ≤ least_place v align
least_place-too_far v align power small far =
    let parts = power_of_two-divides align power small in
    omega (arith, parts.1, least_place-beyond v align parts.0 (power_of_two-positive align power) (omega (arith, parts.1)))
