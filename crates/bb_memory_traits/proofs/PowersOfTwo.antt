-- Powers of two, and the masks that they make.
use Rattle.std.proofs.Common.{IsTrue, ap, arith, bit_and, count_ones, eq-eqb, eqb-true, inl, inr, pow-add, pow-suc, pow_mono, pow_pos, subst, suc, sym, zero, ℕ, ◌%◌, ◌*◌, ◌+◌, ◌-◌, ◌/◌, ◌<◌, ◌^◌, ◌∙◌, ◌≡◌, ◌≤◌}
use Rattle.std.proofs.lemmas.Bool.{cases_lt}
use Rattle.std.proofs.lemmas.Nat.{and-not, and_comm, and_mask, ones-le, zero_from_ones}
use Rattle.std.specs.Int.{IsPowerOfTwo, is_power_of_two}
use Rattle.std.specs.Int.Count.{ones_step}

-- a number with one bit set is a power of two, by halves: an odd one is 1
one_bit : (limit n : ℕ) → n ≤ limit → count_ones n ≡ 1 → IsPowerOfTwo n
one_bit zero n small one = absurd (omega (arith, ones-le 0 n (omega arith)))
one_bit (suc limit) n small one =
    let step = ones_step n in
    elim (cases_lt 0 (n % 2)) [
      | inl odd ↦ let none : n / 2 ≡ 0 = zero_from_ones (n / 2) (omega arith) in (0, omega arith)
      | inr even ↦ let half = one_bit limit (n / 2) (omega arith) (omega arith) in
          (suc half.0, omega (arith, pow-suc 2 half.0, half.1))
    ]

-- a number that passes the test is a power of two
pub power_of_two-from_test : (n : ℕ) → IsTrue (is_power_of_two n) → IsPowerOfTwo n
power_of_two-from_test n test = one_bit n n (omega arith) (eqb-true (count_ones n) 1 test)

-- a power of two has one bit set
one_bit_of_power : (k : ℕ) → count_ones (2 ^ k) ≡ 1
one_bit_of_power zero = omega (arith, ones_step 1, ones-le 0 0 (omega arith))
one_bit_of_power (suc k) =
    let double : 2 ^ suc k ≡ 2 ^ k * 2 = pow-suc 2 k in
    let half : 2 ^ suc k / 2 ≡ 2 ^ k = omega arith in
    omega (arith, ones_step (2 ^ suc k), ap count_ones half, one_bit_of_power k)

-- a power of two passes the test
pub power_of_two-test : (n : ℕ) → IsPowerOfTwo n → IsTrue (is_power_of_two n)
power_of_two-test n power = eq-eqb (count_ones n) 1 (ap count_ones power.1 ∙ one_bit_of_power power.0)

-- a power of two isn't 0
pub power_of_two-positive : (n : ℕ) → IsPowerOfTwo n → 0 < n
power_of_two-positive n power = omega (arith, power.1, pow_pos power.0)

-- a power of two below 2 ^ 64 divides 2 ^ 64
pub power_of_two-divides : (n : ℕ) → IsPowerOfTwo n → n < 2 ^ 64 → (k : ℕ) × (2 ^ 64 ≡ k * n)
power_of_two-divides n power small = elim (cases_lt power.0 64) [
  | inl low ↦
      let parts : 64 ≡ (64 - power.0) + power.0 = omega arith in
      let back = ap (λ (m : ℕ). 2 ^ (64 - power.0) * m) (sym power.1) in
      (2 ^ (64 - power.0), ap (λ j. 2 ^ j) parts ∙ pow-add 2 (64 - power.0) power.0 ∙ back)
  | inr high ↦ absurd (omega (arith, power.1, pow_mono high))
]

-- to clear the bits below a power of two takes the rest away
pub power_of_two-clears : (n align : ℕ) → IsPowerOfTwo align → align < 2 ^ 64 → n < 2 ^ 64 →
    bit_and n (2 ^ 64 - 1 - (align - 1)) ≡ n - n % align
power_of_two-clears n align power small fits =
    let rest : bit_and n (align - 1) ≡ n % align =
    subst (λ (m : ℕ). bit_and n (m - 1) ≡ n % m) (sym power.1) (and_mask n power.0) in
    let swapped = and_comm n (2 ^ 64 - 1 - (align - 1)) in
    omega (arith, rest, and-not 64 (align - 1) n (omega arith) fits, and_comm (align - 1) n, swapped)
