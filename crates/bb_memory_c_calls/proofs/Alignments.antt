-- Alignments, and the test for one that counts no bits.
use Rattle.bb_memory_traits.proofs.PowersOfTwo.{power_of_two-positive}
use Rattle.std.proofs.Common.{ap, arith, bit_and, inl, inr, pow-suc, subst, suc, sym, zero, ℕ, ◌%◌, ◌+◌, ◌-◌, ◌/◌, ◌<◌, ◌^◌, ◌∙◌, ◌≡◌, ◌≤◌}
use Rattle.std.proofs.Math.Nat.{mod_self}
use Rattle.std.proofs.lemmas.Bool.{cases_lt}
use Rattle.std.proofs.lemmas.Nat.{and_mask}
use Rattle.std.specs.Int.{IsPowerOfTwo}
use Rattle.std.specs.Int.Bits.{and_self, and_step}

-- a number that isn't 0 and shares no bit with the number below it is a power of two, by halves: an
-- odd one is 1
apart_from_below : (limit n : ℕ) → n ≤ limit → 0 < n → bit_and n (n - 1) ≡ 0 → IsPowerOfTwo n
apart_from_below zero n small positive apart = absurd (omega (arith, small, positive))
apart_from_below (suc limit) n small positive apart =
    let step = and_step n (n - 1) in
    elim (cases_lt 0 (n % 2)) [
      | inl odd ↦
          let same : (n - 1) / 2 ≡ n / 2 = omega arith in
          let whole = ap (bit_and (n / 2)) same ∙ and_self (n / 2) in
          (0, omega (arith, step, whole, apart))
      | inr even ↦
          let lower : (n - 1) / 2 ≡ n / 2 - 1 = omega arith in
          let none : bit_and (n / 2) (n / 2 - 1) ≡ 0 = omega (arith, step, ap (bit_and (n / 2)) lower, apart) in
          let half = apart_from_below limit (n / 2) (omega arith) (omega arith) none in
          (suc half.0, omega (arith, pow-suc 2 half.0, half.1))
    ]

-- the number below one that isn't 0, computed modulo 2 ^ 64
below : (n : ℕ) → 0 < n → n < 2 ^ 64 → (n + 18446744073709551615) % 18446744073709551616 ≡ n - 1
below n positive fits = omega (arith, positive, fits)

-- an alignment shares no bit with the number below it
pub apart : (align : ℕ) → align < 2 ^ 64 → IsPowerOfTwo align
    → bit_and align ((align + 18446744073709551615) % 18446744073709551616) ≡ 0
apart align fits power =
    let none = subst (λ (m : ℕ). bit_and m (m - 1) ≡ 0) (sym power.1)
    (and_mask (2 ^ power.0) power.0 ∙ mod_self (2 ^ power.0)) in
    ap (bit_and align) (below align (power_of_two-positive align power) fits) ∙ none

-- a number that passes both tests is an alignment up to the limit
pub passes : (align limit : ℕ) → align < 2 ^ 64 → limit < 2 ^ 64
    → bit_and align ((align + 18446744073709551615) % 18446744073709551616) ≡ 0
    → (align + 18446744073709551615) % 18446744073709551616 < limit → (align ≤ limit) × IsPowerOfTwo align
passes align limit fits small none less =
    let positive : 0 < align = omega (arith, fits, small, less) in
    let is = below align positive fits in (
      omega (arith, less, is),
      apart_from_below align align (omega arith) positive (sym (ap (bit_and align) is) ∙ none),
    )
