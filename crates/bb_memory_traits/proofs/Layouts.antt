-- The sizes and alignments that form a layout.
use Rattle.bb_memory_traits.proofs.LeastPlaces.{least_place-is}
use Rattle.bb_memory_traits.proofs.PowersOfTwo.{power_of_two-from_test, power_of_two-positive, power_of_two-test}
use Rattle.bb_memory_traits.specs.Chunk.{Layout}
use Rattle.bb_memory_traits.specs.LeastPlace.{IsUsual, least_place}
use Rattle.std.proofs.Common.{IsTrue, ap, arith, div-add-mod', inl, inr, mul-le-mul_right, pow-add, pow-suc, pow_mono, pow_pos, refl, suc, sym, zero, ℕ, ◌%◌, ◌*◌, ◌+◌, ◌-◌, ◌/◌, ◌<◌, ◌^◌, ◌↔◌, ◌∙◌, ◌≡◌, ◌≤◌, ◌⊎◌}
use Rattle.std.proofs.Math.Nat.{mul_assoc}
use Rattle.std.proofs.Props.{props}
use Rattle.std.proofs.lemmas.Bool.{cases_lt}
use Rattle.std.proofs.lemmas.Nat.{mod-mul-add}
use Rattle.std.specs.Align.{IsLayout}
use Rattle.std.specs.Int.{IsPowerOfTwo, is_power_of_two}
use mathlib.Core.HLevel.{is_prop→PathP}

-- a layout is a power of two, and a size that is small enough when it is rounded up to that
pub layout-plain : (size align : ℕ) → IsLayout size align ↔ (IsPowerOfTwo align × (least_place size align < 2 ^ 63))
unfolding least_place
layout-plain size align = (
  λ layout. (power_of_two-from_test align layout.power_of_two, layout.fits),
  λ (power, fits). record {
    power_of_two = power_of_two-test align power;
    positive = power_of_two-positive align power;
    fits = fits;
  },
)

-- of two powers of two, the lower one divides the higher one
power-divides : (low high : ℕ) → IsPowerOfTwo low → IsPowerOfTwo high → low ≤ high → (k : ℕ) × (high ≡ k * low)
power-divides low high (p, low_is) (q, high_is) le = elim (cases_lt q p) [
  | inl below ↦ absurd (omega (arith, low_is, high_is, pow_pos q, pow-suc 2 q, pow_mono {i = suc q} {j = p} (omega arith)))
  | inr above ↦
      let parts : q ≡ (q - p) + p = omega arith in
      (2 ^ (q - p), high_is ∙ ap (λ j. 2 ^ j) parts ∙ pow-add 2 (q - p) p ∙ ap (λ m. 2 ^ (q - p) * m) (sym low_is))
]

-- a size and a power of two are a layout exactly if the size is at most what the alignment leaves
-- of 2 ^ 63
pub valid-up_to : (size align : ℕ) → IsTrue (is_power_of_two align) → align < 2 ^ 64 →
    (align ≤ 2 ^ 63) × (IsLayout size align ↔ (size ≤ 2 ^ 63 - align))
valid-up_to size align test small =
    let power = power_of_two-from_test align test in
    let (exponent, align_is) = power in
    let low : align ≤ 2 ^ 63 = elim (cases_lt exponent 64) [
      | inl below ↦ omega (arith, align_is, pow_mono {i = exponent} {j = 63} (omega arith))
      | inr above ↦ absurd (omega (arith, align_is, pow_mono {i = 64} {j = exponent} above))
    ] in
    let (most, whole) = power-divides align (2 ^ 63) power (63, refl) low in
    let positive = power_of_two-positive align power in
    let place = least_place-is size align positive in
    let (k, multiple_is) = place.multiple in (
      low,
      (
        λ layout.
            let fits = ((layout-plain size align).0 layout).1 in
            elim (cases_lt k most) [
              | inl less ↦ let more = mul-le-mul_right {m = k + 1} {n = most} align (omega arith) in
                  omega (arith, place.above, multiple_is, whole, more)
              | inr past ↦ absurd (omega (arith, fits, multiple_is, whole, mul-le-mul_right align past))
            ],
        λ below. (layout-plain size align).1 (
          power,
          elim (cases_lt 0 most) [
            | inl some ↦
                let before : most ≡ (most - 1) + 1 = omega arith in
                let parts : most * align ≡ (most - 1) * align + align = omega (arith, ap (λ m. m * align) before) in
                omega (arith, positive, parts, whole, place.least (most - 1) (omega (arith, below, parts, whole)))
            | inr none ↦ let nothing : most ≡ 0 = omega arith in absurd (omega (arith, whole, ap (λ m. m * align) nothing))
          ],
        ),
      ),
    )

-- a multiple of an alignment is one of each smaller alignment
pub multiple : (place : ℕ) (layout wider : Layout) → layout.align ≤ wider.align → place % wider.align ≡ 0 →
    place % layout.align ≡ 0
multiple place layout wider le is =
    let low = layout-plain layout.size layout.align in
    let high = layout-plain wider.size wider.align in
    let divides = power-divides layout.align wider.align (low.0 layout.valid).0 (high.0 wider.valid).0 le in
    let whole : place ≡ place / wider.align * divides.0 * layout.align + 0 =
    omega (
      arith,
      div-add-mod' place wider.align,
      is,
      ap (λ h. place / wider.align * h) divides.1,
      mul_assoc (place / wider.align) divides.0 layout.align,
    ) in
    ap (λ m. m % layout.align) whole ∙ mod-mul-add (place / wider.align * divides.0) layout.align 0 layout.valid.positive

-- a size and a power of two that are at most those of a layout make one
pub within-valid : (size align : ℕ) (limit : Layout) → size ≤ limit.size → align ≤ limit.align → IsPowerOfTwo align
    → IsLayout size align
within-valid size align limit less low power =
    let high = (layout-plain limit.size limit.align).0 limit.valid in
    let divides = power-divides align limit.align power high.0 low in
    let above = least_place-is limit.size limit.align (power_of_two-positive limit.align high.0) in
    let k = above.multiple.0 * divides.0 in
    let whole : least_place limit.size limit.align ≡ k * align = omega (
      arith,
      above.multiple.1,
      ap (λ a. above.multiple.0 * a) divides.1,
      mul_assoc above.multiple.0 divides.0 align,
    ) in
    let least = (least_place-is size align (power_of_two-positive align power)).least k (omega (arith, above.above, whole)) in
    (layout-plain size align).1 (power, omega (arith, high.1, whole, least))

-- no bytes have a layout
pub empty-valid : IsLayout 0 1
unfolding lib.Count.ones
empty-valid = record { power_of_two = refl; positive = omega arith; fits = omega arith }

-- layouts of the same numbers are the same
pub same_layout : (a b : Layout) → a.size ≡ b.size → a.align ≡ b.align → a ≡ b
same_layout a b size align = λ i. record {
  size = size i;
  align = align i;
  valid = is_prop→PathP (λ j. IsLayout (size j) (align j)) (λ j. hlevel props) a.valid b.valid i;
}

-- USUAL LAYOUTS

-- one of a number of powers of two, from this one on
abbrev IsAmong : ℕ → ℕ → ℕ → Type 0
IsAmong align k zero = align ≡ 2 ^ k
IsAmong align k (suc more) = (align ≡ 2 ^ k) ⊎ IsAmong align (k + 1) more

low_power : (align k more : ℕ) → k + more ≤ 12 → IsAmong align k more → (j : ℕ) × (align ≡ 2 ^ j) × (j ≤ 12)
low_power align k zero low is = (k, is, omega arith)
low_power align k (suc more) low (inl is) = (k, is, omega arith)
low_power align k (suc more) low (inr is) = low_power align (k + 1) more (omega arith) is

-- usual layouts are accepted
pub usual-accepted : (size align : ℕ) → IsUsual size align → IsLayout size align
usual-accepted size align usual =
    let power = low_power align 0 12 (omega arith) usual.power in
    let low : align ≤ 4096 = omega (arith, power.1, pow_mono {i = power.0} {j = 12} power.2) in
    let small = usual.small in record {
      power_of_two = power_of_two-test align (power.0, power.1);
      positive = power_of_two-positive align (power.0, power.1);
      fits = omega arith;
    }
