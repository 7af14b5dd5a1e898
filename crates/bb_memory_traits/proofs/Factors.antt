-- The factors of a stride, an odd number and a power of two: how a product modulo 2 ^ 64 and a
-- rotation divide by both.
use Rattle.bb_memory_traits.specs.Geometry.{IsFactored}
use Rattle.std.proofs.Common.{ap, arith, inl, inr, pow_pos, rules, subst, sym, w64, ℕ, ◌%◌, ◌*◌, ◌+◌, ◌-◌, ◌/◌, ◌<◌, ◌^◌, ◌∙◌, ◌≡◌, ◌≢◌, ◌≤◌}
use Rattle.std.proofs.Math.Nat.{add-mod-mod, add-mul, div-one, dvd-mul_left, le-mul_of_pos_right, lt_of_mul-lt-mul_right, mod-add-mod, mod-eq_of_lt, mod-lt, mod-mod_of_dvd, mul-div_cancel, mul-le-mul_right, mul-lt-mul_of_pos_right, mul-mod_left, mul-mul-mul_comm, mul-one, mul_assoc, mul_comm, mul_right_comm, zero-mul}
use Rattle.std.proofs.lemmas.Bool.{cases_eq, cases_lt}
use Rattle.std.proofs.lemmas.Nat.{and_mask, div-add-mod', le_or_r, mod-mul-add, mul-mod_first, mul-mod_second, pow-add, shr_split}
use Rattle.std.proofs.lemmas.Nat.Bits.{bit_at-trailing_zeros, bit_at-zero, bit_at_and, bit_at_or, same_from_bits, same_from_bits_below}
use Rattle.std.specs.Int.{bit_at, rotate_right, trailing_zeros, ◌∣◌}
use Rattle.std.specs.Int.Bits.{bit_or, or_zero_r}

-- FACTORS

-- no bit is set below the lowest one, so a number is a multiple of that power of two
zeros-rest : (n k : ℕ) → ((i : ℕ) → i < k → bit_at n i ≡ 0) → n % 2 ^ k ≡ 0
zeros-rest n k clear =
    same_from_bits_below k (n % 2 ^ k) 0 (mod-lt n (pow_pos k)) (pow_pos k) (λ i below.
    ap (λ m. bit_at m i) (sym (and_mask n k)) ∙ bit_at_and n (2 ^ k - 1) i ∙ omega (arith, clear i below)
    ∙ sym (bit_at-zero i))

-- a number is an odd one times a power of two, whose exponent is the number of zeros at its end
pub record HasOddPart (n : ℕ) : Type 0 where
  pub short : trailing_zeros w64 n < 64
  pub odd : n / 2 ^ trailing_zeros w64 n % 2 ≡ 1
  pub factors : n ≡ n / 2 ^ trailing_zeros w64 n * 2 ^ trailing_zeros w64 n

pub odd-part : (n : ℕ) → 0 < n → n < 2 ^ 64 → HasOddPart n
odd-part n some small =
    let lowest = bit_at-trailing_zeros w64 n some small in
    record {
      short = lowest.0;
      odd = lowest.1;
      factors = omega (arith, shr_split n (trailing_zeros w64 n), zeros-rest n (trailing_zeros w64 n) lowest.2);
    }

-- INVERSES

-- one step towards an inverse: the product plus the rest is 1, and stays 1
pub inverse-step : (odd inverse rest : ℕ) → (odd * inverse + rest) % 2 ^ 64 ≡ 1 →
    (odd * (inverse * ((rest + 1) % 2 ^ 64) % 2 ^ 64) + rest * rest % 2 ^ 64) % 2 ^ 64 ≡ 1
inverse-step odd inverse rest one =
    let m : ℕ = 2 ^ 64 in
    let next : ℕ = inverse * (rest + 1) in
    let square : ℕ = rest * rest in
    let expanded : odd * next + square ≡ (odd * inverse + rest) * rest + odd * inverse = omega arith in
    let turned : 1 * rest + odd * inverse ≡ odd * inverse + rest = omega arith in
    ap (λ n. (odd * n + square % m) % m) (mul-mod_second inverse (rest + 1) m)
    ∙ add-mod-mod (odd * (next % m)) square m
    ∙ sym (mod-add-mod (odd * (next % m)) m square)
    ∙ ap (λ n. (n + square) % m) (mul-mod_second odd next m)
    ∙ mod-add-mod (odd * next) m square
    ∙ ap (λ n. n % m) expanded
    ∙ sym (mod-add-mod ((odd * inverse + rest) * rest) m (odd * inverse))
    ∙ ap (λ n. (n + odd * inverse) % m) (sym (mul-mod_first (odd * inverse + rest) rest m))
    ∙ ap (λ n. (n * rest % m + odd * inverse) % m) one
    ∙ mod-add-mod (1 * rest) m (odd * inverse)
    ∙ ap (λ n. n % m) turned
    ∙ one

-- the square of a multiple of a power of two is one of that power's square, also modulo 2 ^ 64
pub square-rest : (rest k : ℕ) → k + k ≤ 64 → rest % 2 ^ k ≡ 0 → rest * rest % 2 ^ 64 % 2 ^ (k + k) ≡ 0
square-rest rest k short multiple =
    let q : ℕ = rest / 2 ^ k in
    let whole : rest ≡ q * 2 ^ k = omega (arith, shr_split rest k, multiple) in
    let both : 64 ≡ (64 - (k + k)) + (k + k) = omega arith in
    let parts : 2 ^ 64 ≡ 2 ^ (64 - (k + k)) * 2 ^ (k + k) = ap (λ i. 2 ^ i) both ∙ pow-add 2 (64 - (k + k)) (k + k) in
    let divides : 2 ^ (k + k) ∣ 2 ^ 64 = subst (λ m. 2 ^ (k + k) ∣ m) (sym parts) (dvd-mul_left (2 ^ (k + k)) (2 ^ (64 - (k + k)))) in
    let squared : rest * rest ≡ q * q * 2 ^ (k + k) =
    ap (λ n. n * n) whole ∙ mul-mul-mul_comm q (2 ^ k) q (2 ^ k) ∙ ap (λ n. q * q * n) (sym (pow-add 2 k k)) in
    mod-mod_of_dvd (2 ^ (k + k)) (rest * rest) divides ∙ ap (λ n. n % 2 ^ (k + k)) squared
    ∙ mul-mod_left (q * q) (2 ^ (k + k))

-- to multiply by a number and by its inverse leaves what there was
pub undone : (n odd inverse : ℕ) → odd * inverse % 2 ^ 64 ≡ 1 → n * odd * inverse % 2 ^ 64 ≡ n % 2 ^ 64
undone n odd inverse inverted =
    ap (λ m. m % 2 ^ 64) (mul_assoc n odd inverse) ∙ sym (mul-mod_second n (odd * inverse) (2 ^ 64))
    ∙ ap (λ m. n * m % 2 ^ 64) inverted ∙ ap (λ m. m % 2 ^ 64) (mul-one n)

-- ROTATIONS

-- a number or-ed with itself
or-same : (n : ℕ) → bit_or n n ≡ n
or-same n = same_from_bits (bit_or n n) n (λ i. bit_at_or n n i ∙ search rules)

-- the number that a rotation brings to the top is the rest of the division by this power of two
rest-at-top : (n k : ℕ) → 0 < k → k < 64 → n * 2 ^ ((64 - k % 64) % 64) % 2 ^ 64 ≡ n % 2 ^ k * 2 ^ (64 - k)
rest-at-top n k some below =
    let own : k % 64 ≡ k = mod-eq_of_lt below in
    let up : (64 - k % 64) % 64 ≡ 64 - k = ap (λ i. (64 - i) % 64) own ∙ mod-eq_of_lt (omega arith) in
    let top : ℕ = 2 ^ (64 - k) in
    let both : 64 ≡ k + (64 - k) = omega arith in
    let parts : 2 ^ 64 ≡ 2 ^ k * top = ap (λ i. 2 ^ i) both ∙ pow-add 2 k (64 - k) in
    let small : n % 2 ^ k * top < 2 ^ k * top = mul-lt-mul_of_pos_right (mod-lt n (pow_pos k)) (pow_pos (64 - k)) in
    let split : n * top ≡ n / 2 ^ k * (2 ^ k * top) + n % 2 ^ k * top =
    ap (λ m. m * top) (sym (shr_split n k)) ∙ add-mul (n / 2 ^ k * 2 ^ k) (n % 2 ^ k) top
    ∙ ap (λ m. m + n % 2 ^ k * top) (mul_assoc (n / 2 ^ k) (2 ^ k) top) in
    ap (λ i. n * 2 ^ i % 2 ^ 64) up ∙ ap (λ m. n * top % m) parts ∙ ap (λ m. m % (2 ^ k * top)) split
    ∙ mod-mul-add (n / 2 ^ k) (2 ^ k * top) (n % 2 ^ k * top) small

-- a multiple of a power of two is divided by a rotation
pub rotated-whole : (n k : ℕ) → k < 64 → n < 2 ^ 64 → n % 2 ^ k ≡ 0 → rotate_right w64 n k ≡ n / 2 ^ k
rotated-whole n k below small whole = elim (cases_lt 0 k) [
  | inl some ↦
      ap (λ i. bit_or (n / 2 ^ i) (n * 2 ^ ((64 - k % 64) % 64) % 2 ^ 64)) (mod-eq_of_lt below)
      ∙ ap (bit_or (n / 2 ^ k)) (rest-at-top n k some below ∙ ap (λ r. r * 2 ^ (64 - k)) whole ∙ zero-mul (2 ^ (64 - k)))
      ∙ or_zero_r (n / 2 ^ k)
  | inr none ↦
      let zero : k ≡ 0 = omega arith in
      let same : n * 1 % 2 ^ 64 ≡ n = ap (λ m. m % 2 ^ 64) (mul-one n) ∙ mod-eq_of_lt small in
      subst (λ i. rotate_right w64 n i ≡ n / 2 ^ i) (sym zero)
      (ap (bit_or (n / 1)) (same ∙ sym (div-one n)) ∙ or-same (n / 1))
]

-- any other number is greater then than all these multiples
pub rotated-part : (n k : ℕ) → k < 64 → n % 2 ^ k ≢ 0 → 2 ^ (64 - k) ≤ rotate_right w64 n k
rotated-part n k below part = elim (cases_lt 0 k) [
  | inl some ↦
      let rest : 0 < n % 2 ^ k = omega (arith, part) in
      let low = le-mul_of_pos_right (2 ^ (64 - k)) rest in
      let turned = mul_comm (2 ^ (64 - k)) (n % 2 ^ k) in
      omega (arith, low, turned, rest-at-top n k some below, le_or_r (n / 2 ^ (k % 64)) (n * 2 ^ ((64 - k % 64) % 64) % 2 ^ 64))
  | inr none ↦
      let zero : k ≡ 0 = omega arith in
      absurd (part (subst (λ i. n % 2 ^ i ≡ 0) (sym zero) (let low : n % 1 < 1 = mod-lt n (omega arith) in omega arith)))
]

-- DIVISIONS

module _ (step shift inverse : ℕ) (is : IsFactored step shift inverse) where
  odd-positive : 0 < is.odd
  odd-positive = elim (cases_lt 0 is.odd) [
    | inl some ↦ some
    | inr none ↦
        let zero : is.odd * inverse ≡ 0 = ap (λ n. n * inverse) (omega arith) ∙ zero-mul inverse in
        absurd (omega (arith, is.inverted, zero))
  ]

  -- the same number of strides, by the factors
  strides : (n : ℕ) → n * step ≡ n * 2 ^ shift * is.odd
  strides n =
      ap (λ m. n * m) (is.factors ∙ mul_comm is.odd (2 ^ shift)) ∙ sym (mul_assoc n (2 ^ shift) is.odd)

  -- a multiple of the stride is divided
  pub divided-whole : (n : ℕ) → n < 2 ^ 64 → n % step ≡ 0 → rotate_right w64 (n * inverse % 2 ^ 64) shift ≡ n / step
  divided-whole n small whole =
      let q : ℕ = n / step in
      let count : ℕ = q * 2 ^ shift in
      let multiple : n ≡ count * is.odd = omega (arith, div-add-mod' n step, whole, strides q) in
      let low : count < 2 ^ 64 = omega (arith, le-mul_of_pos_right count odd-positive, small, multiple) in
      let product : n * inverse % 2 ^ 64 ≡ count =
      ap (λ m. m * inverse % 2 ^ 64) multiple ∙ undone count is.odd inverse is.inverted ∙ mod-eq_of_lt low in
      ap (λ m. rotate_right w64 m shift) product
      ∙ rotated-whole count shift is.short low (mul-mod_left q (2 ^ shift))
      ∙ mul-div_cancel q (pow_pos shift)

  -- a number is a multiple of the stride if it divides to fewer strides than fit below 2 ^ 64
  pub divided-part : (n buckets : ℕ) → n < 2 ^ 64 → buckets * step < 2 ^ 64 →
      rotate_right w64 (n * inverse % 2 ^ 64) shift < buckets → n % step ≡ 0
  divided-part n buckets small fit below =
      let m : ℕ = n * inverse % 2 ^ 64 in
      let range : m < 2 ^ 64 = mod-lt (n * inverse) (pow_pos 64) in
      elim (cases_eq (m % 2 ^ shift) 0) [
        | inl whole ↦
            let q : ℕ = m / 2 ^ shift in
            let turned : rotate_right w64 m shift ≡ q = rotated-whole m shift is.short range whole in
            let count : m ≡ q * 2 ^ shift = omega (arith, shr_split m shift, whole) in
            let fits : q * step < 2 ^ 64 =
            omega (arith, mul-le-mul_right {m = q} {n = buckets} step (omega (arith, turned, below)), fit) in
            let back : m * is.odd % 2 ^ 64 ≡ n =
            mul-mod_first (n * inverse) is.odd (2 ^ 64) ∙ ap (λ i. i % 2 ^ 64) (mul_right_comm n inverse is.odd)
            ∙ undone n is.odd inverse is.inverted ∙ mod-eq_of_lt small in
            let there : m * is.odd ≡ q * step = ap (λ i. i * is.odd) count ∙ sym (strides q) in
            let same : n ≡ q * step = sym back ∙ ap (λ i. i % 2 ^ 64) there ∙ mod-eq_of_lt fits in
            ap (λ i. i % step) same ∙ mul-mod_left q step
        | inr part ↦
            let both : 64 ≡ 64 - shift + shift = omega (arith, is.short) in
            let all : 2 ^ 64 ≡ 2 ^ (64 - shift) * 2 ^ shift = ap (λ i. 2 ^ i) both ∙ pow-add 2 (64 - shift) shift in
            let wide : buckets * 2 ^ shift ≤ buckets * 2 ^ shift * is.odd = le-mul_of_pos_right (buckets * 2 ^ shift) odd-positive in
            let few : buckets < 2 ^ (64 - shift) = lt_of_mul-lt-mul_right (2 ^ shift) (omega (arith, fit, all, wide, strides buckets)) in
            absurd (omega (arith, few, below, rotated-part m shift is.short part))
      ]
