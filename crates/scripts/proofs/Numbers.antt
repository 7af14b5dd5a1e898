-- Numbers in decimal, without a sign or a leading zero.
use Rattle.std.proofs.Common.{Err, IfSome, List, Ok, Result, Some, ap, arith, length, slice_index, suc, sym, zero, ℕ, ◌<◌, ◌^◌, ◌≡◌, ◌≢◌}
use Rattle.std.proofs.lemmas.Fmt.{IsAscii-decimal, decimal-digits_value, decimal_digit, decimal_nonempty, first_decimal, parse-decimal}
use Rattle.std.proofs.lemmas.Str.{IsUtf8-from_ascii}
use Rattle.std.proofs.lemmas.Str.Parse.{IsNumeralModel, numerals_by_value, parse_plain, tells_digits}
use Rattle.std.specs.Fmt.{decimal}
use Rattle.std.specs.Result.{result_ok}
use Rattle.std.specs.Str.{IsUtf8}
use Rattle.std.specs.Str.Parse.{AllDigits, ParsesUnsigned, digits_value}

-- the field isn't empty, and has no sign, and no leading zero unless it is only that
abbrev pub IsPlain : List ℕ → Type 0
IsPlain field = (0 < length field) × (slice_index field 0 ≢ 43) × (slice_index field 0 ≡ 48 → length field ≡ 1)

-- std's own words for digits and their value
pub own : IsNumeralModel (AllDigits 10) (digits_value 10)
own = numerals_by_value (AllDigits 10) tells_digits

-- a plain field that is read writes the number
pub read_writes : {E : Type 0} (field : List ℕ) (read : Result ℕ E) → IsPlain field → ParsesUnsigned 64 10 field read
    → IfSome (result_ok read) (λ n. (n < 2 ^ 64) × (field ≡ decimal n))
read_writes {E} field (Ok n) plain parses =
    let ((digits, some, fits), is) = parse_plain own {E = E} 64 field (Ok n) parses plain.1 in
    rw is (fits, sym (decimal-digits_value own field digits some plain.2 fits))
read_writes field (Err e) plain parses = tt

-- a field that writes a number is read as that number
pub read_gives : {E : Type 0} (field : List ℕ) (read : Result ℕ E) (n : ℕ) → ParsesUnsigned 64 10 field read
    → n < 2 ^ 64 → field ≡ decimal n → result_ok read ≡ Some n
read_gives field read n parses small e = ap result_ok (parse-decimal 64 n field read small small e parses)

-- a decimal field is text
pub decimal_text : (field : List ℕ) (n : ℕ) → n < 2 ^ 64 → field ≡ decimal n → IsUtf8 field
decimal_text field n small e = rw e (IsUtf8-from_ascii (decimal n) (IsAscii-decimal n small))

-- a number is written plainly
IsPlain-decimal : (n : ℕ) → n < 2 ^ 64 → IsPlain (decimal n)
IsPlain-decimal zero small = rw (decimal_digit 0 (omega arith)) (omega arith, λ e. omega (arith, e), λ e. omega arith)
IsPlain-decimal (suc n) small =
    let f = first_decimal (suc n) (omega arith) small in
    (decimal_nonempty (suc n) small, λ e. omega (arith, e, f), λ e. absurd (omega (arith, e, f)))

-- a field that writes a number is plain
pub IsPlain-writes : (field : List ℕ) (n : ℕ) → n < 2 ^ 64 → field ≡ decimal n → IsPlain field
IsPlain-writes field n small e = rw e (IsPlain-decimal n small)
