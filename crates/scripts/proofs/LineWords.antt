-- The words of a line: there is only one way to read them.
use Rattle.scripts.proofs.Numbers.{own}
use Rattle.scripts.specs.Words.{AreNumbers, AreWords, Numbers, StartsWith, Words, list_of, numbers_text}
use Rattle.scripts.specs.declared.words.Numbers.TheVariants.{Five, Four, One, Three, Two, Zero}
use Rattle.std.proofs.Common.{All, List, [], ap, ap₂, arith, drop, false, length, refl, sym, take, take_all, ℕ, ◌++◌, ◌-◌, ◌<◌, ◌==◌, ◌^◌, ◌∙◌, ◌∷◌, ◌≡◌, ◌≢◌}
use Rattle.std.proofs.lemmas.Fmt.{decimal_injective, digits_decimal}
use Rattle.std.proofs.lemmas.List.{append-nil, append_assoc, get_or_default}
use Rattle.std.proofs.lemmas.List.Elements.{All-tail}
use Rattle.std.proofs.lemmas.Str.Parse.{digit_at}
use Rattle.std.specs.Fmt.{decimal}

-- no byte of the text is this one
abbrev pub Without : ℕ → List ℕ → Type 0
Without byte text = All (λ b. b ≢ byte) text

-- a number is written without the space
spaceless_decimal : (n : ℕ) → n < 2 ^ 64 → Without 32 (decimal n)
spaceless_decimal n small = λ k d l e.
    let digit = digit_at (decimal n) k (digits_decimal own n small) l in
    omega (arith, digit, get_or_default (decimal n) k d 0 l)

-- there is one way only to split a text before the first byte of a value
pub split_same : (byte : ℕ) (front front' back back' : List ℕ) → Without byte front → Without byte front'
    → StartsWith byte back → StartsWith byte back' → front ++ back ≡ front' ++ back' → (front ≡ front') × (back ≡ back')
split_same byte [] [] back back' h h' s s' e = (refl, e)
split_same byte [] (y ∷ ys) [] back' h h' s s' e = absurd (cc)
split_same byte [] (y ∷ ys) (b ∷ back) back' h h' s s' e = absurd (h' 0 0 (omega arith) (cc))
split_same byte (x ∷ xs) [] back [] h h' s s' e = absurd (cc)
split_same byte (x ∷ xs) [] back (b ∷ back') h h' s s' e = absurd (h 0 0 (omega arith) (cc))
split_same byte (x ∷ xs) (y ∷ ys) back back' h h' s s' e =
    let tails : xs ++ back ≡ ys ++ back' = cc in
    let same = split_same byte xs ys back back' (All-tail (λ b. b ≢ byte) x xs h) (All-tail (λ b. b ≢ byte) y ys h') s s' tails in
    (cc, same.1)

-- numbers start with a space
numbers_start : (ns : List ℕ) → StartsWith 32 (numbers_text ns)
numbers_start [] = tt
numbers_start (n ∷ ns) = refl

-- also before a space
start_more : (ns text : List ℕ) → StartsWith 32 (numbers_text ns ++ 32 ∷ text)
start_more [] text = refl
start_more (n ∷ ns) text = refl

-- one text is written by one list of numbers
numbers_same : (xs ys : List ℕ) → AreNumbers xs → AreNumbers ys → numbers_text xs ≡ numbers_text ys → xs ≡ ys
numbers_same [] [] h h' e = refl
numbers_same [] (y ∷ ys) h h' e = absurd (cc)
numbers_same (x ∷ xs) [] h h' e = absurd (cc)
numbers_same (x ∷ xs) (y ∷ ys) h h' e =
    let tails : decimal x ++ numbers_text xs ≡ decimal y ++ numbers_text ys = cc in
    let parts =
    split_same 32 (decimal x) (decimal y) (numbers_text xs) (numbers_text ys) (spaceless_decimal x h.0)
    (spaceless_decimal y h'.0) (numbers_start xs) (numbers_start ys) tails in
    ap₂ ◌∷◌ (decimal_injective x y h.0 h'.0 parts.0) (numbers_same xs ys h.1 h'.1 parts.1)

-- the numbers of a list
abbrev numbers_of : List ℕ → Numbers
numbers_of [] = Zero
numbers_of (a ∷ []) = One a
numbers_of (a ∷ b ∷ []) = Two a b
numbers_of (a ∷ b ∷ c ∷ []) = Three a b c
numbers_of (a ∷ b ∷ c ∷ d ∷ []) = Four a b c d
numbers_of (a ∷ b ∷ c ∷ d ∷ e ∷ more) = Five a b c d e

numbers_of-list : (ns : Numbers) → numbers_of (list_of ns) ≡ ns
numbers_of-list Zero = refl
numbers_of-list ns = refl

-- a line has one name and one list of numbers
pub words_same : (one other : Words) (line : List ℕ) → AreWords one line → AreWords other line
    → (one.name ≡ other.name) × (one.numbers ≡ other.numbers)
words_same one other line are also =
    let ns : List ℕ = list_of one.numbers in
    let ms : List ℕ = list_of other.numbers in
    let parts =
    split_same 32 one.name other.name (numbers_text ns) (numbers_text ms) are.stand.name also.stand.name (numbers_start ns)
    (numbers_start ms) (sym are.text ∙ also.text) in
    let lists = numbers_same ns ms are.stand.numbers also.stand.numbers parts.1 in
    (parts.0, sym (numbers_of-list one.numbers) ∙ (ap numbers_of lists ∙ numbers_of-list other.numbers))

-- a field after numbers is one of the line's numbers, and the line has more than those
one_more : (ns all field after : List ℕ) → AreNumbers ns → AreNumbers all → Without 32 field → StartsWith 32 after
    → numbers_text all ≡ numbers_text ns ++ 32 ∷ (field ++ after)
    → (n : ℕ) × (n < 2 ^ 64) × (field ≡ decimal n) × (length ns < length all)
one_more [] [] field after h h' w s e = absurd (cc)
one_more [] (n ∷ all) field after h h' w s e = grind (arith, split_same, spaceless_decimal, numbers_start)
one_more (m ∷ ns) [] field after h h' w s e = absurd (cc)
one_more (m ∷ ns) (n ∷ all) field after h h' w s e =
    let text : List ℕ = field ++ after in
    let tails : decimal n ++ numbers_text all ≡ (decimal m ++ numbers_text ns) ++ 32 ∷ text = cc in
    let parts =
    split_same 32 (decimal n) (decimal m) (numbers_text all) (numbers_text ns ++ 32 ∷ text) (spaceless_decimal n h'.0)
    (spaceless_decimal m h.0) (numbers_start all) (start_more ns text)
    (tails ∙ append_assoc (decimal m) (numbers_text ns) (32 ∷ text)) in
    let (k, small, is, longer) = one_more ns all field after h.1 h'.1 w s parts.1 in
    (k, small, is, omega arith)

-- the line so far: a name, numbers, and a rest
pub record SoFar (line name ns rest : List ℕ) : Type 0 where
  pub text : line ≡ name ++ (numbers_text ns ++ rest)
  pub name_is : Without 32 name
  pub numbers_are : AreNumbers ns
  pub rest_starts : StartsWith 32 rest

-- the next field of a line that is words is one of its numbers
pub next_number : (line name ns field after : List ℕ) (other : Words) → SoFar line name ns (32 ∷ (field ++ after))
    → Without 32 field → StartsWith 32 after → AreWords other line
    → (n : ℕ) × (n < 2 ^ 64) × (field ≡ decimal n) × (length ns < length (list_of other.numbers))
next_number line name ns field after other so w s are =
    let all : List ℕ = list_of other.numbers in
    let rest : List ℕ = numbers_text ns ++ 32 ∷ (field ++ after) in
    let parts =
    split_same 32 other.name name (numbers_text all) rest are.stand.name so.name_is (numbers_start all)
    (start_more ns (field ++ after)) (sym are.text ∙ so.text) in
    one_more ns all field after so.numbers_are are.stand.numbers w s parts.1

-- there are at most five
pub at_most_five : (ns : Numbers) → 5 < length (list_of ns) → ⊥
at_most_five Zero h = omega (arith, h)
at_most_five ns h = omega (arith, h)

-- a nonempty rest is a space and the text after it
pub space_first : (rest front after : List ℕ) → StartsWith 32 rest → false ≡ (length rest == 0)
    → take (length rest - 1) (drop 1 rest) ≡ front ++ after → rest ≡ 32 ∷ (front ++ after)
space_first [] front after s some e = absurd (cc)
space_first (b ∷ rest) front after s some e = ap₂ ◌∷◌ s (sym (take_all (length (b ∷ rest) - 1) rest (omega arith)) ∙ e)

-- a number after others is written after them
numbers_push : (ns : List ℕ) (n : ℕ) (after : List ℕ)
    → numbers_text ns ++ 32 ∷ (decimal n ++ after) ≡ numbers_text (ns ++ n ∷ []) ++ after
numbers_push [] n after = ap (λ l. 32 ∷ (l ++ after)) (sym (append-nil (decimal n)))
numbers_push (m ∷ ns) n after = grind (arith, numbers_push ns n after, append_assoc)

-- the numbers with one more may be written
AreNumbers-push : (ns : List ℕ) (n : ℕ) → AreNumbers ns → n < 2 ^ 64 → AreNumbers (ns ++ n ∷ [])
AreNumbers-push [] n h small = (small, tt)
AreNumbers-push (m ∷ ns) n h small = (h.0, AreNumbers-push ns n h.1 small)

-- a number more is read
pub so_more : (line name ns field after more : List ℕ) (n : ℕ) → SoFar line name ns (32 ∷ (field ++ after))
    → (n < 2 ^ 64) × (field ≡ decimal n) → more ≡ ns ++ n ∷ [] → StartsWith 32 after → SoFar line name more after
so_more line name ns field after more n so (small, is) longer start = rw longer (record {
  text = so.text ∙ ap (λ l. name ++ l)
      (ap (λ f. numbers_text ns ++ 32 ∷ (f ++ after)) is ∙ numbers_push ns n after);
  name_is = so.name_is;
  numbers_are = AreNumbers-push ns n so.numbers_are small;
  rest_starts = start;
})
