-- Tables of kinds, and which kind a first line has.
use Rattle.scripts.proofs.LineWords.{words_same}
use Rattle.scripts.specs.Scripts.{AreReadable, AreScript, HasHeader, IsAnsweredBy, IsFirstUnreadable, IsLineText, IsOutcome, IsPlayed, IsScriptOf, IsUnreadableAt, Kind, Line, Rules, SomeOf, header_words, is_new, kind}
use Rattle.scripts.specs.Words.{AreWords, MayStand, Words, words_text}
use Rattle.scripts.specs.declared.driving.Outcome.{Outcome}
use Rattle.scripts.specs.declared.driving.Outcome.TheVariants.{Answered, OutOfMemory, Unreadable}
use Rattle.std.proofs.Common.{All, List, None, Some, [], ap, arith, inl, inr, not, refl, suc, take, true, zero, ℕ, ◌+◌, ◌-◌, ◌∷◌, ◌≡◌, ◌⊎◌}
use Rattle.std.proofs.lemmas.Bool.{and_parts, both_ways, not-true}
use Rattle.std.proofs.lemmas.Option.{none-some}
use Rattle.std.proofs.lemmas.Slice.Eq.{bytes_eq-Decides}
use Rattle.std.specs.Prelude.{slice_get}
use Rattle.std.specs.Str.{bytes_eq}

-- the first line is of this kind
abbrev pub HasHeaderOf : List (List ℕ) → Kind → Type 0
HasHeaderOf lines kind = (header : kind.Header) × (rest : List (List ℕ)) × HasHeader kind lines header rest

-- a weaker property holds for some kind, too
some-map : (table : List Kind) (P Q : Kind → Type 0) → ((one : Kind) → P one → Q one) → SomeOf table P → SomeOf table Q
some-map [] P Q f h = h
some-map (one ∷ others) P Q f (inl p) = inl (f one p)
some-map (one ∷ others) P Q f (inr later) = inr (some-map others P Q f later)

-- a property that holds for no kind holds for none of a table
some-none : (table : List Kind) (P : Kind → Type 0) → ((one : Kind) → P one → ⊥) → SomeOf table P → ⊥
some-none [] P f h = h
some-none (one ∷ others) P f (inl p) = f one p
some-none (one ∷ others) P f (inr later) = some-none others P f later

-- the first words are those of a header
header_first : (one : Kind) (first : List ℕ) (rest : List (List ℕ)) (header : one.Header) (after : List (List ℕ))
    → HasHeader one (first ∷ rest) header after → first ≡ words_text (header_words one.rules header)
header_first one first rest header after starts =
    let cut : first ∷ rest ≡ words_text (header_words one.rules header) ∷ after = starts.cut in cc

-- the lines up to some number are a script of a kind only if the first is of that kind
script_header : (first : List ℕ) (rest : List (List ℕ)) (number : ℕ) (one : Kind)
    → IsScriptOf (take number (first ∷ rest)) one → HasHeaderOf (first ∷ rest) one
script_header first rest zero one (header, after, starts, read) =
    let cut : [] ≡ words_text (header_words one.rules header) ∷ after = starts.cut in absurd (cc)
script_header first rest (suc n) one (header, after, starts, read) =
    let head = header_first one first (take n rest) header after starts in
    (header, rest, record { allowed = starts.allowed; stand = starts.stand; cut = ap (λ l. l ∷ rest) head })

-- a line of no kind is the first that is unreadable
pub unreadable_first : (table : List Kind) (first : List ℕ) (rest : List (List ℕ))
    → (SomeOf table (HasHeaderOf (first ∷ rest)) → ⊥) → IsUnreadableAt table (first ∷ rest) 1
unreadable_first table first rest none =
    let opened = some-map table (IsScriptOf (take 1 (first ∷ rest))) (HasHeaderOf (first ∷ rest)) (script_header first rest 1) in
    (inl refl, λ readable. none (opened readable))

-- if there is no line, the first line is unreadable
pub unreadable_empty : (table : List Kind) → IsUnreadableAt table [] 1
unreadable_empty table = (
  inl refl,
  some-none table (IsScriptOf [])
      (λ one (header, after, starts, read). let cut : [] ≡ words_text (header_words one.rules header) ∷ after = starts.cut in cc),
)

-- a line that is the first unreadable one to other kinds is so also with a kind more that doesn't
-- read the first line
unreadable_later : (one : Kind) (others : List Kind) (first : List ℕ) (rest : List (List ℕ)) (number : ℕ)
    → (HasHeaderOf (first ∷ rest) one → ⊥) → IsUnreadableAt others (first ∷ rest) number
    → IsUnreadableAt (one ∷ others) (first ∷ rest) number
unreadable_later one others first rest number no_header (inl is, unread) = (
  inl is,
  elim [
    | inl here ↦ no_header (script_header first rest number one here)
    | inr there ↦ unread there
  ],
)
unreadable_later one others first rest number no_header (inr read, unread) = (
  inr (inr read),
  elim [
    | inl here ↦ no_header (script_header first rest number one here)
    | inr there ↦ unread there
  ],
)

-- a line that isn't words belongs to no kind
pub no_words : (table : List Kind) (first : List ℕ) (rest : List (List ℕ))
    → ((words : Words) → AreWords words first → ⊥) → SomeOf table (HasHeaderOf (first ∷ rest)) → ⊥
no_words table first rest none =
    some-none table (HasHeaderOf (first ∷ rest)) (λ one (header, after, starts).
    none (header_words one.rules header)
    (record { stand = starts.stand; text = header_first one first rest header after starts }))

-- the words of a first line are those of its header
header_same : (one : Kind) (first : Words) (rest : List (List ℕ)) (header : one.Header) (after : List (List ℕ))
    → MayStand first → HasHeader one (words_text first ∷ rest) header after
    → (first.name ≡ one.rules.name) × (first.numbers ≡ one.rules.header_numbers header)
header_same one first rest header after stand starts =
    let head = header_first one (words_text first) rest header after starts in
    words_same first (header_words one.rules header) (words_text first) (record { stand = stand; text = refl })
    (record { stand = starts.stand; text = head })

-- a first line whose name is no kind's belongs to no kind
new_no_header : (table : List Kind) (first : Words) (rest : List (List ℕ)) → MayStand first
    → is_new first.name table ≡ true → SomeOf table (HasHeaderOf (words_text first ∷ rest)) → ⊥
new_no_header [] first rest stand test h = h
new_no_header (one ∷ others) first rest stand test (inl (header, after, starts)) =
    let name : List ℕ = one.rules.name in
    let parts = and_parts (not (bytes_eq first.name name)) (is_new first.name others) test in
    let same = header_same one first rest header after stand starts in
    both_ways (bytes_eq first.name name) (not-true (bytes_eq first.name name) parts.0)
    ((bytes_eq-Decides first.name name).1 same.0)
new_no_header (one ∷ others) first rest stand test (inr later) =
    let parts = and_parts (not (bytes_eq first.name one.rules.name)) (is_new first.name others) test in
    new_no_header others first rest stand parts.1 later

-- a line further than those that are read
further_unread : (P : List ℕ → Type 0) (rest : List (List ℕ)) (index : ℕ) (line : List ℕ)
    → slice_get rest index ≡ Some line → All P (take (suc index) rest) → P line
further_unread P [] index line got all = absurd (cc)
further_unread P (x ∷ xs) zero line got all = let same : x ≡ line = cc in rw (← same) (all 0 x (omega arith))
further_unread P (x ∷ xs) (suc index) line got all =
    further_unread P xs index line got (λ k d below. all (suc k) d (omega (arith, below)))

-- after a first line of a kind, its first unreadable line is the first
pub unreadable_here : {S O C R : Type 0} (rules : Rules S O C R) (header : O) (rest : List (List ℕ)) (index : ℕ)
    → rules.is_header header → MayStand (header_words rules header) → IsFirstUnreadable (IsLineText rules) rest index
    → IsUnreadableAt (kind rules ∷ []) (words_text (header_words rules header) ∷ rest) (index + 2)
unreadable_here rules header rest index allowed stand (before, line, got, unread) =
    let same : index + 2 ≡ suc (suc index) = omega arith in
    let less : (index + 2) - 1 ≡ suc index = omega arith in
    let text : List ℕ = words_text (header_words rules header) in
    let readable : AreReadable (kind rules ∷ []) (take (suc index) (text ∷ rest)) =
    inl (header, take index rest, record { allowed = allowed; stand = stand; cut = refl }, before) in
    let unreadable : AreReadable (kind rules ∷ []) (take (suc (suc index)) (text ∷ rest)) → ⊥ =
    elim [
      | inl (again, after, starts, read) ↦
          let cut : text ∷ take (suc index) rest ≡ words_text (header_words rules again) ∷ after = starts.cut in
          let same_after : after ≡ take (suc index) rest = cc in
          unread (further_unread (IsLineText rules) rest index line got (rw same_after at read))
      | inr none ↦ none
    ] in
    rw (less, same) (inr readable, unreadable)

-- lines that are readable by one kind are so by more
early_wider : (one : Kind) (others : List Kind) (lines : List (List ℕ)) (number : ℕ)
    → (number ≡ 1) ⊎ AreReadable (one ∷ []) lines → (number ≡ 1) ⊎ AreReadable (one ∷ others) lines
early_wider one others lines number (inl is) = inl is
early_wider one others lines number (inr (inl here)) = inr (inl here)
early_wider one others lines number (inr (inr none)) = absurd none

-- which is so too by a table of others with other names
unreadable_wider : (one : Kind) (others : List Kind) (first : Words) (rest : List (List ℕ)) (number : ℕ) → MayStand first
    → is_new first.name others ≡ true → IsUnreadableAt (one ∷ []) (words_text first ∷ rest) number
    → IsUnreadableAt (one ∷ others) (words_text first ∷ rest) number
unreadable_wider one others first rest number stand test (early, unread) = (
  early_wider one others _ number early,
  elim [
    | inl here ↦ unread (inl here)
    | inr there ↦
        new_no_header others first rest stand test
        (some-map others (IsScriptOf (take number (words_text first ∷ rest))) (HasHeaderOf (words_text first ∷ rest))
        (script_header (words_text first) rest number) there)
  ],
)

-- words that are read as no header of a kind are none of its first lines
pub no_header : {S O C R : Type 0} (rules : Rules S O C R) (first : Words) (rest : List (List ℕ)) → MayStand first
    → ((header : O) → rules.is_header header → first.name ≡ rules.name → first.numbers ≡ rules.header_numbers header
    → None ≡ Some header)
    → HasHeaderOf (words_text first ∷ rest) (kind rules) → ⊥
no_header rules first rest stand each (header, after, starts) =
    let same = header_same (kind rules) first rest header after stand starts in
    none-some header (each header starts.allowed same.0 same.1)

-- the text of the played script answers the lines of the header and the script
pub answered_here : {S O C R : Type 0} (rules : Rules S O C R) (header : O) (rest : List (List ℕ)) (script : List (Line C))
    (text : List ℕ) → rules.is_header header → MayStand (header_words rules header) → AreScript rules rest script
    → (first : S) × (last : S) × rules.starts header first × IsPlayed rules first script text last
    → SomeOf (kind rules ∷ []) (IsAnsweredBy (words_text (header_words rules header) ∷ rest) text)
answered_here rules header rest script text allowed stand read (first, last, starts, played) =
    inl (
      header,
      rest,
      record { allowed = allowed; stand = stand; cut = refl },
      script,
      first,
      last,
      read,
      starts,
      played,
    )

-- an outcome by one kind is so by a table with others of other names
pub outcome_wider : (one : Kind) (others : List Kind) (first : Words) (rest : List (List ℕ)) (made : Outcome)
    → MayStand first → is_new first.name others ≡ true → IsOutcome (one ∷ []) (words_text first ∷ rest) made
    → IsOutcome (one ∷ others) (words_text first ∷ rest) made
outcome_wider one others first rest (Answered texts) stand test (inl here) = inl here
outcome_wider one others first rest (Answered texts) stand test (inr none) = absurd none
outcome_wider one others first rest (Unreadable number) stand test unread =
    unreadable_wider one others first rest number stand test unread
outcome_wider one others first rest OutOfMemory stand test made = tt

-- an outcome by others is so by a table with one more kind that doesn't read the first line
pub outcome_later : (one : Kind) (others : List Kind) (first : List ℕ) (rest : List (List ℕ)) (made : Outcome)
    → (HasHeaderOf (first ∷ rest) one → ⊥) → IsOutcome others (first ∷ rest) made
    → IsOutcome (one ∷ others) (first ∷ rest) made
outcome_later one others first rest (Answered texts) none answered = inr answered
outcome_later one others first rest (Unreadable number) none unread = unreadable_later one others first rest number none unread
outcome_later one others first rest OutOfMemory none made = tt
