-- The lines of a script, as far as they are read.
use Rattle.scripts.proofs.LineWords.{words_same}
use Rattle.scripts.specs.Scripts.{IsFirstUnreadable, IsLine, IsLineText, Line, Rules, line_text}
use Rattle.scripts.specs.Words.{AreWords, Words}
use Rattle.scripts.specs.declared.driving.Line.TheVariants.{Command, Show}
use Rattle.std.proofs.Common.{All, IsTrue, List, None, Some, [], ap, codes, length, map, refl, subst, sym, take, ℕ, ◌++◌, ◌∙◌, ◌∷◌, ◌≡◌}
use Rattle.std.proofs.lemmas.List.{append_assoc, length-map, map-append, take_at}
use Rattle.std.proofs.lemmas.List.Elements.{All-map, All-weaker}
use Rattle.std.proofs.lemmas.Option.{none-some}
use Rattle.std.specs.Prelude.{slice_get}

-- the items after a list
slice_get_at : {X : Type 0} (xs : List X) (y : X) (ys : List X) → slice_get (xs ++ y ∷ ys) (length xs) ≡ Some y
slice_get_at [] y ys = refl
slice_get_at (x ∷ xs) y ys = slice_get_at xs y ys

-- after lines that are read, one that isn't is the first
pub first_unreadable : {S O C R : Type 0} (rules : Rules S O C R) (lines after : List (List ℕ)) (before : List (Line C))
    (line : List ℕ) (index : ℕ) → lines ≡ map (line_text rules) before ++ line ∷ after → All (IsLine rules) before
    → index ≡ length before → ¬ IsLineText rules line → IsFirstUnreadable (IsLineText rules) lines index
first_unreadable rules lines after before line index same all counted unreadable =
    let front : List (List ℕ) = map (line_text rules) before in
    let at : length front ≡ index = length-map before (line_text rules) ∙ sym counted in
    let read : All (IsLineText rules) front =
    All-map (IsLineText rules) (line_text rules) before
    (All-weaker (IsLine rules) (λ value. IsLineText rules (line_text rules value)) (λ value allowed. (value, allowed, refl))
    before all) in
    let taken : take index lines ≡ front = ap (take index) same ∙ take_at front (line ∷ after) index at in
    let got : slice_get lines index ≡ Some line =
    ap (slice_get lines) (sym at) ∙ (ap (λ ls. slice_get ls (length front)) same ∙ slice_get_at front line after) in
    (subst (All (IsLineText rules)) (sym taken) read, line, got, unreadable)

-- one line more is read
pub lines_more : {A : Type 0} (text_of : A → List ℕ) (before grown : List A) (value : A) (lines rest : List (List ℕ))
    (line : List ℕ) →
    lines ≡ map text_of before ++ line ∷ rest → line ≡ text_of value → grown ≡ before ++ value ∷ [] → lines
    ≡ map text_of grown ++ rest
lines_more text_of before grown value lines rest line same text longer =
    rw longer
    (rw (map-append text_of before (value ∷ []), append_assoc (map text_of before) (text_of value ∷ []) rest, ← text) same)

-- words that are read as no command are no line, if the line isn't a show
pub unread_line : {S O C R : Type 0} (rules : Rules S O C R) (one : Words) (text : List ℕ) → AreWords one text
    → ((command : C) → rules.is_command command → one.name ≡ (rules.command_words command).name
    → one.numbers ≡ (rules.command_words command).numbers → None ≡ Some command)
    → (IsTrue rules.can_show → text ≡ codes "show" → ⊥) → IsLineText rules text → ⊥
unread_line rules one text are each no_show (Command command, (is, stand), same) =
    let parts = words_same one (rules.command_words command) text are (record { stand = stand; text = same }) in
    none-some command (each command is parts.0 parts.1)
unread_line rules one text are each no_show (Show, can, same) = no_show can same
