-- The lines of an input, and the proof that it has no others.
use Rattle.scripts.specs.Words.{AreLines, EndsInText, StartsWith, ended, lines_of}
use Rattle.std.proofs.Common.{All, Bool, Contains, List, Some, [], ap, append-nil, append_assoc, arith, drop, eqb, false, inl, inr, length, length-append, refl, subst, suc, sym, take, take_all, tests, true, zero, ℕ, ◌++◌, ◌-◌, ◌<◌, ◌==◌, ◌∙◌, ◌∷◌, ◌≡◌, ◌≢◌, ◌⊎◌}
use Rattle.std.proofs.lemmas.List.{append_cancel_right, flat_map_more}
use Rattle.std.proofs.lemmas.List.Elements.{All-cons, All-contains, All-head, All-nil, All-pop, All-tail}
use Rattle.std.specs.List.{onto_first}

-- whether a byte is a line feed
abbrev feed : ℕ → Bool
feed byte = eqb byte 10

-- no byte of the line is a line feed
abbrev pub HasNoFeed : List ℕ → Type 0
HasNoFeed line = ¬ Contains line 10

-- the lines are the input, with one more line feed if it ends in text
abbrev Whole : List ℕ → List (List ℕ) → Type 0
Whole input lines = (ended lines ≡ input) ⊎ ((ended lines ≡ input ++ 10 ∷ []) × EndsInText lines)

-- the empty line has no line feed
no_feed-nil : HasNoFeed []
no_feed-nil (k, below, at) = absurd (omega (arith, below))

-- a line that is longer by another byte has no line feed
no_feed-cons : (byte : ℕ) (line : List ℕ) → byte ≢ 10 → HasNoFeed line → HasNoFeed (byte ∷ line)
no_feed-cons byte line other none (zero, below, at) = other at
no_feed-cons byte line other none (suc k, below, at) = none (k, omega (arith, below), at)

-- a text of other bytes has no line feed
no_feed-all : (line : List ℕ) → All (λ byte. byte ≢ 10) line → HasNoFeed line
no_feed-all line all has = All-contains (λ b. b ≢ 10) line 10 all has refl

-- a byte that fails the test isn't a line feed
other_byte : (byte : ℕ) → feed byte ≡ false → byte ≢ 10
other_byte byte e same = grind (arith, tests)

-- a byte that passes the test is a line feed
feed_byte : (byte : ℕ) → feed byte ≡ true → byte ≡ 10
feed_byte byte e = grind (arith, tests)

-- another byte may go onto the first line
no_feed-onto : (byte : ℕ) (lines : List (List ℕ)) → byte ≢ 10 → All HasNoFeed lines → All HasNoFeed (onto_first byte lines)
no_feed-onto byte [] other all = All-cons HasNoFeed (byte ∷ []) [] (no_feed-cons byte [] other no_feed-nil) (All-nil HasNoFeed)
no_feed-onto byte (line ∷ lines) other all =
    All-cons HasNoFeed (byte ∷ line) lines (no_feed-cons byte line other (All-head HasNoFeed line lines all))
    (All-tail HasNoFeed line lines all)

-- if the last line has a byte, it still has one when the first line grows
text-onto : (byte : ℕ) (line : List ℕ) (lines : List (List ℕ)) → EndsInText (line ∷ lines) → EndsInText ((byte ∷ line) ∷ lines)
text-onto byte line lines ([], last, same, some) =
    let none : lines ≡ [] = cc in
    ([], byte ∷ line, ap (λ rest. (byte ∷ line) ∷ rest) none, λ e. cc)
text-onto byte line lines (one ∷ front, last, same, some) =
    let rest_is : lines ≡ front ++ last ∷ [] = cc in
    ((byte ∷ line) ∷ front, last, ap (λ rest. (byte ∷ line) ∷ rest) rest_is, some)

-- no line at all is no last line
no_text : ¬ EndsInText []
no_text (front, last, same, some) = omega (arith, ap length same, length-append front (last ∷ []))

-- a byte onto the first line goes before the input
whole-onto : (byte : ℕ) (bytes : List ℕ) (lines : List (List ℕ)) → Whole bytes lines
    → Whole (byte ∷ bytes) (onto_first byte lines)
whole-onto byte bytes [] (inl e) = inr (ap (λ bs. byte ∷ (bs ++ 10 ∷ [])) e, ([], byte ∷ [], refl, λ n. cc))
whole-onto byte bytes [] (inr (e, text)) = absurd (no_text text)
whole-onto byte bytes (line ∷ lines) (inl e) = inl (ap (λ bs. byte ∷ bs) e)
whole-onto byte bytes (line ∷ lines) (inr (e, text)) = inr (ap (λ bs. byte ∷ bs) e, text-onto byte line lines text)

-- an empty line first is a line feed before the input
whole-feed : (bytes : List ℕ) (lines : List (List ℕ)) → Whole bytes lines → Whole (10 ∷ bytes) ([] ∷ lines)
whole-feed bytes lines (inl e) = inl (ap (λ bs. 10 ∷ bs) e)
whole-feed bytes lines (inr (e, (front, last, same, some))) =
    inr (ap (λ bs. 10 ∷ bs) e, ([] ∷ front, last, ap (λ ls. [] ∷ ls) same, some))

-- one byte more at the front
are_by : (is : Bool) (byte : ℕ) (bytes : List ℕ) → feed byte ≡ is → AreLines bytes (lines_of bytes)
    → AreLines (byte ∷ bytes) (lines_of (byte ∷ bytes))
are_by true byte bytes e are = rw e (record {
  no_feed = All-cons HasNoFeed [] (lines_of bytes) no_feed-nil are.no_feed;
  whole = subst (λ b. Whole (b ∷ bytes) ([] ∷ lines_of bytes)) (sym (feed_byte byte e))
      (whole-feed bytes (lines_of bytes) are.whole);
})
are_by false byte bytes e are = rw e (record {
  no_feed = no_feed-onto byte (lines_of bytes) (other_byte byte e) are.no_feed;
  whole = whole-onto byte bytes (lines_of bytes) are.whole;
})

-- the lines of an input are its lines
pub lines_are : (input : List ℕ) → AreLines input (lines_of input)
lines_are [] = record { no_feed = All-nil HasNoFeed; whole = inl refl }
lines_are (byte ∷ bytes) = are_by (feed byte) byte bytes refl (lines_are bytes)

-- the same for a byte more
line_by : (is : Bool) (byte : ℕ) (line rest : List ℕ) → feed byte ≡ is → HasNoFeed (byte ∷ line) →
    lines_of (line ++ 10 ∷ rest) ≡ line ∷ lines_of rest → lines_of (byte ∷ (line ++ 10 ∷ rest)) ≡ (byte ∷ line) ∷ lines_of rest
line_by true byte line rest e none later = absurd (none (0, omega arith, feed_byte byte e))
line_by false byte line rest e none later = rw e (ap (onto_first byte) later)

-- the rest of a line without a line feed is another one
no_feed-tail : (byte : ℕ) (line : List ℕ) → HasNoFeed (byte ∷ line) → HasNoFeed line
no_feed-tail byte line none (k, below, at) = none (suc k, omega (arith, below), at)

-- a line that ends comes first
lines_line : (line rest : List ℕ) → HasNoFeed line → lines_of (line ++ 10 ∷ rest) ≡ line ∷ lines_of rest
lines_line [] rest none = refl
lines_line (byte ∷ line) rest none =
    line_by (feed byte) byte line rest refl none (lines_line line rest (no_feed-tail byte line none))

-- a byte more onto a line that doesn't end
last_by : (is : Bool) (byte : ℕ) (line : List ℕ) → feed byte ≡ is → HasNoFeed (byte ∷ line) →
    (line ≢ [] → lines_of line ≡ line ∷ []) → lines_of (byte ∷ line) ≡ (byte ∷ line) ∷ []
last_by true byte line e none later = absurd (none (0, omega arith, feed_byte byte e))
last_by false byte [] e none later = rw e refl
last_by false byte (next ∷ line) e none later = rw e (ap (onto_first byte) (later (λ n. cc)))

-- a line that doesn't end is the only one
lines_last : (line : List ℕ) → HasNoFeed line → line ≢ [] → lines_of line ≡ line ∷ []
lines_last [] none some = absurd (some refl)
lines_last (byte ∷ line) none some = last_by (feed byte) byte line refl none (lines_last line (no_feed-tail byte line none))

-- the text before a line feed is the first line
pub lines_split : (input line rest : List ℕ) → input ≡ line ++ rest → All (λ byte. byte ≢ 10) line → StartsWith 10 rest
    → false ≡ (length rest == 0) → lines_of input ≡ line ∷ lines_of (take (length rest - 1) (drop 1 rest))
lines_split input line [] e clear start some = absurd (cc)
lines_split input line (byte ∷ rest) e clear start some =
    rw (take_all (length (byte ∷ rest) - 1) rest (omega arith))
    (ap lines_of (e ∙ ap (λ b. line ++ b ∷ rest) start) ∙ lines_line line rest (no_feed-all line clear))

-- the text before the end of the input is the last line
pub lines_whole_text : (input line rest : List ℕ) → input ≡ line ++ rest → All (λ byte. byte ≢ 10) line
    → false ≡ (length input == 0) → true ≡ (length rest == 0) → lines_of input ≡ line ∷ lines_of rest
lines_whole_text [] line rest e clear some none = absurd (cc)
lines_whole_text (byte ∷ input) line [] e clear some none =
    let same : byte ∷ input ≡ line = e ∙ append-nil line in
    ap lines_of same
    ∙ lines_last line (no_feed-all line clear) (λ empty. let nothing : byte ∷ input ≡ [] = same ∙ empty in cc)
lines_whole_text (byte ∷ input) line (next ∷ rest) e clear some none = grind (arith, tests)

-- the text after a line feed is shorter than the input
pub shorter_split : (input line rest : List ℕ) → input ≡ line ++ rest → false ≡ (length rest == 0)
    → length (take (length rest - 1) (drop 1 rest)) < length input
shorter_split input line [] e some = absurd (cc)
shorter_split input line (byte ∷ rest) e some =
    rw (take_all (length (byte ∷ rest) - 1) rest (omega arith)) (omega (arith, ap length e, length-append line (byte ∷ rest)))

-- an empty rest is shorter than the input
pub shorter_whole : (input rest : List ℕ) → false ≡ (length input == 0) → true ≡ (length rest == 0)
    → length rest < length input
shorter_whole [] rest some none = absurd (cc)
shorter_whole (byte ∷ input) [] some none = omega arith
shorter_whole (byte ∷ input) (next ∷ rest) some none = grind (arith, tests)

-- lines that end come first
lines_ended : (front : List (List ℕ)) (rest : List ℕ) → All HasNoFeed front
    → lines_of (ended front ++ rest) ≡ front ++ lines_of rest
lines_ended [] rest none = refl
lines_ended (line ∷ front) rest none =
    rw (append_assoc (line ++ 10 ∷ []) (ended front) rest, append_assoc line (10 ∷ []) (ended front ++ rest))
    (lines_line line (ended front ++ rest) (All-head HasNoFeed line front none)
    ∙ ap (λ ls. line ∷ ls) (lines_ended front rest (All-tail HasNoFeed line front none)))

-- lines that are all of the input are its lines
only_by : (input : List ℕ) (lines : List (List ℕ)) → All HasNoFeed lines → Whole input lines → lines ≡ lines_of input
only_by input lines none (inl e) =
    sym (append-nil lines) ∙ (sym (lines_ended lines [] none) ∙ ap lines_of (append-nil (ended lines) ∙ e))
only_by input lines none (inr (e, (front, last, same, some))) =
    let (before, final) = All-pop HasNoFeed lines front (Some last) same none in
    let bytes : (ended front ++ last) ++ 10 ∷ [] ≡ input ++ 10 ∷ [] =
    append_assoc (ended front) last (10 ∷ [])
    ∙ (flat_map_more (λ line. line ++ 10 ∷ []) [] front last ∙ (ap ended (sym same) ∙ e)) in
    same ∙ (ap (λ ls. front ++ ls) (sym (lines_last last final some))
    ∙ (sym (lines_ended front last before) ∙ ap lines_of (append_cancel_right (ended front ++ last) input (10 ∷ []) bytes)))

-- no other lines are
pub lines_only : (input : List ℕ) (lines : List (List ℕ)) → AreLines input lines → lines ≡ lines_of input
lines_only input lines are = only_by input lines are.no_feed are.whole
