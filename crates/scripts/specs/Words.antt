-- The lines of an input, and the words of a line: a name, and numbers in decimal, with a space
-- between each two.
use Rattle.bb_memory_traits.specs.Chunk.{Region, region_at}
pub use Rattle.scripts.specs.declared.words.Bounds.{Bounds}
use Rattle.scripts.specs.declared.words.Labelled.{Labelled}
pub use Rattle.scripts.specs.declared.words.Numbers.{Numbers}
use Rattle.scripts.specs.declared.words.Numbers.TheVariants.{Five, Four, One, Three, Two, Zero}
use Rattle.scripts.specs.declared.words.Text.{Text}
use Rattle.scripts.specs.declared.words.Text.TheVariants.{Line, Name, Refused}
use Rattle.std.specs.Fmt.{decimal}
use Rattle.std.specs.List.{flat_map, onto_first}
use Rattle.std.specs.Prelude.{All, Contains, List, [], codes, if◌then◌else◌, ℕ, ◌++◌, ◌<◌, ◌==◌, ◌^◌, ◌∷◌, ◌≡◌, ◌≢◌, ◌⊎◌}

-- the lines of an input: a line feed ends each one, and may be missing after the last
abbrev pub lines_of : List ℕ → List (List ℕ)
lines_of [] = []
lines_of (byte ∷ bytes) = if byte == 10 then [] ∷ lines_of bytes else onto_first byte (lines_of bytes)

-- the lines, with a line feed after each
abbrev pub ended : List (List ℕ) → List ℕ
ended lines = flat_map (λ line. line ++ 10 ∷ []) lines

-- the last line isn't empty
abbrev pub EndsInText : List (List ℕ) → Type 0
EndsInText lines = (front : List (List ℕ)) × (last : List ℕ) × (lines ≡ front ++ last ∷ []) × (last ≢ [])

-- No line has a line feed. The lines, with a line feed after each, are the input; the last line
-- feed may be missing if the last line isn't empty.
pub record AreLines (input : List ℕ) (lines : List (List ℕ)) : Type 0 where
  pub no_feed : All (λ line. ¬ Contains line 10) lines
  pub whole : (ended lines ≡ input) ⊎ ((ended lines ≡ input ++ 10 ∷ []) × EndsInText lines)

-- the words of a line: a name, and numbers
pub record Words : Type 0 where
  pub name : List ℕ
  pub numbers : Numbers

-- the words of this name and these numbers
abbrev pub words : List ℕ → Numbers → Words
words name numbers = record { name = name; numbers = numbers }

-- the numbers as a list
abbrev pub list_of : Numbers → List ℕ
list_of Zero = []
list_of (One a) = a ∷ []
list_of (Two a b) = a ∷ b ∷ []
list_of (Three a b c) = a ∷ b ∷ c ∷ []
list_of (Four a b c d) = a ∷ b ∷ c ∷ d ∷ []
list_of (Five a b c d e) = a ∷ b ∷ c ∷ d ∷ e ∷ []

-- the numbers in decimal, with a space before each
abbrev pub numbers_text : List ℕ → List ℕ
numbers_text [] = []
numbers_text (n ∷ numbers) = 32 ∷ (decimal n ++ numbers_text numbers)

-- the text `NAME NUMBER ..`
abbrev pub words_text : Words → List ℕ
words_text words = words.name ++ numbers_text (list_of words.numbers)

-- the text `NAME NUMBER ..`, and then another text
abbrev pub words_then : List ℕ → Numbers → List ℕ → List ℕ
words_then name numbers text = words_text (words name numbers) ++ text

-- a line that is only a name
abbrev pub name_line : List ℕ → List ℕ
name_line name = words_then name Zero (codes "\n")

-- each label with its figure after it, and then another text
abbrev pub labelled_then : List Labelled → List ℕ → List ℕ
labelled_then [] text = text
labelled_then (figure ∷ figures) text = figure.0.now ++ (decimal figure.1 ++ labelled_then figures text)

-- the line about the first unreadable line
abbrev pub unreadable_text : ℕ → List ℕ
unreadable_text number = words_then (codes "line") (One number) (codes ": refused\n")

-- the bytes of a text: a name, a name with numbers, or those with a refusal, each as one line
abbrev pub text_bytes : Text → List ℕ
text_bytes (Name name) = name_line name.now
text_bytes (Line name numbers) = words_then name.now numbers (codes "\n")
text_bytes (Refused name numbers) = words_then name.now numbers (codes " refused OutOfMemory\n")

-- each of these numbers fits into 64 bits
abbrev pub AreNumbers : List ℕ → Type 0
AreNumbers [] = Unit {0}
AreNumbers (n ∷ numbers) = (n < 2 ^ 64) × AreNumbers numbers

-- the words may be in a line: the name has no space, and the numbers fit into 64 bits
pub record MayStand (words : Words) : Type 0 where
  pub name : All (λ byte. byte ≢ 32) words.name
  pub numbers : AreNumbers (list_of words.numbers)

-- the line consists of these words
pub record AreWords (words : Words) (line : List ℕ) : Type 0 where
  pub stand : MayStand words
  pub text : line ≡ words_text words

-- the first byte of the text, if there is one, is this
abbrev pub StartsWith : ℕ → List ℕ → Type 0
StartsWith byte [] = Unit {0}
StartsWith byte (first ∷ text) = first ≡ byte

-- the number of a party: a script of steps has 64 parties
abbrev pub IsParty : ℕ → Type 0
IsParty party = party < 64

-- the region of these bounds
abbrev pub region_of : Bounds → Region
region_of bounds = region_at bounds.start bounds.size

-- the numbers that a line has for these bounds
abbrev pub bounds_numbers : Bounds → Numbers
bounds_numbers bounds = Two bounds.start bounds.size
