-- A set of numbers below a bound, as a flag for each number.
use Rattle.std.specs.Int.{bit_at}
use Rattle.std.specs.List.{range_with_len}
use Rattle.std.specs.Prelude.{Bool, List, Some, count_by, drop, false, if◌then◌else◌, length, map, replicate, slice_get, slice_index, slice_set, take, true, ℕ, ◌%◌, ◌*◌, ◌+◌, ◌-◌, ◌/◌, ◌<◌, ◌==◌, ◌^◌, ◌≡◌, ◌≢◌, ◌≤◌}

-- the number is in the set
abbrev pub Has : List Bool → ℕ → Type 0
Has set number = slice_get set number ≡ Some true

-- the number is below the bound, and not in the set
abbrev pub Lacks : List Bool → ℕ → Type 0
Lacks set number = slice_get set number ≡ Some false

-- every number below the bound is in the set
abbrev pub IsFull : List Bool → Type 0
IsFull set = (number : ℕ) → number < length set → Has set number

-- how many numbers are in the set
abbrev pub member_count : List Bool → ℕ
member_count set = count_by (λ held. held) set

-- a set of numbers, and the greatest number of members that it has had at one time so far
pub record NumberSet : Type 0 where
  pub numbers : List Bool
  pub most : ℕ

-- the set with these numbers, which has had at most `most` members so far
abbrev pub number_set : List Bool → ℕ → NumberSet
number_set numbers most = record { numbers = numbers; most = most }

-- the empty set below a bound, which has had no member
abbrev pub fresh_set : ℕ → NumberSet
fresh_set bound = number_set (replicate bound false) 0

-- the set has this many members, and has never had more than `most`, which is at most its bound
pub record IsTally (set : List Bool) (count most : ℕ) : Type 0 where
  pub members : count ≡ member_count set
  pub few : count ≤ most
  pub within : most ≤ length set

-- HOW MANY WORDS of 64 bits keep a set of numbers

-- how many words hold a bit for each of these numbers: their count divided by 64, rounded up
abbrev pub index_words : ℕ → ℕ
index_words numbers = (numbers + 63) / 64

-- how many words of memory a set takes: its index words, and a list with room for all of them
-- except one
abbrev pub words_with_list : ℕ → ℕ
words_with_list numbers = index_words numbers + (index_words numbers - 1)

-- THE BITS OF WORDS, as a set of numbers below a bound

-- a number's bit is set; bits are counted from the lowest one of the first word
abbrev pub has_bit : List ℕ → ℕ → Bool
has_bit words number = bit_at (slice_index words (number / 64)) (number % 64) == 1

-- the bit of this number becomes `flag`, and no other bit changes
pub record SetsBit (words : List ℕ) (number : ℕ) (flag : Bool) (new : List ℕ) : Type 0 where
  pub len : length new ≡ length words
  pub set : has_bit new number ≡ flag
  pub others : (other : ℕ) → other ≢ number → has_bit new other ≡ has_bit words other

-- the set that the words hold: for each number below the bound, whether its bit is set
unfoldable pub numbers_of : ℕ → List ℕ → List Bool
numbers_of bound words = map (has_bit words) (range_with_len 0 bound)

-- the set without the number that was freed last
abbrev pub less_last_freed : List Bool → ℕ → List Bool
less_last_freed numbers last_freed = slice_set numbers last_freed false

-- The number that was freed last still has its bit set. If there is no such number, `last_freed` is
-- 2 ^ 64 - 1, which is above each bound.
abbrev pub IsLastFreed : List Bool → ℕ → Type 0
IsLastFreed numbers last_freed = last_freed ≢ 2 ^ 64 - 1 → Has numbers last_freed

-- the words are exactly those that the bound needs, and their bits from the bound on are set
pub record AreIndexWords (bound : ℕ) (words : List ℕ) : Type 0 where
  pub count : length words ≡ index_words bound
  pub past : (number : ℕ) → bound ≤ number → number < 64 * length words → has_bit words number ≡ true

-- an array in two parts: words, and after them a list of some of their numbers
pub record Slots : Type 0 where
  pub words : List ℕ
  pub listed : List ℕ

-- the array whose first `count` slots are words, and whose other slots are the list
abbrev pub slots_of : ℕ → List ℕ → Slots
slots_of count slots = record { words = take count slots; listed = drop count slots }

-- no word changes, except perhaps the one at `at`
pub record PutsAt (words : List ℕ) (at : ℕ) (new : List ℕ) : Type 0 where
  pub len : length new ≡ length words
  pub others : (other : ℕ) → other ≢ at → slice_index new other ≡ slice_index words other

-- the number of the k-th word that isn't full: an entry of the list, or the current word if it is
-- the last one
abbrev pub open_word : List ℕ → ℕ → ℕ → ℕ → ℕ
open_word listed current open_count k = if k + 1 == open_count then current else slice_index listed k

-- the word isn't full
abbrev pub IsOpen : List ℕ → ℕ → Type 0
IsOpen words at = slice_index words at ≢ 2 ^ 64 - 1

-- the first `open_count` names are exactly the numbers below the bound that are open, each once
pub record IsListing (bound : ℕ) (Open : ℕ → Type 0) (named : ℕ → ℕ) (open_count : ℕ) : Type 0 where
  pub fits : open_count ≤ bound
  pub below : (k : ℕ) → k < open_count → named k < bound
  pub each : (k : ℕ) → k < open_count → Open (named k)
  pub once : (i : ℕ) (k : ℕ) → i < k → k < open_count → named i ≢ named k
  pub all : (at : ℕ) → at < bound → Open at → (k : ℕ) × (k < open_count) × (named k ≡ at)

-- The words hold a set. Each word that isn't full is in the list or is the current one.
pub record IsWordSet (bound : ℕ) (words : List ℕ) (listed : List ℕ) (current : ℕ) (open_count : ℕ) : Type 0 where
  pub are : AreIndexWords bound words
  pub room : length listed ≡ length words - 1
  pub listing : IsListing (length words) (IsOpen words) (open_word listed current open_count) open_count

-- A set of numbers below a bound, as flags. The first `left` entries of the array `free` are
-- exactly the numbers that aren't in the set, each once.
pub record AreFlags (room : ℕ) (bound : ℕ) (held : List Bool) (free : List ℕ) (left : ℕ) : Type 0 where
  pub len : length held ≡ room
  pub free_len : length free ≡ room
  pub fits : bound ≤ room
  pub listing : IsListing bound (Lacks held) (slice_index free) left
