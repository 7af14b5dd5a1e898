-- The words that aren't full, the current one and the listed ones: after a taking and after a
-- release.
use Rattle.bb_memory_index_set.proofs.LastFreed.{given, word_count}
use Rattle.bb_memory_index_set.proofs.Listings.{filled, opened, still}
use Rattle.bb_memory_index_set.proofs.LowestBits.{taken}
use Rattle.bb_memory_index_set.proofs.NumberWords.{full_words, has_word}
use Rattle.bb_memory_index_set.specs.IndexSets.{AreIndexWords, IsFull, IsListing, IsOpen, IsWordSet, Lacks, PutsAt, index_words, numbers_of, open_word}
use Rattle.std.proofs.Common.{List, ap, arith, eq-eqb, get_or, get_or-set_other, get_or-set_same, if◌then◌else◌, inl, inr, length, length-set, set, sym, true, w64, ℕ, ◌*◌, ◌+◌, ◌-◌, ◌<◌, ◌^◌, ◌∙◌, ◌≡◌, ◌≢◌, ◌≤◌}
use Rattle.std.proofs.lemmas.Bool.{cases_eq, ne_eqb}
use Rattle.std.proofs.lemmas.Grind.{common_steps}
use Rattle.std.specs.Int.{trailing_ones}
use Rattle.std.specs.Prelude.{bit_or}

-- THE WORD IN HAND ON TOP OF THE LIST

-- the last of the open words is the current one
last_open_word : (listed : List ℕ) (current open_count k : ℕ) → k + 1 ≡ open_count →
    open_word listed current open_count k ≡ current
last_open_word listed current open_count k is = ap (λ b. if b then current else get_or listed k 0) (eq-eqb (k + 1) open_count is)

-- the others are listed
under_word : (listed : List ℕ) (current open_count k : ℕ) → k + 1 ≢ open_count →
    open_word listed current open_count k ≡ get_or listed k 0
under_word listed current open_count k other =
    ap (λ b. if b then current else get_or listed k 0) (ne_eqb (k + 1) open_count other)

-- if none is open, every number is in the set
pub none_open : (bound : ℕ) (words listed : List ℕ) (current open_count : ℕ) → IsWordSet bound words listed current open_count →
    open_count ≡ 0 →
    IsFull (numbers_of bound words)
none_open bound words listed current open_count is none = grind (arith, full_words)

-- otherwise the current word is open
pub current_open : (words listed : List ℕ) (current open_count : ℕ) →
    IsListing (length words) (IsOpen words) (open_word listed current open_count) open_count → 0 < open_count →
    (current < length words) × (get_or words current 0 ≢ 2 ^ 64 - 1)
current_open words listed current open_count is some =
    let last = last_open_word listed current open_count (open_count - 1) (omega (arith, some)) in (
      omega (arith, is.below (open_count - 1) (omega (arith, some)), last),
      λ full. is.each (open_count - 1) (omega (arith, some)) (ap (λ x. get_or words x 0) last ∙ full),
    )

-- then a number of that word isn't in the set, and is taken by its bit
pub current_taken : (bound : ℕ) (words listed : List ℕ) (current open_count word : ℕ) →
    IsWordSet bound words listed current open_count → 0 < open_count →
    word ≡ get_or words current 0 → word < 2 ^ 64 →
    let number = current * 64 + trailing_ones w64 word in
    let new = set words current (bit_or word (word + 1)) in
    Lacks (numbers_of bound words) number × AreIndexWords bound new
    × (numbers_of bound new ≡ set (numbers_of bound words) number true)
current_taken bound words listed current open_count word is some read low =
    let it = current_open words listed current open_count is.listing some in
    let not_full : word ≢ 2 ^ 64 - 1 = λ full. it.1 (sym read ∙ full) in
    taken bound words current word is.are it.0 read (omega (arith, low, not_full))

-- the lemmas that the search for the proof of a taking uses
pub ruleset of_a_taking = (given, word_count, has_word, current_open)

-- the words beside the changed one are open or full as before
stay_open : (words new : List ℕ) (at : ℕ) → PutsAt words at new → (other : ℕ) → other ≢ at →
    (IsOpen words other → IsOpen new other) × (IsOpen new other → IsOpen words other)
stay_open words new at puts other apart =
    let same = puts.others other apart in (λ clear full. clear (sym same ∙ full), λ clear full. clear (same ∙ full))

-- one word replaced by another
put_word : (words : List ℕ) (at word : ℕ) → PutsAt words at (set words at word)
put_word words at word =
    record { len = length-set words at word; others = λ other apart. get_or-set_other words at other word 0 apart }

-- a taking from the current word, which isn't full yet
pub set_left : (bound : ℕ) (words listed : List ℕ) (current open_count left : ℕ) →
    IsWordSet bound words listed current open_count →
    AreIndexWords bound (set words current left) → 0 < open_count → left ≢ 2 ^ 64 - 1 →
    IsWordSet bound (set words current left) listed current open_count
set_left bound words listed current open_count left is are some not =
    let it = current_open words listed current open_count is.listing some in
    let named = open_word listed current open_count in
    let puts = put_word words current left in
    record {
      are = are;
      room = omega (arith, is.room, puts.len);
      listing = rw puts.len (still (length words) (IsOpen words) (IsOpen (set words current left)) named named open_count current
          is.listing
          (stay_open words (set words current left) current puts) it.1
          (λ full. not (sym (get_or-set_same words current left 0 it.0) ∙ full)));
    }

-- a taking that fills the word: the word that is listed last is current, if one is listed
pub set_filled : (bound : ℕ) (words listed : List ℕ) (current open_count left next : ℕ) →
    IsWordSet bound words listed current open_count →
    AreIndexWords bound (set words current left) → 0 < open_count → left ≡ 2 ^ 64 - 1 →
    (0 < open_count - 1 → next ≡ get_or listed (open_count - 1 - 1) 0) →
    IsWordSet bound (set words current left) listed next (open_count - 1)
set_filled bound words listed current open_count left next is are some full last_listed =
    let listing = is.listing in
    let named = open_word listed current open_count in
    let puts = put_word words current left in
    let within = (current_open words listed current open_count listing some).0 in
    record {
      are = are;
      room = omega (arith, is.room, puts.len);
      listing = rw puts.len (filled (length words) (IsOpen words) (IsOpen (set words current left)) named
          (open_word listed next (open_count - 1)) open_count current listing
          (stay_open words (set words current left) current puts) some
          (last_open_word listed current open_count (open_count - 1) (omega (arith, some)))
          (λ clear. clear (get_or-set_same words current left 0 within ∙ full))
          (λ k h.
          let under = under_word listed current open_count k (omega (arith, h)) in
          elim (cases_eq (k + 1) (open_count - 1)) [
            | inl e ↦
                let place : open_count - 1 - 1 ≡ k = omega (arith, e) in
                last_open_word listed next (open_count - 1) k e ∙ last_listed (omega (arith, e))
                ∙ ap (λ x. get_or listed x 0) place
                ∙ sym under
            | inr other ↦ under_word listed next (open_count - 1) k other ∙ sym under
          ]));
    }

-- the word at this place was full, and a release has opened it
pub record Opens (bound : ℕ) (words new : List ℕ) (at : ℕ) : Type 0 where
  pub are : AreIndexWords bound new
  pub puts : PutsAt words at new
  pub within : at < length words
  pub full : get_or words at 0 ≡ 2 ^ 64 - 1
  pub not_full : get_or new at 0 ≢ 2 ^ 64 - 1

-- the opened word is current, and the one that was current is listed
pub set_opened : (bound : ℕ) (words listed new named : List ℕ) (current open_count at : ℕ) →
    IsWordSet bound words listed current open_count → Opens bound words new at → length named ≡ length listed →
    ((k : ℕ) → k < open_count → get_or named k 0 ≡ open_word listed current open_count k) →
    IsWordSet bound new named at (open_count + 1)
set_opened bound words listed new named current open_count at is opens len name = record {
  are = opens.are;
  room = omega (arith, len, is.room, opens.puts.len);
  listing = rw opens.puts.len (opened (length words) (IsOpen words) (IsOpen new) (open_word listed current open_count)
      (open_word named at (open_count + 1)) open_count at is.listing (stay_open words new at opens.puts) opens.within
      (λ clear. clear opens.full)
      opens.not_full
      (last_open_word named at (open_count + 1) open_count (omega arith))
      (λ k h. under_word named at (open_count + 1) k (omega (arith, h)) ∙ name k h));
}

-- the list with the current word at its end
pub named_current : (listed : List ℕ) (current open_count k : ℕ) → k < open_count → open_count ≤ length listed →
    get_or (set listed (open_count - 1) current) k 0 ≡ open_word listed current open_count k
named_current listed current open_count k h room = grind (arith, common_steps)

-- a release of a number whose word wasn't full, and is named already
pub set_still : (bound : ℕ) (words listed new left : List ℕ) (current open_count at : ℕ) →
    IsWordSet bound words listed current open_count →
    AreIndexWords bound new → PutsAt words at new → IsOpen words at → IsOpen new at → left ≡ listed →
    IsWordSet bound new left current open_count
set_still bound words listed new left current open_count at is are puts was_open not_full same =
    let named = open_word listed current open_count in
    record {
      are = are;
      room = ap length same ∙ omega (arith, is.room, puts.len);
      listing = rw (same, puts.len) (still (length words) (IsOpen words) (IsOpen new) named named open_count at is.listing
          (stay_open words new at puts) was_open not_full);
    }

-- fresh words, all of them open: the first is current, and the others listed, the second one last
pub fresh_set : (bound count : ℕ) (words zero listed : List ℕ) → words ≡ zero → count ≡ index_words bound →
    AreIndexWords bound zero →
    ((at : ℕ) → at < length zero → get_or zero at 0 ≢ 2 ^ 64 - 1) → length listed ≡ count - 1 →
    ((j : ℕ) → j + 1 < count → get_or listed j 0 ≡ count - 1 - j) → IsWordSet bound words listed 0 count
fresh_set bound count words zero listed same is are none room named =
    let len : length zero ≡ count = omega (arith, are.count) in
    let at : (k : ℕ) → k < count → open_word listed 0 count k ≡ count - 1 - k = λ k h. elim (cases_eq (k + 1) count) [
      | inl e ↦ last_open_word listed 0 count k e ∙ omega (arith, e)
      | inr other ↦ under_word listed 0 count k other ∙ named k (omega (arith, h, other))
    ] in
    rw same (record {
      are = are;
      room = omega (arith, room, len);
      listing = record {
        fits = omega (arith, len);
        below = λ k h. omega (arith, at k h, len, h);
        each = λ k h. none (open_word listed 0 count k) (omega (arith, at k h, len, h));
        once = λ i k before h e. absurd (omega (arith, at i (omega (arith, before, h)), at k h, e, before, h));
        all = λ a within not. (
          count - 1 - a,
          omega (arith, len, within),
          at (count - 1 - a) (omega (arith, len, within)) ∙ omega (arith, len, within),
        );
      };
    })
