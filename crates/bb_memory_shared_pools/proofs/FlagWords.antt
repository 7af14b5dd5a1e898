-- Each bucket of a shared pool has a word of its own, which encodes its mark. Also how a step on
-- that word changes the marks.
use Rattle.atomic_table.specs.Table.{Allows, Me, State}
use Rattle.bb_memory_pool_machine.specs.PoolLogs.{IsDetachedIn, LogsAgree, PoolLog, is_taken}
use Rattle.bb_memory_pool_machine.specs.PoolMachine.{NamesMade, PoolScene}
use Rattle.bb_memory_pool_machine.specs.declared.steps.pool.Flag.{Flag}
use Rattle.bb_memory_pool_machine.specs.declared.steps.pool.Flag.TheVariants.{DetachedBy, Free, HeldBy}
use Rattle.bb_memory_shared_pools.specs.FlagWords.{HasToken, as_word, bucket_of, flag_in, flags_in, with_token, word_of, words_for, words_of}
use Rattle.bb_memory_shared_pools.specs.SharedPoolRule.{SeatView}
use Rattle.std.proofs.Common.{List, Some, [], ap, arith, eqb, get_or, length, ne_eqb, refl, replicate, set, subst, suc, sym, true, zero, ℕ, ◌++◌, ◌+◌, ◌∙◌, ◌∷◌, ◌≡◌, ◌≢◌, ◌≤◌}
use Rattle.std.proofs.lemmas.List.{get_or-append-add, get_or-map, map-set, replicate-append-replicate, set-get_or}
use Rattle.std.proofs.lemmas.Option.{get_or_from_slice_get, same_Some, slice_get-map, slice_get_within}
use Rattle.std.specs.Prelude.{map, option_map, slice_get, slice_set, ◌%◌, ◌<◌}
use prog.Atomic.{either}

-- MARKS AND FLAGS

pub free_in : (n : ℕ) → flags_in (replicate n Free) ≡ replicate n Free
free_in zero = refl
free_in (suc n) = ap (λ (all : List Flag). Free ∷ all) (free_in n)

-- the flag of a mark, and of one that becomes another
pub flag_there : (marks : List Flag) (bucket : ℕ) (mark : Flag) → slice_get marks bucket ≡ Some mark →
    slice_get (flags_in marks) bucket ≡ Some (flag_in mark)
flag_there marks bucket mark there = slice_get-map flag_in marks bucket ∙ ap (option_map flag_in) there

pub marked : (scene : PoolScene) (marks : List Flag) (logs : List PoolLog) (bucket : ℕ) (mark flag : Flag) →
    flag_in mark ≡ flag → LogsAgree scene (slice_set (flags_in marks) bucket flag) logs →
    LogsAgree scene (flags_in (slice_set marks bucket mark)) logs
marked scene marks logs bucket mark flag same agree =
    subst (λ (flags : List Flag). LogsAgree scene flags logs)
    (ap (λ (f : Flag). slice_set (flags_in marks) bucket f) (sym same) ∙ sym (map-set flag_in marks bucket mark)) agree

pub token_detached : (marks : List Flag) (bucket : ℕ) → HasToken marks bucket → IsDetachedIn (flags_in marks) bucket
token_detached marks bucket (sender, is) =
    ((4294967296 + sender) % 4294967296, flag_there marks bucket (with_token sender) is)

pub mark_taken : (mark : Flag) → is_taken mark ≡ true → is_taken (flag_in mark) ≡ true
mark_taken Free taken = taken
mark_taken (HeldBy party) taken = refl
mark_taken (DetachedBy sender) taken = refl

pub held_mark : (mark : Flag) (party : ℕ) → flag_in mark ≡ HeldBy party → mark ≡ HeldBy party
held_mark Free party same = same
held_mark (HeldBy holder) party same = same
held_mark (DetachedBy sender) party same = absurd (cc)

-- the number of a party fits into 32 bits, so the mark of a bucket with a token isn't one without a token
pub flag_named : (party : ℕ) → party < 4294967296 → flag_in (DetachedBy party) ≡ DetachedBy party
flag_named party small = let same : party % 4294967296 ≡ party = omega arith in ap DetachedBy same

pub token_named : (party : ℕ) → party < 4294967296 → flag_in (with_token party) ≡ DetachedBy party
token_named party small = let same : (4294967296 + party) % 4294967296 ≡ party = omega arith in ap DetachedBy same

pub no_token : (marks : List Flag) (bucket party : ℕ) → party < 4294967296 → slice_get marks bucket ≡ Some (DetachedBy party) →
    ¬ HasToken marks bucket
no_token marks bucket party small there (sender, is) =
    let same = ap as_word (same_Some (DetachedBy party) (with_token sender) (sym there ∙ is)) in absurd (omega arith)

-- WORDS AND MARKS

-- the value that is found in the word of a bucket with this mark
pub found_in : (words : List ℕ) (marks : List Flag) (bucket : ℕ) (mark : Flag) → words ≡ words_of marks →
    slice_get marks bucket ≡ Some mark → get_or words (word_of bucket) 0 ≡ as_word mark
found_in words marks bucket mark have at =
    ap (λ (all : List ℕ). get_or all (word_of bucket) 0) have
    ∙ get_or-append-add (replicate 16 0) (map as_word marks) bucket 0
    ∙ get_or-map as_word marks bucket Free 0 (slice_get_within marks bucket mark at)
    ∙ ap as_word (get_or_from_slice_get marks bucket mark Free at)

-- a write after the words before the flags
set-append-add : (front words : List ℕ) (i word : ℕ) → set (front ++ words) (length front + i) word ≡ front ++ set words i word
set-append-add [] words i word = let none : 0 + i ≡ i = omega arith in ap (λ (k : ℕ). set words k word) none
set-append-add (first ∷ front) words i word =
    let more : suc (length front) + i ≡ suc (length front + i) = omega arith in
    ap (λ (k : ℕ). set (first ∷ (front ++ words)) k word) more
    ∙ ap (λ (all : List ℕ). first ∷ all) (set-append-add front words i word)

-- the words after a bucket's mark has become another one
pub changed : (words : List ℕ) (marks : List Flag) (bucket : ℕ) (mark : Flag) → words ≡ words_of marks →
    set words (word_of bucket) (as_word mark) ≡ words_of (slice_set marks bucket mark)
changed words marks bucket mark have =
    ap (λ (all : List ℕ). set all (word_of bucket) (as_word mark)) have
    ∙ set-append-add (replicate 16 0) (map as_word marks) bucket (as_word mark)
    ∙ ap (λ (all : List ℕ). replicate 16 0 ++ all) (sym (map-set as_word marks bucket mark))

-- the words stay if a bucket's word is written as it was
pub made_again : (words : List ℕ) (marks : List Flag) (bucket : ℕ) (mark : Flag) → words ≡ words_of marks →
    slice_get marks bucket ≡ Some mark → set words (word_of bucket) (as_word mark) ≡ words_of marks
made_again words marks bucket mark have at =
    let again = ap (λ (f : Flag). slice_set marks bucket f) (sym (get_or_from_slice_get marks bucket mark Free at)) in
    changed words marks bucket mark have ∙ ap words_of (again ∙ set-get_or marks bucket Free)

-- words that are zero say that all buckets are free
zeros : (n : ℕ) → replicate n 0 ≡ map as_word (replicate n Free)
zeros zero = refl
zeros (suc n) = ap (λ (all : List ℕ). 0 ∷ all) (zeros n)

pub all_free : (buckets : ℕ) → replicate (words_for buckets) 0 ≡ words_of (replicate buckets Free)
all_free buckets =
    sym (replicate-append-replicate 16 buckets 0) ∙ ap (λ (all : List ℕ). replicate 16 0 ++ all) (zeros buckets)

-- WORDS

-- the word of a taken bucket isn't that of a free one
pub taken_word : (mark : Flag) → is_taken mark ≡ true → as_word mark ≢ 0
taken_word Free taken = absurd (cc)
taken_word (HeldBy party) taken = λ none. omega arith
taken_word (DetachedBy party) taken = λ none. omega arith

-- a word names its holder
pub word_names : (mark : Flag) (party : ℕ) → as_word mark ≡ as_word (HeldBy party) → mark ≡ HeldBy party
word_names Free party same = absurd (omega arith)
word_names (HeldBy holder) party same = let is : holder ≡ party = omega arith in ap HeldBy is
word_names (DetachedBy sender) party same = absurd (omega arith)

-- no two marks have the same word
pub same_word : (one other : Flag) → as_word one ≡ as_word other → one ≡ other
same_word Free Free same = refl
same_word Free (HeldBy party) same = absurd (omega arith)
same_word Free (DetachedBy party) same = absurd (omega arith)
same_word (HeldBy party) other same = sym (word_names other party (sym same))
same_word (DetachedBy sender) Free same = absurd (omega arith)
same_word (DetachedBy sender) (HeldBy party) same = absurd (omega arith)
same_word (DetachedBy sender) (DetachedBy party) same = let is : sender ≡ party = omega arith in ap DetachedBy is

pub names_within : (parties most : ℕ) (flag : Flag) → parties ≤ most → NamesMade parties flag → NamesMade most flag
names_within parties most Free at_most made = tt
names_within parties most (HeldBy party) at_most made = omega arith
names_within parties most (DetachedBy party) at_most made = omega arith

-- an exchange of free for a word
abbrev pub exchanged : ℕ → ℕ → ℕ
exchanged word found = either (eqb found 0) word found

-- such an exchange leaves the word of a taken bucket
pub exchange_leaves : (word : ℕ) (mark : Flag) → is_taken mark ≡ true → exchanged word (as_word mark) ≡ as_word mark
exchange_leaves word mark taken =
    ap (λ b. either b word (as_word mark)) (ne_eqb (as_word mark) 0 (taken_word mark taken))

-- STEPS AT THE WORD OF A BUCKET

-- the effect of such a step at the bucket is that at the bucket of its word
pub at_word : (holds : State ℕ SeatView → Type 0) (slots seat bucket word : ℕ) (me : Me ℕ SeatView) (becomes : ℕ → ℕ)
    (tells : ℕ → ℕ → Me ℕ SeatView → Type 0) → word ≡ word_of bucket →
    Allows holds slots seat me (word_of bucket) becomes (tells bucket) →
    Allows holds slots seat me word becomes (tells (bucket_of word))
at_word holds slots seat bucket word me becomes tells is allowed =
    subst (λ (b : ℕ). Allows holds slots seat me word becomes (tells b)) (omega arith)
    (subst (λ (w : ℕ). Allows holds slots seat me w becomes (tells bucket)) (sym is) allowed)
