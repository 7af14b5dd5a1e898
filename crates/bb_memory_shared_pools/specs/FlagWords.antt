-- The words of a shared pool's flags, and the mark that each word encodes.
use Rattle.bb_memory_pool_machine.specs.declared.steps.pool.Flag.{Flag}
use Rattle.bb_memory_pool_machine.specs.declared.steps.pool.Flag.TheVariants.{DetachedBy, Free, HeldBy}
use Rattle.std.specs.Prelude.{List, Some, map, replicate, slice_get, ℕ, ◌%◌, ◌*◌, ◌++◌, ◌+◌, ◌-◌, ◌/◌, ◌≡◌}

-- WORDS

-- The word of a bucket's flag. The first 16 words are no flag, and after them the flags are in the order of the buckets.
abbrev pub word_of : ℕ → ℕ
word_of bucket = 16 + bucket

-- the bucket whose flag this word is
abbrev pub bucket_of : ℕ → ℕ
bucket_of word = word - 16

-- how many words the flags of that many buckets take
abbrev pub words_for : ℕ → ℕ
words_for buckets = 16 + buckets

-- the word that encodes this mark, which names the holder, or the party that has detached the bucket
abbrev pub as_word : Flag → ℕ
as_word Free = 0
as_word (HeldBy party) = 2 * party + 1
as_word (DetachedBy party) = 2 * party + 2

-- all words of a table with these marks. The first 16, which are no flag, stay zero
abbrev pub words_of : List Flag → List ℕ
words_of marks = replicate 16 0 ++ map as_word marks

-- MARKS

-- A mark is what a bucket's word encodes: the bucket's flag and, if the bucket is detached, whether it has a token.

-- The mark of a bucket that this party detached with a token. The number in it is 2^32 more than the party's, and no party has
-- it.
abbrev pub with_token : ℕ → Flag
with_token sender = DetachedBy (4294967296 + sender)

-- the flag of a bucket with this mark
abbrev pub flag_in : Flag → Flag
flag_in Free = Free
flag_in (HeldBy party) = HeldBy party
flag_in (DetachedBy sender) = DetachedBy (sender % 4294967296)

-- the flags of buckets with these marks
abbrev pub flags_in : List Flag → List Flag
flags_in marks = map flag_in marks

-- the bucket is detached with a token, by these marks
abbrev pub HasToken : List Flag → ℕ → Type 0
HasToken marks bucket = (sender : ℕ) × (slice_get marks bucket ≡ Some (with_token sender))

-- the party that this word names, if it is the word of a bucket that was detached without a token
abbrev pub sender_in : ℕ → ℕ
sender_in word = (word - 2) / 2
