-- Promises of the calls of a handle. `old` and `new` are what the handle holds before and after the call, which is `None` if it
-- is empty. `made` and `after` are the value that it holds, before and after the call. `told` is C's answer.
use Rattle.bb_memory_c_calls.specs.Answers.{already_initialized, answer_of, figure_of, invalid_argument, invalid_layout, malloc_refused, no_bucket, no_figure, no_party, not_a_bucket, not_held, ok, other_pool, refused, uninitialized}
use Rattle.bb_memory_c_calls.specs.declared.answer.Answer.{Answer}
use Rattle.bb_memory_c_calls.specs.declared.answer.Figure.{Figure}
use Rattle.bb_memory_traits.specs.Chunk.{Chunk, Region}
use Rattle.bb_memory_traits.specs.Geometry.{IsPlaceOfBucket, MayBeCut}
use Rattle.bb_memory_traits.specs.PoolObject.{HasBucket, PoolGeometry, bucket_place}
use Rattle.bb_memory_traits.specs.declared.allocator.AllocationError.{AllocationError}
use Rattle.bb_memory_traits.specs.declared.allocator.AllocationError.TheVariants.{OutOfMemory}
use Rattle.bb_memory_traits.specs.declared.layout.Layout.{Layout}
use Rattle.std.specs.Align.{IsLayout}
use Rattle.std.specs.Prelude.{Err, IfErr, IfOk, IfSome, List, None, Ok, OnErr, Option, Result, Some, [], drop, length, slice_get, take, ℕ, ◌++◌, ◌<◌, ◌↔◌, ◌∷◌, ◌≡◌, ◌≢◌, ◌≤◌, ◌⊎◌}

-- LAYOUTS of two numbers that C passes

-- the layout has this size and this alignment
abbrev pub IsOf : ℕ → ℕ → Layout → Type 0
IsOf size align layout = (layout.size ≡ size) × (layout.align ≡ align)

-- `size` and `align` make a layout, and `may` fails for it
abbrev pub FailsOf : ℕ → ℕ → (Layout → Type 0) → Type 0
FailsOf size align may = (bucket : Layout) × IsOf size align bucket × (¬ may bucket)

-- `size` and `align` make a layout for which `may` holds, and `room` fails for it
abbrev pub LacksRoomOf : ℕ → ℕ → (Layout → Type 0) → (Layout → Type 0) → Type 0
LacksRoomOf size align may room = (bucket : Layout) × IsOf size align bucket × may bucket × (¬ room bucket)

-- the region has room for a bucket of this layout
abbrev pub HasRoom : Region → Layout → Type 0
HasRoom region bucket = HasBucket region bucket 0

-- there is at least one party, and the region may be cut into buckets of this layout
abbrev pub MayBeShared : Region → ℕ → Layout → Type 0
MayBeShared region parties bucket = (1 ≤ parties) × MayBeCut region bucket

-- The layout is that of `size` and `align`. The region may be cut into its buckets for these
-- parties, and has room for one.
pub record IsCuttable (size align : ℕ) (region : Region) (parties : ℕ) (bucket : Layout) : Type 0 where
  pub layout : IsOf size align bucket
  pub may : MayBeShared region parties bucket
  pub room : HasRoom region bucket

-- a shared value, and the parties that haven't joined; the last one joins next
pub record Parties (S P : Type 0) : Type 0 where
  pub shared : S
  pub parties : List P

-- how many parties haven't joined
abbrev pub count_unjoined : {S P : Type 0} → Parties S P → ℕ
count_unjoined all = length all.parties

-- the shared value with one more party that hasn't joined, after the others
abbrev pub with_party : {S P : Type 0} → Parties S P → P → Parties S P
with_party all party = record { shared = all.shared; parties = all.parties ++ party ∷ [] }

-- a party is of this shared value, and one of its `count` parties has joined
pub record IsOneOf {S P : Type 0} (all : Parties S P) (its : S) (count : ℕ) : Type 0 where
  pub theirs : its ≡ all.shared
  pub out : count_unjoined all < count

-- two shared values that begin at the same place are the same
abbrev pub AreKnown : {S : Type 0} → (S → ℕ) → S → S → Type 0
AreKnown start one other = start one ≡ start other → one ≡ other

-- HANDLES

-- If the handle holds a value, `tells` holds for the value before and after the call. If the handle
-- is empty, `refused_so` holds, and the handle stays empty.
pub record Answers {X : Type 0} (old new : Option X) (refused_so : Type 0) (tells : X → X → Type 0) : Type 0 where
  pub made : IfSome old (λ made. (after : X) × (new ≡ Some after) × tells made after)
  pub empty : old ≡ None → refused_so × (new ≡ old)

-- FIGURES

-- C's struct is filled with figures that `may` allows. If the handle is empty, C gets
-- BB_UNINITIALIZED, and the struct doesn't change.
abbrev pub AnswersInfo : {X I : Type 0} → Option X → Option X → I → I → ℕ → (X → I → X → Type 0) → Type 0
AnswersInfo old new before info code may =
    Answers old new ((code ≡ uninitialized) × (info ≡ before)) (λ made after. (code ≡ ok) × may made info after)

-- C gets 1 if `so` holds, and otherwise 0
pub record Tells (so : Type 0) (told : Figure) : Type 0 where
  pub yes : so → told ≡ figure_of 1
  pub no : ¬ so → told ≡ figure_of 0

-- C gets 1 if `is` holds for the value, and otherwise 0; the value doesn't change
abbrev pub AnswersWhether : {X : Type 0} → Option X → Option X → Figure → (X → Type 0) → Type 0
AnswersWhether old new told is =
    Answers old new (told ≡ no_figure uninitialized) (λ made after. Tells (is made) told × (after ≡ made))

-- C gets the place of the bucket of this number, or BB_NOT_A_BUCKET if the pool has no bucket of this number
pub record TellsPlaceOf (geometry : PoolGeometry) (number : ℕ) (told : Figure) : Type 0 where
  pub there : number < geometry.buckets → told ≡ figure_of (bucket_place geometry number)
  pub none : geometry.buckets ≤ number → told ≡ no_figure not_a_bucket

-- C requests the place of a bucket by its number; the value doesn't change
abbrev pub AnswersPlace : {X : Type 0} → Option X → Option X → Figure → ℕ → (X → PoolGeometry) → Type 0
AnswersPlace old new told number geometry =
    Answers old new (told ≡ no_figure uninitialized) (λ made after. TellsPlaceOf (geometry made) number told × (after ≡ made))

-- C gets the number of the bucket at this place, or BB_NOT_A_BUCKET if no bucket begins there
pub record TellsNumberOf (geometry : PoolGeometry) (place : ℕ) (told : Figure) : Type 0 where
  pub there : (number : ℕ) → number < geometry.buckets → place ≡ bucket_place geometry number → told ≡ figure_of number
  pub none : ¬ IsPlaceOfBucket geometry place → told ≡ no_figure not_a_bucket

-- C requests the number of a bucket by its place; the value doesn't change
abbrev pub AnswersNumber : {X : Type 0} → Option X → Option X → Figure → ℕ → (X → PoolGeometry) → Type 0
AnswersNumber old new told place geometry =
    Answers old new (told ≡ no_figure uninitialized) (λ made after. TellsNumberOf (geometry made) place told × (after ≡ made))

-- REQUESTS AND RETURNS

-- If `size` and `align` make a layout, C gets an answer that `may` allows for it. Otherwise C gets
-- BB_INVALID_LAYOUT, and nothing changes.
pub record TellsRequest {X : Type 0} (made after : X) (size align : ℕ) (told : Answer)
    (may : X → Layout → Result Chunk AllocationError → X → Type 0) : Type 0 where
  pub answered : (layout : Layout) → IsOf size align layout
      → (answer : Result Chunk AllocationError) × (told ≡ answer_of answer) × may made layout answer after
  pub no_layout : ¬ IsLayout size align → (told ≡ refused invalid_layout) × (after ≡ made)

-- a request for `size` bytes at a multiple of `align`
abbrev pub AnswersRequest : {X : Type 0} → Option X → Option X → ℕ → ℕ → Answer
    → (X → Layout → Result Chunk AllocationError → X → Type 0) → Type 0
AnswersRequest old new size align told may =
    Answers old new (told ≡ refused uninitialized) (λ made after. TellsRequest made after size align told may)

-- C gets a whole bucket, or BB_OUT_OF_MEMORY, as `may` allows.
pub record TellsTake {X : Type 0} (made after : X) (told : Answer) (may : X → Result Chunk AllocationError → X → Type 0)
    : Type 0 where
  pub answer : Result Chunk AllocationError
  pub answered : told ≡ answer_of answer
  pub taken : may made answer after
  pub refused : IfErr answer (λ error. error ≡ OutOfMemory)

-- a request for a whole bucket
abbrev pub AnswersTake : {X : Type 0} → Option X → Option X → Answer → (X → Result Chunk AllocationError → X → Type 0) → Type 0
AnswersTake old new told may = Answers old new (told ≡ refused uninitialized) (λ made after. TellsTake made after told may)

-- If a chunk is held at the place, it is given back and `gone` holds. Otherwise C gets BB_NOT_HELD,
-- and `stays` holds.
pub record TellsReturn (held gone stays : Type 0) (code : ℕ) : Type 0 where
  pub freed : held → (code ≡ ok) × gone
  pub nothing : ¬ held → (code ≡ not_held) × stays

-- the return of the chunk at a place; if none is held there, nothing changes
abbrev pub AnswersReturn : {X : Type 0} → Option X → Option X → ℕ → (X → Type 0) → (X → X → Type 0) → Type 0
AnswersReturn old new code holds frees =
    Answers old new (code ≡ uninitialized) (λ made after. TellsReturn (holds made) (frees made after) (after ≡ made) code)

-- MANY AT ONCE: as that many calls

-- `step` is made at each of these places, one after another
abbrev pub AtEach : {X : Type 0} → (X → ℕ → X → Type 0) → X → List ℕ → X → Type 0
AtEach step made [] after = after ≡ made
AtEach {X = X} step made (place ∷ places) after = (next : X) × step made place next × AtEach step next places after

-- a whole bucket is taken, and begins at this place
abbrev pub TakesAt : {X : Type 0} → (X → Result Chunk AllocationError → X → Type 0) → X → ℕ → X → Type 0
TakesAt may made place after = (chunk : Chunk) × (place ≡ chunk.place) × may made (Ok chunk) after

-- Whole buckets are taken, one after another, and their places are in the first `count` slots. If
-- slots are left over, the next taking was refused.
pub record TakesMany {X : Type 0} (made after : X) (before slots : List ℕ) (count : ℕ)
    (may : X → Result Chunk AllocationError → X → Type 0) : Type 0 where
  pub last : X
  pub taken : AtEach (TakesAt may) made (take count slots) last
  pub at_most : count ≤ length before
  pub others : drop count slots ≡ drop count before
  pub all : count ≡ length before → after ≡ last
  pub refused : count < length before → may last (Err OutOfMemory) after

-- requests for whole buckets, until each slot has a place or one is refused; C gets how many were
-- taken
abbrev pub AnswersTakings : {X : Type 0} → Option X → Option X → List ℕ → List ℕ → Figure
    → (X → Result Chunk AllocationError → X → Type 0) → Type 0
AnswersTakings old new before slots told may = Answers old new ((told ≡ no_figure uninitialized) × (slots ≡ before))
    (λ made after. (told ≡ figure_of told.number) × TakesMany made after before slots told.number may)

-- the chunk at this place may be given back, and is
abbrev pub FreesAt : {X : Type 0} → (X → ℕ → Type 0) → (X → ℕ → X → Type 0) → X → ℕ → X → Type 0
FreesAt may_free frees made place after = may_free made place × frees made place after

-- The chunks at the first `count` places are given back, one after another. If places are left
-- over, none may be given back at the next one.
pub record FreesMany {X : Type 0} (made after : X) (places : List ℕ) (count : ℕ) (may_free : X → ℕ → Type 0)
    (frees : X → ℕ → X → Type 0) : Type 0 where
  pub freed : AtEach (FreesAt may_free frees) made (take count places) after
  pub at_most : count ≤ length places
  pub stopped : IfSome (slice_get places count) (λ place. ¬ may_free after place)

-- returns of the chunks at these places, up to the first one that may not be given back; C gets how
-- many were given back
abbrev pub AnswersReturns : {X : Type 0} → Option X → Option X → List ℕ → Figure → (X → ℕ → Type 0) → (X → ℕ → X → Type 0)
    → Type 0
AnswersReturns old new places told may_free frees = Answers old new (told ≡ no_figure uninitialized)
    (λ made after. (told ≡ figure_of told.number) × FreesMany made after places told.number may_free frees)

-- RESIZES change no value

-- If the numbers make two layouts, the old one and the new one, `tells` holds for them. Otherwise C
-- gets BB_INVALID_LAYOUT.
pub record TellsResize (old_size old_align new_size new_align : ℕ) (told : Answer) (tells : Layout → Layout → Type 0)
    : Type 0 where
  pub answered : (from to : Layout) → IsOf old_size old_align from × IsOf new_size new_align to → tells from to
  pub no_layout : ¬ (IsLayout old_size old_align × IsLayout new_size new_align) → told ≡ refused invalid_layout

-- a resize, from the layout of the old numbers to that of the new ones; the value doesn't change
abbrev pub AnswersResize : {X : Type 0} → Option X → Option X → ℕ → ℕ → ℕ → ℕ → Answer → (X → Layout → Layout → Type 0) → Type 0
AnswersResize old new old_size old_align new_size new_align told tells = Answers old new (told ≡ refused uninitialized)
    (λ made after. TellsResize old_size old_align new_size new_align told (tells made) × (after ≡ made))

-- INITIALIZATION AND DESTRUCTION

-- the handle holds a value, and `is` holds for it
abbrev pub IsThere : {X : Type 0} → (X → Type 0) → Option X → Type 0
IsThere {X = X} is new = (made : X) × (new ≡ Some made) × is made

-- An initialization, of a handle that has to be empty. The value is made if `may` holds and memory
-- doesn't run out. Each code is returned for exactly its cause.
pub record AnswersMake {X : Type 0} (old new : Option X) (code : ℕ) (may : Type 0) (fresh : Option X → Type 0) : Type 0 where
  pub made : code ≡ ok → may × fresh new
  pub held_one : (code ≡ already_initialized) ↔ (old ≢ None)
  pub cannot : (code ≡ invalid_argument) ↔ ((old ≡ None) × (¬ may))
  pub else_memory : code ≢ ok → code ≢ already_initialized → code ≢ invalid_argument → code ≡ malloc_refused
  pub unchanged : code ≢ ok → new ≡ old

-- How a kind that is cut into buckets describes its initialization, by the layout of a bucket.
pub record Cutting (X : Type 0) : Type 1 where
  -- the region may be cut into such buckets
  pub may : Layout → Type 0
  -- the region has room for such a bucket
  pub room : Layout → Type 0
  -- the handle then holds a fresh value with such buckets
  pub fresh : Layout → Option X → Type 0

-- An initialization, of a handle that has to be empty, with a value that is cut into buckets. Their
-- layout is that of `size` and `align`. Each code is returned for exactly its cause.
pub record AnswersPoolMake {X : Type 0} (old new : Option X) (size align code : ℕ) (cutting : Cutting X) : Type 0 where
  pub made : code ≡ ok →
      (bucket : Layout) × IsOf size align bucket × cutting.may bucket × cutting.room bucket × cutting.fresh bucket new
  pub held_one : (code ≡ already_initialized) ↔ (old ≢ None)
  pub no_layout : (code ≡ invalid_layout) ↔ ((old ≡ None) × (¬ IsLayout size align))
  pub cannot : (code ≡ invalid_argument) ↔ ((old ≡ None) × FailsOf size align cutting.may)
  pub no_room : (code ≡ no_bucket) ↔ ((old ≡ None) × LacksRoomOf size align cutting.may cutting.room)
  pub else_memory : code ≢ ok → code ≢ already_initialized → code ≢ invalid_layout → code ≢ invalid_argument → code ≢ no_bucket
      → code ≡ malloc_refused
  pub unchanged : code ≢ ok → new ≡ old

-- A destruction: the handle is empty after it, and the code says whether it was empty before.
pub record AnswersFree {X : Type 0} (old new : Option X) (code : ℕ) : Type 0 where
  pub freed : old ≢ None → code ≡ ok
  pub was_empty : old ≡ None → code ≡ uninitialized
  pub empty : new ≡ None

-- A destruction that may be refused, as `tells` says about the value and the code. With BB_OK the
-- handle is empty after it, and with every other code nothing changes.
pub record AnswersDestroy {X : Type 0} (old new : Option X) (code : ℕ) (tells : X → ℕ → Type 0) : Type 0 where
  pub made : IfSome old (λ made. tells made code)
  pub was_empty : old ≡ None → code ≡ uninitialized
  pub destroyed : code ≡ ok → new ≡ None
  pub unchanged : code ≢ ok → new ≡ old

-- SHARED VALUES

-- How a kind that parties share describes them.
pub record Sharing (X Y : Type 0) : Type 1 where
  -- how many parties haven't joined
  pub unjoined : X → ℕ
  -- the shared value with one more party that hasn't joined, after the others
  pub with_party : X → Y → X
  -- the party is one of this value's, and has just joined
  pub joins : X → Y → Type 0
  -- the party is one of this value's, and has joined
  pub at : X → Y → Type 0
  -- a party before and after it leaves
  pub leaves : Y → Y → Type 0

-- The last party that hasn't joined joins, if there is one and memory doesn't run out. Its handle
-- holds `party` then.
pub record TellsJoin {X Y : Type 0} (made after : X) (party : Option Y) (code : ℕ) (sharing : Sharing X Y) : Type 0 where
  pub joins : code ≡ ok →
      (joined : Y) × (party ≡ Some joined) × (made ≡ sharing.with_party after joined) × sharing.joins after joined
  pub none_unjoined : (code ≡ no_party) ↔ (sharing.unjoined made ≡ 0)
  pub else_memory : code ≢ ok → code ≢ no_party → code ≡ malloc_refused
  pub unchanged : code ≢ ok → (after ≡ made) × (party ≡ None)

-- a party joins; its handle has to be empty
pub record AnswersJoin {X Y : Type 0} (old new : Option X) (old_party new_party : Option Y) (code : ℕ) (sharing : Sharing X Y)
    : Type 0 where
  pub held_one : old_party ≢ None → (code ≡ already_initialized) × (new ≡ old) × (new_party ≡ old_party)
  pub joins : old_party ≡ None → Answers old new ((code ≡ uninitialized) × (new_party ≡ None))
      (λ made after. TellsJoin made after new_party code sharing)

-- A party joins, and is returned; `value` is the party of what is returned.
pub record TakesParty {X Y Z : Type 0} (value : Z → Y) (old new : X) (told : Result Z ℕ) (sharing : Sharing X Y) : Type 0 where
  pub joins : IfOk told (λ party. (old ≡ sharing.with_party new (value party)) × sharing.joins new (value party))
  pub none_unjoined : (told ≡ Err no_party) ↔ (sharing.unjoined old ≡ 0)
  pub else_memory : IfErr told (λ code. code ≢ no_party → code ≡ malloc_refused)
  pub unchanged : OnErr told (new ≡ old)

-- `are` holds for the two values, if both handles hold one
abbrev pub IfBoth : {X Y : Type 0} → Option X → Option Y → (X → Y → Type 0) → Type 0
IfBoth made party are = IfSome made (λ m. IfSome party (λ p. are m p))

-- If both handles hold a value, `tells` holds for the two before and after the call. If one of them
-- is empty, `refused_so` holds and nothing changes.
pub record AnswersOfBoth {X Y : Type 0} (old new : Option X) (old_other new_other : Option Y) (refused_so : Type 0)
    (tells : X → Y → X → Y → Type 0) : Type 0 where
  pub both : IfBoth old old_other (λ made other. (after : X) × (other_after : Y)
      × (new ≡ Some after) × (new_other ≡ Some other_after) × tells made other after other_after)
  pub empty : (old ≡ None) ⊎ (old_other ≡ None) → refused_so × (new ≡ old) × (new_other ≡ old_other)

-- A party that has joined leaves: its handle is empty then, and the party is the last of those that
-- haven't joined. If a handle is empty, or the party is of another value, C gets a code and nothing
-- changes.
pub record AnswersLeave {X Y : Type 0} (old new : Option X) (old_party new_party : Option Y) (code : ℕ) (sharing : Sharing X Y)
    : Type 0 where
  pub returned : IfBoth old old_party (λ made party. sharing.at made party → (after : Y) × sharing.leaves party after
      × (code ≡ ok) × (new ≡ Some (sharing.with_party made after)) × (new_party ≡ None))
  pub others : IfBoth old old_party (λ made party. ¬ sharing.at made party → code ≡ other_pool)
  pub empty : (old ≡ None) ⊎ (old_party ≡ None) → code ≡ uninitialized
  pub unchanged : code ≢ ok → (new ≡ old) × (new_party ≡ old_party)
