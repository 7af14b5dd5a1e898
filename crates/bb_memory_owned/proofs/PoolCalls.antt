-- Each live list that a pool stands for, after its requests and releases.
use Rattle.bb_memory_index_set.proofs.Tallies.{member_count-released, member_count-taken}
use Rattle.bb_memory_index_set.specs.IndexSets.{Has, Lacks}
use Rattle.bb_memory_lists.proofs.SliceGets.{slice_get-set_other, slice_get-set_same}
use Rattle.bb_memory_owned.proofs.Pools.{Has-set_true, IsPool-with_flag, bucket-below, held-inside, lacked-free, one_bucket, stands-freed, stands-given, stands-resized}
use Rattle.bb_memory_owned.specs.Pool.{CountedPool, FreesBucket, HoldsPlace, IsPool, Pool, StandsFor, Takes, TakesBucket, bucket_held_at, counted, filled-at, held_at_bucket, held_count, reads_of, with_flag}
use Rattle.bb_memory_traits.proofs.Cuts.{number-counted}
use Rattle.bb_memory_traits.proofs.Measures.{bucket_place-multiple}
use Rattle.bb_memory_traits.proofs.PoolGeometries.{bucket_place-after, bucket_place-aligned}
use Rattle.bb_memory_traits.specs.Chunk.{Chunk, IsInside, first_place}
use Rattle.bb_memory_traits.specs.PoolObject.{IsWithin, MayAllocate, MayGrow, MayShrink, bucket_place, chunk_in, stride}
use Rattle.bb_memory_traits.specs.declared.allocator.AllocationError.{AllocationError}
use Rattle.bb_memory_traits.specs.declared.allocator.AllocationError.TheVariants.{AlignmentFailure, OutOfMemory, SizeIsZero, SizeTooLarge}
use Rattle.bb_memory_traits.specs.declared.allocator.AllocationGrowError.{AllocationGrowError}
use Rattle.bb_memory_traits.specs.declared.allocator.AllocationShrinkError.{AllocationShrinkError}
use Rattle.bb_memory_traits.specs.declared.layout.Layout.{Layout}
use Rattle.std.proofs.Common.{Bool, Err, List, Ok, Result, Some, [], ap, arith, cond, false, inl, inr, leb, max, min, refl, subst, sym, true, ℕ, ◌%◌, ◌&&◌, ◌++◌, ◌-◌, ◌/◌, ◌<◌, ◌∙◌, ◌∷◌, ◌≡◌, ◌≢◌, ◌≤◌}
use Rattle.std.proofs.lemmas.Bool.{cases_lt, le-leb}
use Rattle.std.specs.Prelude.{IfOk, remove, slice_get, slice_set}

-- REQUESTS

pub Takes-answer : (pool : Pool) (layout : Layout) (answer : Result Chunk AllocationError) (new : Pool) → IsPool pool →
    Takes pool layout answer new → (live : List Chunk) → StandsFor pool live → MayAllocate pool.geometry live layout answer
Takes-answer pool layout (Ok chunk) new is (i, within, lacks, given, after) live stands = (
  i,
  record { within = within; bucket = bucket-below pool is i false lacks; free = lacked-free pool live is stands i lacks },
  given,
)
Takes-answer pool layout (Err SizeTooLarge) new is takes live stands = takes.0
Takes-answer pool layout (Err AlignmentFailure) new is takes live stands = (takes.0, takes.1)
Takes-answer pool layout (Err OutOfMemory) new is (within, full, after) live stands =
    (within, λ i below. stands.held i (full i (omega (arith, is.flags))))
Takes-answer pool layout (Err SizeIsZero) new is takes live stands = absurd takes

pub Takes-appended : (pool : Pool) (layout : Layout) (answer : Result Chunk AllocationError) (new : Pool) → IsPool pool →
    Takes pool layout answer new →
    IfOk answer (λ chunk. (live : List Chunk) → StandsFor pool live → StandsFor new (live ++ chunk ∷ []))
Takes-appended pool layout (Ok chunk) new is (i, within, lacks, given, after) = λ live stands.
    subst (λ (p : Pool). StandsFor p (live ++ chunk ∷ [])) (sym after)
    (subst (λ (c : Chunk). StandsFor (with_flag pool i true) (live ++ c ∷ [])) (sym given)
    (stands-given pool live layout i is stands within lacks))
Takes-appended pool layout (Err error) new is takes = tt

pub Takes-inside : (pool : Pool) (layout : Layout) (answer : Result Chunk AllocationError) (new : Pool) → IsPool pool →
    Takes pool layout answer new → IfOk answer (IsInside pool.geometry.region)
Takes-inside pool layout (Ok chunk) new is (i, within, lacks, given, after) =
    let after : Pool = with_flag pool i true in
    let here : Has after.held i = slice_get-set_same pool.held i true false lacks in
    subst (IsInside pool.geometry.region) (sym given)
    (held-inside after (IsPool-with_flag pool is i true) (chunk_in pool.geometry i layout)
    (held_at_bucket after (bucket_place pool.geometry i) i here refl) within.size)
Takes-inside pool layout (Err error) new is takes = tt

pub Takes-aligned : (pool : Pool) (layout : Layout) (answer : Result Chunk AllocationError) (new : Pool) →
    Takes pool layout answer new → IfOk answer (λ chunk. chunk.place % layout.align ≡ 0)
Takes-aligned pool layout (Ok chunk) new (i, within, lacks, given, after) =
    ap (λ (c : Chunk). c.place % layout.align) given ∙ bucket_place-multiple pool.geometry i layout within.align
Takes-aligned pool layout (Err error) new takes = tt

-- the bucket that is given is held then
pub Takes-given : (pool : Pool) (layout : Layout) (answer : Result Chunk AllocationError) (new : Pool) →
    Takes pool layout answer new → IfOk answer (λ chunk. HoldsPlace new chunk.place)
Takes-given pool layout (Ok chunk) new (i, within, lacks, given, after) =
    subst (λ (p : Pool). HoldsPlace p chunk.place) (sym after)
    (held_at_bucket (with_flag pool i true) chunk.place i (slice_get-set_same pool.held i true false lacks)
    (ap (λ (c : Chunk). c.place) given))
Takes-given pool layout (Err error) new takes = tt

-- a refusal changes nothing, and comes only if the layout is too large for a bucket or each bucket
-- is held
refused : (pool : Pool) (layout : Layout) (error : AllocationError) (new : Pool) → IsPool pool →
    Takes pool layout (Err error) new →
    (new ≡ pool) × (IsWithin pool.geometry.bucket layout → (i : ℕ) → ¬ Lacks pool.held i)
refused pool layout SizeTooLarge new is takes =
    (takes.1, λ within i lacks. let small = within.size in omega (arith, takes.0))
refused pool layout AlignmentFailure new is takes =
    (takes.2, λ within i lacks. let small = within.align in omega (arith, takes.1))
refused pool layout OutOfMemory new is (within, full, same) = (
  same,
  λ _ i lacks.
      let held = full i (omega (arith, is.flags, bucket-below pool is i false lacks)) in
      let e : Some true ≡ Some false = sym held ∙ lacks in
      cc,
)
refused pool layout SizeIsZero new is takes = absurd takes

few_if : (b : Bool) (words : ℕ) → cond b (min words 1) 0 ≤ words
few_if true words = omega arith
few_if false words = omega arith

-- a request reads at most as many words as there are
pub reads_few : (bucket : Layout) (words : ℕ) (layout : Layout) → reads_of bucket words layout ≤ words
reads_few bucket words layout = few_if _ words

-- a request reads one word if its layout is within a bucket and there are words
reads_one : (bucket : Layout) (words : ℕ) (layout : Layout) → IsWithin bucket layout → 0 < words →
    reads_of bucket words layout ≡ 1
reads_one bucket words layout within some =
    ap (λ b. cond (b && leb layout.align bucket.align) (min words 1) 0) (le-leb layout.size bucket.size within.size)
    ∙ ap (λ b. cond b (min words 1) 0) (le-leb layout.align bucket.align within.align)
    ∙ omega (arith, some)

-- all promises of a request that are about values
pub TakesBucket-is : (old : CountedPool) (layout : Layout) (answer : Result Chunk AllocationError) (new : CountedPool)
    (words : ℕ) → IsPool old.pool → old.reads ≤ words → held_count old.pool ≤ old.greatest →
    Takes old.pool layout answer new.pool → new.reads ≡ reads_of old.pool.geometry.bucket words layout →
    new.greatest ≡ max old.greatest (held_count new.pool) → TakesBucket old layout answer new words
TakesBucket-is old layout (Ok chunk) new words is most at_least (i, within, lacks, given, after) reads greatest =
    let pool = old.pool in
    let at : chunk.place ≡ bucket_place pool.geometry i = ap (λ (c : Chunk). c.place) given in
    let differ : (place : ℕ) (there : HoldsPlace pool place) → (bucket_held_at pool place there).0 ≢ i = λ place there same.
    let e : Some true ≡ Some false =
    sym (bucket_held_at pool place there).1 ∙ (ap (slice_get pool.held) same ∙ lacks) in cc in
    record {
      taken = (i, within, lacks, given, after);
      accepted = (λ ok. (within, (i, lacks)), λ may. refl);
      pool_unchanged = tt;
      was_free = λ there. let holds = bucket_held_at pool chunk.place there in
          differ chunk.place there (one_bucket pool.geometry is.geometry holds.0 i (sym holds.2 ∙ at));
      apart = λ place there. let holds = bucket_held_at pool place there in elim (cases_lt holds.0 i) [
        | inl below ↦ inl (omega (arith, bucket_place-after pool.geometry holds.0 i below, at, holds.2))
        | inr above ↦
            let more : i < holds.0 = omega (arith, above, differ place there) in
            inr (omega (arith, bucket_place-after pool.geometry i holds.0 more, at, holds.2))
      ];
      others_kept = λ place there.
          let (j, has, at) = bucket_held_at pool place there in
          rw after (held_at_bucket (with_flag pool i true) place j (Has-set_true pool.held i j lacks has) at);
      bucket_aligned = ap (λ (c : Chunk). c.place % pool.geometry.bucket.align) given ∙ bucket_place-aligned pool.geometry i;
      one_more = ap held_count after ∙ member_count-taken pool.held i lacks;
      greatest = greatest;
      greatest_unchanged = tt;
      one_read = λ _ some. reads ∙ reads_one pool.geometry.bucket words layout within some;
      uncounted = λ zero. omega (arith, zero, reads, reads_few pool.geometry.bucket words layout, most);
      unchanged = λ zero. tt;
    }
TakesBucket-is old layout (Err error) new words is most at_least takes reads greatest =
    let none : words ≡ 0 → new.reads ≡ old.reads =
    λ zero. omega (arith, zero, reads, reads_few old.pool.geometry.bucket words layout, most) in
    let (still, why) = refused old.pool layout error new.pool is takes in
    let kept : new.greatest ≡ old.greatest = omega (arith, greatest, at_least, ap (λ (p : Pool). held_count p) still) in
    record {
      taken = takes;
      accepted = (λ ok. absurd (cc), λ may. absurd (why may.0 may.1.0 may.1.1));
      pool_unchanged = still;
      was_free = tt;
      apart = tt;
      others_kept = λ place holds. subst (λ (p : Pool). HoldsPlace p place) (sym still) holds;
      bucket_aligned = tt;
      one_more = tt;
      greatest = greatest;
      greatest_unchanged = kept;
      one_read = λ within some. reads ∙ reads_one old.pool.geometry.bucket words layout within some;
      uncounted = none;
      unchanged = λ zero. ap (λ p. counted p new.reads new.greatest) still
          ∙ ap (λ n. counted old.pool n new.greatest) (none zero) ∙ ap (counted old.pool old.reads) kept;
    }

-- RELEASES

-- the computed number of a held bucket's place is that of the bucket
pub number-held : (pool : Pool) (place first number : ℕ) → HoldsPlace pool place →
    first ≡ first_place pool.geometry.region pool.geometry.bucket →
    ((place - first) % stride pool.geometry.bucket ≡ 0 → number ≡ (place - first) / stride pool.geometry.bucket) →
    0 < stride pool.geometry.bucket → Has pool.held number × (place ≡ bucket_place pool.geometry number)
number-held pool place first number holds begins divided some =
    let (i, has, there) = bucket_held_at pool place holds in
    let same = number-counted pool.geometry i place (place - first) number (ap (λ n. place - n) begins) divided some there in
    (subst (Has pool.held) same has, there ∙ ap (bucket_place pool.geometry) same)

-- bucket i, which is held and begins at the place
module _ (pool : Pool) (place i : ℕ) (is : IsPool pool) (has : Has pool.held i)
    (there : place ≡ bucket_place pool.geometry i) where
  others_kept : (other : ℕ) → HoldsPlace pool other → other ≢ place → HoldsPlace (with_flag pool i false) other
  others_kept other holds differ =
      let (j, other_has, at) = bucket_held_at pool other holds in
      let apart : j ≢ i = λ same. differ (at ∙ ap (bucket_place pool.geometry) same ∙ sym there) in
      held_at_bucket (with_flag pool i false) other j (slice_get-set_other pool.held i j false apart ∙ other_has) at

  no_more : (j : ℕ) → Has (slice_set pool.held i false) j → j ≢ i
  no_more j still same =
      let gone = slice_get-set_same pool.held i false true has in
      let e : Some true ≡ Some false = sym still ∙ ap (slice_get (slice_set pool.held i false)) same ∙ gone in cc

  others_free : (other : ℕ) → ¬ HoldsPlace pool other → ¬ HoldsPlace (with_flag pool i false) other
  others_free other free holds =
      let (j, still, at) = bucket_held_at (with_flag pool i false) other holds in
      let before = sym (slice_get-set_other pool.held i j false (no_more j still)) ∙ still in
      free (held_at_bucket pool other j before at)

  given_back : ¬ HoldsPlace (with_flag pool i false) place
  given_back holds =
      let (j, still, at) = bucket_held_at (with_flag pool i false) place holds in
      absurd (no_more j still (one_bucket pool.geometry is.geometry j i (sym at ∙ there)))

  -- all promises of a release that are about values
  pub FreesBucket-is : (reads greatest : ℕ) →
      FreesBucket (counted pool reads greatest) place (counted (with_flag pool i false) reads greatest)
  FreesBucket-is reads greatest = record {
    freed = λ j other at.
        ap (λ n. with_flag pool n false) (one_bucket pool.geometry is.geometry i j (sym there ∙ at));
    others_kept = others_kept;
    others_free = others_free;
    given_back = given_back;
    room = (i, slice_get-set_same pool.held i false true has);
    one_less = sym (member_count-released pool.held i has);
    greatest = refl;
  }

  -- the chunk at the place is removed from each list that the pool stands for
  pub released-stands : (live : List Chunk) (position : ℕ) (chunk : Chunk) → StandsFor pool live →
      slice_get live position ≡ Some chunk → chunk.place ≡ place → StandsFor (with_flag pool i false) (remove live position)
  released-stands live position chunk stands at same =
      let fills = filled-at pool live stands position chunk at in
      let bucket = one_bucket pool.geometry is.geometry fills.0 i (sym fills.1.placed ∙ same ∙ there) in
      subst (λ n. StandsFor (with_flag pool n false) (remove live position)) bucket
      (stands-freed pool live position fills.0 chunk is stands at fills.1)

-- RESIZES

-- a chunk that a resize gives is at the place, and has at least the requested size and at most that
-- of a bucket
abbrev pub FitsBucket : {E : Type 0} → Layout → ℕ → ℕ → Result Chunk E → Type 0
FitsBucket bucket place size answer = IfOk answer (λ resized. resized.place ≡ place)
    × IfOk answer (λ resized. size ≤ resized.len) × IfOk answer (λ resized. resized.len ≤ bucket.size)

pub MayGrow-fits : (bucket : Layout) (place : ℕ) (old new : Layout) (answer : Result Chunk AllocationGrowError) →
    MayGrow bucket place old new answer → FitsBucket bucket place new.size answer
MayGrow-fits bucket place old new (Ok grown) (longer, fine, small, given) =
    let len = ap (λ (c : Chunk). c.len) given in (ap (λ (c : Chunk). c.place) given, omega arith, omega arith)
MayGrow-fits bucket place old new (Err error) may = (tt, tt, tt)

pub MayShrink-fits : (bucket : Layout) (place : ℕ) (old new : Layout) (answer : Result Chunk AllocationShrinkError) →
    old.size ≤ bucket.size → MayShrink bucket place old new answer → FitsBucket bucket place new.size answer
MayShrink-fits bucket place old new (Ok shrunk) reserved (shorter, aligned, given) =
    let len = ap (λ (c : Chunk). c.len) given in (ap (λ (c : Chunk). c.place) given, omega arith, omega arith)
MayShrink-fits bucket place old new (Err error) reserved may = (tt, tt, tt)

pub resized-stands : {E : Type 0} (pool : Pool) (place size : ℕ) (answer : Result Chunk E) → IsPool pool →
    FitsBucket pool.geometry.bucket place size answer →
    IfOk answer (λ resized. (live : List Chunk) (position : ℕ) (chunk : Chunk) → StandsFor pool live →
    slice_get live position ≡ Some chunk → chunk.place ≡ place → StandsFor pool (slice_set live position resized))
resized-stands pool place size (Ok resized) is fits = λ live position chunk stands at there.
    stands-resized pool live position chunk resized is stands at (fits.0 ∙ sym there) fits.2
resized-stands pool place size (Err error) is fits = tt
