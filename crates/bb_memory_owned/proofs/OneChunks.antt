-- Answers of the one-chunk object, and the live lists of at most one chunk to which they lead.
use Rattle.bb_memory_owned.proofs.KeptRuns as kept_runs
use Rattle.bb_memory_owned.specs.OneChunk.{AllocationError, HasByteAt, IsKept, IsOneChunk, Layout, OneChunk, StandsFor}
use Rattle.bb_memory_traits.proofs.LeastPlaces.{least_place-is, least_place-multiple}
use Rattle.bb_memory_traits.proofs.LiveLists.{sound_from_order}
use Rattle.bb_memory_traits.proofs.OneChunkLists.{only_chunk}
use Rattle.bb_memory_traits.specs.Chunk.{Chunk, IsInside, Region, chunk_end, first_place, region_end}
use Rattle.bb_memory_traits.specs.Object.{IsRun, ResizableStep, Step}
use Rattle.bb_memory_traits.specs.OneChunkObject.{MayAllocate, one_chunk_object, rest_from}
use Rattle.bb_memory_traits.specs.declared.allocator.AllocationError.TheVariants.{OutOfMemory}
use Rattle.bb_memory_traits.specs.declared.allocator.Command.{Command}
use Rattle.bb_memory_traits.specs.declared.allocator.Reply.{Reply}
use Rattle.std.proofs.Common.{Err, List, None, Ok, Option, Result, Some, [], ap, arith, inl, inr, length, refl, remove, slice_get, slice_set, subst, sym, ℕ, ◌%◌, ◌++◌, ◌+◌, ◌<◌, ◌∙◌, ◌∷◌, ◌≡◌, ◌≤◌}
use Rattle.std.proofs.lemmas.Bool.{cases_lt}
use Rattle.std.proofs.lemmas.Grind.{common_steps}
use Rattle.std.specs.Option.{ForSome}

abbrev one_of : Region → Option ℕ → OneChunk
one_of region kept = record { region = region; kept = kept }

-- no chunk is in use
StandsFor-empty : (region : Region) → StandsFor (one_of region None) []
StandsFor-empty region = record { sound = sound_from_order region region.start [] (omega arith) tt (omega arith); keeps = refl }

-- a chunk inside is in use
StandsFor-one : (region : Region) (chunk : Chunk) → IsInside region chunk →
    StandsFor (one_of region (Some chunk.place)) (chunk ∷ [])
StandsFor-one region chunk inside = grind arith

-- the rest from a place inside the region is inside the region
rest-inside : (region : Region) (place : ℕ) → HasByteAt region place → IsInside region (rest_from region place)
rest-inside region place byte = record { above = byte.above; below = omega (arith, byte.below) }

-- each one-chunk allocator stands for some list: the empty one, or all of the region from the place
-- that is kept
some_list : (region : Region) (kept : Option ℕ) → ForSome kept (HasByteAt region) →
    (live : List Chunk) × StandsFor (one_of region kept) live
some_list region None within = ([], StandsFor-empty region)
some_list region (Some place) within =
    let rest = rest_from region place in
    (rest ∷ [], StandsFor-one region rest (rest-inside region place (within place refl)))

pub stands_for_some : (one : OneChunk) → IsOneChunk one → (live : List Chunk) × StandsFor one live
stands_for_some one is = some_list one.region one.kept is.kept

-- there is an answer to each request
pub some_answer : (region : Region) (live : List Chunk) (layout : Layout) →
    (answer : Result Chunk AllocationError) × MayAllocate region live layout answer
some_answer region (chunk ∷ live) layout = (Err OutOfMemory, inl (λ empty. cc))
some_answer region [] layout =
    let place = first_place region layout in
    elim (cases_lt place (region_end region)) [
      | inr behind ↦ (Err OutOfMemory, inr (inl behind))
      | inl begins ↦ elim (cases_lt (region_end region) (place + layout.size)) [
        | inl far ↦ (Err OutOfMemory, inr (inr far))
        | inr ends ↦ (Ok (rest_from region place), (refl, record { begins = begins; ends = ends }, refl))
      ]
    ]

-- if there is a chunk to give, none is refused
gives_or_refuses : (region : Region) (live : List Chunk) (layout : Layout) (chunk : Chunk) →
    MayAllocate region live layout (Ok chunk) → MayAllocate region live layout (Err OutOfMemory) → ⊥
gives_or_refuses region live layout chunk given (inl out) = out given.0
gives_or_refuses region live layout chunk given (inr (inl behind)) = let begins = given.1.begins in omega arith
gives_or_refuses region live layout chunk given (inr (inr far)) = let ends = given.1.ends in omega arith

-- each request has at most one answer
pub one_answer : (region : Region) (live : List Chunk) (layout : Layout) (one other : Result Chunk AllocationError) →
    MayAllocate region live layout one → MayAllocate region live layout other → one ≡ other
one_answer region live layout (Ok c) (Ok d) first second = ap Ok (first.2 ∙ sym second.2)
one_answer region live layout (Ok c) (Err OutOfMemory) first second = absurd (gives_or_refuses region live layout c first second)
one_answer region live layout (Err OutOfMemory) (Ok c) first second = absurd (gives_or_refuses region live layout c second first)
one_answer region live layout one other first second = grind (arith, first, second)

-- a chunk that is given begins at a multiple of the alignment
pub answer-aligned : (region : Region) (live : List Chunk) (layout : Layout) (chunk : Chunk) →
    MayAllocate region live layout (Ok chunk) → chunk.place % layout.align ≡ 0
answer-aligned region live layout chunk told =
    ap (λ (k : Chunk). k.place % layout.align) told.2
    ∙ least_place-multiple region.start layout.align layout.valid.positive

-- the answered chunk begins inside the region
answer-byte : (region : Region) (live : List Chunk) (layout : Layout) (chunk : Chunk) →
    MayAllocate region live layout (Ok chunk) → HasByteAt region chunk.place
answer-byte region live layout chunk told = grind (arith, common_steps, least_place-is)

-- the answered chunk isn't empty, and ends at the region's end
pub answer-whole : (region : Region) (live : List Chunk) (layout : Layout) (chunk : Chunk) →
    MayAllocate region live layout (Ok chunk) → (0 < chunk.len) × (chunk_end chunk ≡ region_end region)
answer-whole region live layout chunk told = grind arith

pub answer-inside : (region : Region) (live : List Chunk) (layout : Layout) (chunk : Chunk) →
    MayAllocate region live layout (Ok chunk) → IsInside region chunk
answer-inside region live layout chunk told = grind (arith, common_steps, answer-byte, answer-whole)

-- the answered chunk has at least the requested size
pub answer-long : (region : Region) (live : List Chunk) (layout : Layout) (chunk : Chunk) →
    MayAllocate region live layout (Ok chunk) → layout.size ≤ chunk.len
answer-long region live layout chunk told =
    let ends = told.1.ends in
    omega (arith, ap (λ (k : Chunk). k.len) told.2)

-- RUNS

-- some one-chunk allocator over the region stands for this list
record IsOneChunkList (region : Region) (live : List Chunk) : Type 0 where
  kept : Option ℕ
  within : ForSome kept (HasByteAt region)
  stands : StandsFor (one_of region kept) live

one_list : (region : Region) (chunk : Chunk) → HasByteAt region chunk.place → chunk_end chunk ≤ region_end region →
    IsOneChunkList region (chunk ∷ [])
one_list region chunk byte below = record {
  kept = Some chunk.place;
  within = λ place some. subst (HasByteAt region) (let same : chunk.place ≡ place = cc in same) byte;
  stands = StandsFor-one region chunk (record { above = byte.above; below = below });
}

-- a resize that keeps the place and ends inside leads to such a list
resized_list : (region : Region) (live : List Chunk) (position : ℕ) (chunk resized : Chunk) → IsOneChunkList region live →
    slice_get live position ≡ Some chunk → resized.place ≡ chunk.place →
    (HasByteAt region chunk.place → chunk_end resized ≤ region_end region) →
    IsOneChunkList region (slice_set live position resized)
resized_list region live position chunk resized is at place below =
    let parts = only_chunk is.kept live position chunk is.stands.keeps at in
    let byte = is.within chunk.place parts.2 in
    rw (parts.1, parts.0) (one_list region resized (subst (HasByteAt region) (sym place) byte) (below byte))

-- a release leads to the empty list
removed : (kept : Option ℕ) (live : List Chunk) (position : ℕ) → IsKept kept live → position < length live →
    remove live position ≡ []
removed None live position empty within = absurd (let none = ap length empty in omega arith)
removed (Some place) live position (one, is, same) within = grind arith

-- each step leads from a list that a one-chunk allocator stands for to another such list
kept_lists : (region : Region) → kept_runs.IsKept (one_chunk_object region) (IsOneChunkList region)
kept_lists region = record {
  given = λ live layout chunk is told.
      subst (λ (l : List Chunk). IsOneChunkList region (l ++ chunk ∷ [])) (sym told.0)
      (one_list region chunk (answer-byte region live layout chunk told)
      (omega (arith, (answer-whole region live layout chunk told).1)));
  left = λ live position is within. rw (removed is.kept live position is.stands.keeps within)
      record { kept = None; within = λ place some. cc; stands = StandsFor-empty region };
  grown = λ live position chunk resized from to is may told place.
      resized_list region live position chunk resized is may.at place
      (λ byte. omega (arith, byte.below, ap (λ (k : Chunk). chunk_end k) told.3));
  shrunk = λ live position chunk resized from to is may told place.
      resized_list region live position chunk resized is may.grown.at place
      (λ byte. omega (arith, byte.below, may.within, told.0, ap (λ (k : Chunk). chunk_end k) told.2));
}

-- each run from a list that a one-chunk allocator stands for leads to another such list, with
-- resizes or without
module _ (one : OneChunk) (live new : List Chunk) (commands : List Command) (replies : List Reply) (is : IsOneChunk one)
    (stands : StandsFor one live) where
  from : IsOneChunkList one.region live
  from = record { kept = one.kept; within = is.kept; stands = stands }

  left : IsOneChunkList one.region new →
      (left : OneChunk) × IsOneChunk left × (left.region ≡ one.region) × StandsFor left new
  left to = (one_of one.region to.kept, record { region = is.region; kept = to.within }, refl, to.stands)

  pub run-keeps : IsRun (ResizableStep (one_chunk_object one.region)) live commands replies new →
      (left : OneChunk) × IsOneChunk left × (left.region ≡ one.region) × StandsFor left new
  run-keeps run = left (kept_runs.run_keeps _ _ (kept_lists one.region) live new commands replies from run)

  pub base_run-keeps : IsRun (Step (one_chunk_object one.region).base) live commands replies new →
      (left : OneChunk) × IsOneChunk left × (left.region ≡ one.region) × StandsFor left new
  base_run-keeps run = left (kept_runs.base_run_keeps _ _ (kept_lists one.region) live new commands replies from run)
