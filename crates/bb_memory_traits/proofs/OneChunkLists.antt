-- Laws of the live lists that a one-chunk allocator stands for.
use Rattle.bb_memory_traits.specs.Chunk.{Chunk, IsInside}
use Rattle.bb_memory_traits.specs.Object.{PlacesDiffer}
use Rattle.bb_memory_traits.specs.OneChunkObject.{IsKept, OneChunk, StandsFor, reserved_at}
use Rattle.std.proofs.Common.{ap, arith, refl, subst, ◌∙◌}
use Rattle.std.proofs.lemmas.Option.{get_or_from_slice_get, slice_get_within}
use Rattle.std.specs.Prelude.{List, None, Option, Some, [], length, slice_get, suc, zero, ℕ, ◌∷◌, ◌≡◌, ◌≤◌}

-- a chunk at a position of the list is the only one, and has the place that is kept
pub only_chunk : (kept : Option ℕ) (live : List Chunk) (position : ℕ) (chunk : Chunk) →
    IsKept kept live → slice_get live position ≡ Some chunk → (live ≡ chunk ∷ []) × (position ≡ 0) × (kept ≡ Some chunk.place)
only_chunk None live position chunk empty at =
    let none : slice_get live position ≡ None = ap (λ (l : List Chunk). slice_get l position) empty in cc
only_chunk (Some place) live zero chunk (one, is, same) at =
    let first : slice_get live zero ≡ Some one = ap (λ (l : List Chunk). slice_get l zero) is in
    let other : one ≡ chunk = cc in
    let there : one.place ≡ chunk.place = ap (λ (c : Chunk). c.place) other in
    (is ∙ ap (λ (c : Chunk). c ∷ []) other, refl, cc)
only_chunk (Some place) live (suc position) chunk (one, is, same) at =
    let none : slice_get live (suc position) ≡ None = ap (λ (l : List Chunk). slice_get l (suc position)) is in cc

-- a live list has no two chunks, and so no two of one place
pub places_differ : (kept : Option ℕ) (live : List Chunk) → IsKept kept live → PlacesDiffer live
places_differ None live empty = λ i j d before within.
    absurd (let none = ap length empty in omega arith)
places_differ (Some place) live (one, is, same) = λ i j d before within.
    absurd (let single = ap length is in omega arith)

-- a live chunk is at most as long as what is reserved for it
pub covered : (one : OneChunk) (live : List Chunk) (position : ℕ) (chunk : Chunk) →
    StandsFor one live → slice_get live position ≡ Some chunk → chunk.len ≤ reserved_at one.region chunk.place
covered one live position chunk stands at =
    let inside = subst (IsInside one.region) (get_or_from_slice_get live position chunk chunk at)
    (stands.sound.inside position chunk (slice_get_within live position chunk at)) in
    omega (arith, inside.below)

-- the place that is kept is that of a chunk of the list
pub kept_is_live : (kept : Option ℕ) (live : List Chunk) (place : ℕ) →
    IsKept kept live → kept ≡ Some place → (position : ℕ) × (chunk : Chunk)
    × (slice_get live position ≡ Some chunk) × (chunk.place ≡ place)
kept_is_live None live place empty out = cc
kept_is_live (Some kept) live place (one, is, same) out =
    let there : slice_get live 0 ≡ Some one = ap (λ (l : List Chunk). slice_get l 0) is in
    let placed : one.place ≡ place = cc in (0, one, there, placed)
