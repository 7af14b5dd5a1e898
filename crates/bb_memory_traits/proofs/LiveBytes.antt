-- The bytes of the chunks of a sound list, while one of them is written over.
use Rattle.bb_memory_traits.proofs.ApartBytes.{apart-kept}
use Rattle.bb_memory_traits.specs.Chunk.{AreApart, Chunk, IsInside, IsSound, Region}
use Rattle.bb_memory_traits.specs.HeldBytes.{ChangesOnly, HeldBytes, bytes_in, held_region}
use Rattle.std.proofs.Common.{List, Some, [], ap, arith, get_or, length, refl, subst, suc, sym, zero, ℕ, ⊎_elim, ◌++◌, ◌+◌, ◌<◌, ◌∙◌, ◌∷◌, ◌≡◌, ◌≢◌}
use Rattle.std.proofs.Math.Seq.{set-append_seam}
use Rattle.std.proofs.lemmas.Bool.{cases_lt}
use Rattle.std.proofs.lemmas.List.{get_or_append_left, get_or_push, length-map, length_push, map-append}
use Rattle.std.proofs.lemmas.Option.{get_or_from_slice_get, slice_get-get_or, slice_get_read, slice_get_within}
use Rattle.std.specs.Prelude.{All, map, slice_get, slice_set}

pub inside_at : (region : Region) (live : List Chunk) (i : ℕ) (chunk : Chunk) → IsSound region live →
    slice_get live i ≡ Some chunk → IsInside region chunk
inside_at region live i chunk sound at =
    subst (IsInside region) (get_or_from_slice_get live i chunk chunk at)
    (sound.inside i chunk (slice_get_within live i chunk at))

before_apart : (region : Region) (live : List Chunk) (i j : ℕ) (one other : Chunk) → IsSound region live →
    slice_get live i ≡ Some one → slice_get live j ≡ Some other → i < j → AreApart one other
before_apart region live i j one other sound at at' below =
    subst (λ (c : Chunk). AreApart c other) (get_or_from_slice_get live i one one at)
    (subst (λ (c : Chunk). AreApart (get_or live i one) c) (get_or_from_slice_get live j other one at')
    (sound.apart i j one below (slice_get_within live j other at')))

pub apart_at : (region : Region) (live : List Chunk) (i j : ℕ) (one other : Chunk) → IsSound region live →
    slice_get live i ≡ Some one → slice_get live j ≡ Some other → i ≢ j → AreApart one other
apart_at region live i j one other sound at at' differ =
    ⊎_elim (λ below. before_apart region live i j one other sound at at' below)
    (λ above. λ shared. before_apart region live j i other one sound at' at (omega (arith, above, differ))
    (shared.0, shared.2, shared.1))
    (cases_lt i j)

map_same : (f g : Chunk → List ℕ) (live : List Chunk) → ((k : ℕ) (c : Chunk) → slice_get live k ≡ Some c → f c ≡ g c) →
    map f live ≡ map g live
map_same f g [] same = refl
map_same f g (c ∷ cs) same =
    let here : f c ≡ g c = same zero c refl in
    ap (λ x. x ∷ map f cs) here ∙ ap (λ l. g c ∷ l) (map_same f g cs (λ k d at. same (suc k) d at))

set_here : (f g : Chunk → List ℕ) (live : List Chunk) (i : ℕ) (chunk : Chunk) (bytes : List ℕ) → slice_get live i ≡ Some chunk →
    f chunk ≡ bytes → ((k : ℕ) (c : Chunk) → i ≢ k → slice_get live k ≡ Some c → f c ≡ g c) →
    map f live ≡ slice_set (map g live) i bytes
set_here f g [] i chunk bytes at is others = absurd (cc)
set_here f g (c ∷ cs) zero chunk bytes at is others =
    let first : c ≡ chunk = cc in
    ap (λ x. x ∷ map f cs) (ap f first ∙ is)
    ∙ ap (λ l. bytes ∷ l) (map_same f g cs (λ k d there. others (suc k) d (λ no. omega (arith, no)) there))
set_here f g (c ∷ cs) (suc i) chunk bytes at is others =
    ap (λ x. x ∷ map f cs) (others zero c (λ no. omega (arith, no)) refl) ∙ ap (λ l. g c ∷ l)
    (set_here f g cs i chunk bytes at is (λ k d differ there. others (suc k) d (λ same. differ (omega (arith, same))) there))

-- each other chunk of the list keeps its bytes
pub others_kept : (old new : HeldBytes) (live : List Chunk) (i k : ℕ) (chunk other : Chunk) (bytes : List ℕ) →
    IsSound (held_region old) live → slice_get live i ≡ Some chunk → ChangesOnly old new chunk bytes →
    i ≢ k → slice_get live k ≡ Some other → bytes_in new other ≡ bytes_in old other
others_kept old new live i k chunk other bytes sound at changes differ there =
    let region = held_region old in
    apart-kept old new chunk other bytes changes (inside_at region live i chunk sound at)
    (inside_at region live k other sound there)
    (apart_at region live i k chunk other sound at there differ)

-- so one item of the list's contents is set
pub contents_set : (old new : HeldBytes) (live : List Chunk) (i : ℕ) (chunk : Chunk) (bytes : List ℕ) →
    IsSound (held_region old) live → slice_get live i ≡ Some chunk → ChangesOnly old new chunk bytes →
    map (bytes_in new) live ≡ slice_set (map (bytes_in old) live) i bytes
contents_set old new live i chunk bytes sound at changes =
    set_here (bytes_in new) (bytes_in old) live i chunk bytes at changes.inside
    (λ k other differ there. others_kept old new live i k chunk other bytes sound at changes differ there)

-- the chunk that was given last
last_at : (live : List Chunk) (chunk : Chunk) → slice_get (live ++ chunk ∷ []) (length live) ≡ Some chunk
last_at live chunk = slice_get_read (live ++ chunk ∷ []) (length live + 1) (length live) chunk (sym (length_push live chunk))
    (omega arith) (sym (get_or_push live chunk chunk (length live) refl))

-- the given chunk is apart from each one before it
pub given_apart : (region : Region) (live : List Chunk) (chunk : Chunk) →
    IsSound region (live ++ chunk ∷ []) → All (AreApart chunk) live
given_apart region live chunk sound = λ k d within.
    let there = slice_get-get_or (live ++ chunk ∷ []) k d (omega (arith, length_push live chunk))
    ∙ ap Some (get_or_append_left live (chunk ∷ []) d k within) in
    apart_at region (live ++ chunk ∷ []) (length live) k chunk (get_or live k d) sound (last_at live chunk) there
    (λ same. omega arith)

-- the last two are apart
pub last_two_apart : (region : Region) (live : List Chunk) (one other : Chunk) →
    IsSound region ((live ++ one ∷ []) ++ other ∷ []) → AreApart one other
last_two_apart region live one other sound = λ shared.
    let each = given_apart region (live ++ one ∷ []) other sound (length live) one (omega (arith, length_push live one)) in
    subst (AreApart other) (get_or_push live one one (length live) refl) each (shared.0, shared.2, shared.1)

-- so the bytes that are written in the given chunk come after the contents of the others
pub contents_given : (old new : HeldBytes) (live : List Chunk) (chunk : Chunk) (bytes : List ℕ) →
    IsSound (held_region old) (live ++ chunk ∷ []) → ChangesOnly old new chunk bytes →
    map (bytes_in new) (live ++ chunk ∷ []) ≡ map (bytes_in old) live ++ bytes ∷ []
contents_given old new live chunk bytes sound changes =
    let others : List (List ℕ) = map (bytes_in old) live in
    contents_set old new (live ++ chunk ∷ []) (length live) chunk bytes sound (last_at live chunk) changes
    ∙ ap (λ l. slice_set l (length live) bytes) (map-append (bytes_in old) live (chunk ∷ []))
    ∙ ap (λ n. slice_set (others ++ bytes_in old chunk ∷ []) n bytes) (sym (length-map live (bytes_in old)))
    ∙ set-append_seam others (bytes_in old chunk) [] bytes
