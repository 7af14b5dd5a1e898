-- Chunks in order, and the live lists that a bump stands for.
use Rattle.bb_memory_traits.specs.BumpObject.{IsInOrder, StandsFor, end_of_last}
use Rattle.bb_memory_traits.specs.Chunk.{AreApart, Chunk, IsInside, IsSound, Region, chunk_end, region_end}
use Rattle.std.proofs.Common.{List, [], ap, arith, refl, sym, ℕ, ◌++◌, ◌+◌, ◌-◌, ◌∷◌, ◌≡◌, ◌≤◌}
use Rattle.std.proofs.lemmas.List.Elements.{All-from_recursion, recursion_from_All}
use Rattle.std.proofs.lemmas.List.Kept.{AllPairs-cons}
use Rattle.std.specs.List.{All, AllByRecursion, AllPairs}

-- chunks in order end no earlier than where they begin
pub end_of_last-above : (v : ℕ) (live : List Chunk) → IsInOrder v live → v ≤ end_of_last v live
end_of_last-above v [] ordered = omega arith
end_of_last-above v (chunk ∷ live) (here, rest) = omega (arith, here, end_of_last-above (chunk_end chunk) live rest)

pub end_of_last-append : (v : ℕ) (xs ys : List Chunk) → end_of_last v (xs ++ ys) ≡ end_of_last (end_of_last v xs) ys
end_of_last-append v [] ys = refl
end_of_last-append v (x ∷ xs) ys = end_of_last-append (chunk_end x) xs ys

pub in_order-append : (v : ℕ) (xs ys : List Chunk) → IsInOrder v xs → IsInOrder (end_of_last v xs) ys → IsInOrder v (xs ++ ys)
in_order-append v [] ys first then = then
in_order-append v (x ∷ xs) ys (here, rest) then = (here, in_order-append (chunk_end x) xs ys rest then)

-- a beginning of chunks in order, and the chunks after it
pub in_order-front : (v : ℕ) (xs ys : List Chunk) → IsInOrder v (xs ++ ys) → IsInOrder v xs
in_order-front v [] ys ordered = tt
in_order-front v (x ∷ xs) ys (here, rest) = (here, in_order-front (chunk_end x) xs ys rest)

pub in_order-rest : (v : ℕ) (xs ys : List Chunk) → IsInOrder v (xs ++ ys) → IsInOrder (end_of_last v xs) ys
in_order-rest v [] ys ordered = ordered
in_order-rest v (x ∷ xs) ys (here, rest) = in_order-rest (chunk_end x) xs ys rest

-- each begins at or after v
pub all_above : (v w : ℕ) (live : List Chunk) → v ≤ w → IsInOrder w live → AllByRecursion (λ chunk. v ≤ chunk.place) live
all_above v w [] le ordered = tt
all_above v w (chunk ∷ live) le (here, rest) =
    (omega (arith, here), all_above v (chunk_end chunk) live (omega (arith, here)) rest)

-- if the last one ends at or below w, each does
all_ended : (v w : ℕ) (live : List Chunk) → IsInOrder v live → end_of_last v live ≤ w →
    AllByRecursion (λ chunk. chunk_end chunk ≤ w) live
all_ended v w [] ordered end = tt
all_ended v w (chunk ∷ live) (here, rest) end =
    (omega (arith, end, end_of_last-above (chunk_end chunk) live rest), all_ended (chunk_end chunk) w live rest end)

-- the same, of every element
pub all_end_by : (v w : ℕ) (live : List Chunk) → IsInOrder v live → end_of_last v live ≤ w →
    All (λ chunk. chunk_end chunk ≤ w) live
all_end_by v w live ordered end = All-from_recursion (λ chunk. chunk_end chunk ≤ w) live (all_ended v w live ordered end)

all_apart : (one : Chunk) (live : List Chunk) →
    AllByRecursion (λ chunk. chunk_end one ≤ chunk.place) live → AllByRecursion (AreApart one) live
all_apart one [] above = tt
all_apart one (chunk ∷ live) (here, rest) = ((λ shared. omega (arith, shared.1.1, shared.2.0, here)), all_apart one live rest)

pub apart_from_order : (v : ℕ) (live : List Chunk) → IsInOrder v live → AllPairs AreApart live
apart_from_order v [] ordered = λ i j d before within. absurd (omega arith)
apart_from_order v (chunk ∷ live) (here, rest) =
    AllPairs-cons AreApart chunk live
    (All-from_recursion (AreApart chunk) live
    (all_apart chunk live (all_above (chunk_end chunk) (chunk_end chunk) live (omega arith) rest)))
    (apart_from_order (chunk_end chunk) live rest)

inside_from_order : (region : Region) (v : ℕ) (live : List Chunk) → region.start ≤ v → IsInOrder v live →
    end_of_last v live ≤ region_end region → AllByRecursion (IsInside region) live
inside_from_order region v [] le ordered end = tt
inside_from_order region v (chunk ∷ live) le (here, rest) end =
    let above = end_of_last-above (chunk_end chunk) live rest in (
      record { above = omega (arith, here); below = omega arith },
      inside_from_order region (chunk_end chunk) live (omega (arith, here)) rest end,
    )

-- chunks in order that end inside the region are a sound list
pub sound_from_order : (region : Region) (v : ℕ) (live : List Chunk) → region.start ≤ v → IsInOrder v live →
    end_of_last v live ≤ region_end region → IsSound region live
sound_from_order region v live le ordered end = record {
  inside = All-from_recursion (IsInside region) live (inside_from_order region v live le ordered end);
  apart = apart_from_order v live ordered;
}

-- the end of the list is what is used, from the region's start on
pub StandsFor-end : (region : Region) (position : ℕ) (live : List Chunk) → StandsFor region position live →
    region.start + position ≡ end_of_last region.start live
StandsFor-end region position live stands = omega (arith, stands.used, end_of_last-above region.start live stands.in_order)

-- chunks inside a region end inside it
end_of_last-within : (region : Region) (v : ℕ) (live : List Chunk) → v ≤ region_end region →
    AllByRecursion (IsInside region) live → end_of_last v live ≤ region_end region
end_of_last-within region v [] within inside = within
end_of_last-within region v (chunk ∷ live) within (here, rest) = end_of_last-within region (chunk_end chunk) live here.below rest

-- at most all of the region is used
pub StandsFor-within : (region : Region) (position : ℕ) (live : List Chunk) →
    StandsFor region position live → position ≤ region.size
StandsFor-within region position live stands =
    let inside = recursion_from_All (IsInside region) live stands.sound.inside in
    omega (arith, StandsFor-end region position live stands, end_of_last-within region region.start live (omega arith) inside)

-- one more chunk, at or after the end of the last one
pub StandsFor-push : (region : Region) (position : ℕ) (live : List Chunk) (chunk : Chunk) → StandsFor region position live →
    end_of_last region.start live ≤ chunk.place → chunk_end chunk ≤ region_end region →
    StandsFor region (chunk_end chunk - region.start) (live ++ chunk ∷ [])
StandsFor-push region position live chunk stands after below =
    let ordered = in_order-append region.start live (chunk ∷ []) stands.in_order (after, tt) in
    let end = end_of_last-append region.start live (chunk ∷ []) in
    record {
      sound = sound_from_order region region.start (live ++ chunk ∷ []) (omega arith) ordered (omega (arith, end));
      in_order = ordered;
      used = ap (λ n. n - region.start) (sym end);
    }

-- nothing is live
pub StandsFor-empty : (region : Region) → StandsFor region 0 []
StandsFor-empty region = grind arith

-- a position inside the region stands for the empty list, or for one chunk that is all that is used
pub stands_for_some : (region : Region) (position : ℕ) → position ≤ region.size →
    (live : List Chunk) × StandsFor region position live
stands_for_some region position within =
    let whole : Chunk = record { place = region.start; len = position } in (
      whole ∷ [],
      record {
        sound = sound_from_order region region.start (whole ∷ []) (omega arith) (omega arith, tt) (omega (arith, within));
        in_order = (omega arith, tt);
        used = omega arith;
      },
    )
