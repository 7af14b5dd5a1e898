-- A region in which one chunk is written over.
use Rattle.bb_memory_traits.specs.Chunk.{Chunk, IsInside}
use Rattle.bb_memory_traits.specs.HeldBytes.{ChangesOnly, HeldBytes, held_region}
use Rattle.bb_memory_traits.specs.Lending.{written}
use Rattle.std.proofs.Common.{List, ap, arith, drop, length, sym, take, ℕ, ◌++◌, ◌+◌, ◌∙◌, ◌≡◌, ◌≤◌}
use Rattle.std.proofs.Math.Seq.{drop-append-add, drop-append_seam, take-append_seam, take-length}
use Rattle.std.proofs.lemmas.Grind.{common_steps}
use Rattle.std.proofs.lemmas.List.{length-append, length-drop, length-take-le}

-- a list with its part from i on written over, before it is cut to the old length
abbrev pub over : List ℕ → ℕ → List ℕ → List ℕ
over xs i ws = take i xs ++ (ws ++ drop (i + length ws) xs)

module _ (xs : List ℕ) (i : ℕ) (ws : List ℕ) (fits : i + length ws ≤ length xs) where
  front : length (take i xs) ≡ i
  front = length-take-le i xs (omega arith)

  length-over : length (over xs i ws) ≡ length xs
  length-over = grind (arith, length-append, length-drop, front)

  -- so nothing is cut off
  uncut : take (length xs) (over xs i ws) ≡ over xs i ws
  uncut = ap (λ n. take n (over xs i ws)) (sym length-over) ∙ take-length (over xs i ws)

  take-over : take i (over xs i ws) ≡ take i xs
  take-over = ap (λ n. take n (over xs i ws)) (sym front) ∙ take-append_seam (take i xs) (ws ++ drop (i + length ws) xs)

  part-over : take (length ws) (drop i (over xs i ws)) ≡ ws
  part-over = grind (arith, front, drop-append_seam, take-append_seam)

  drop-over : drop (i + length ws) (over xs i ws) ≡ drop (i + length ws) xs
  drop-over = grind (arith, front, drop-append-add, drop-append_seam)

-- a chunk inside that is written over whole is all that changes
pub written-changes : (held : HeldBytes) (chunk : Chunk) (bytes : List ℕ) →
    IsInside (held_region held) chunk → length bytes ≡ chunk.len → ChangesOnly held (written held chunk bytes) chunk bytes
written-changes held chunk bytes inside len = grind (arith, common_steps, uncut, length-over, part-over, take-over, drop-over)
