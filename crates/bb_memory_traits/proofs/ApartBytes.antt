-- The bytes of a chunk that is apart from the written one, and the bytes of a chunk in two parts.
use Rattle.bb_memory_traits.specs.Chunk.{AreApart, Chunk, IsInside, chunk_end}
use Rattle.bb_memory_traits.specs.HeldBytes.{ChangesOnly, HeldBytes, bytes_in, held_region}
use Rattle.std.proofs.Common.{List, ap, arith, drop, inl, inr, sym, take, ℕ, ⊎_elim, ◌++◌, ◌+◌, ◌-◌, ◌∙◌, ◌≡◌, ◌≤◌, ◌⊎◌}
use Rattle.std.proofs.Math.Seq.{take-add}
use Rattle.std.proofs.lemmas.Bool.{cases_lt}
use Rattle.std.proofs.lemmas.List.{drop-drop, drop-take, take-append-drop, take-take}

-- a part that ends at or before m is a part of the first m
part-before : (xs : List ℕ) (i n m : ℕ) → i + n ≤ m → take n (drop i xs) ≡ take n (drop i (take m xs))
part-before xs i n m within =
    let split : (i + n) + (m - (i + n)) ≡ m = omega arith in
    let one : take n (drop i xs) ≡ drop i (take (i + n) xs) = sym (drop-take i n xs) in
    let cut : take (i + n) (take m xs) ≡ take (i + n) xs = take-take (i + n) m xs within in
    one ∙ (ap (λ l. drop i l) (sym cut) ∙ drop-take i n (take m xs))

-- a part that begins at or after m is a part of the bytes after m
part-behind : (xs : List ℕ) (i n m : ℕ) → m ≤ i → take n (drop i xs) ≡ take n (drop (i - m) (drop m xs))
part-behind xs i n m after = grind (arith, drop-drop)

same-before : (xs ys : List ℕ) (i n m : ℕ) → i + n ≤ m → take m ys ≡ take m xs → take n (drop i ys) ≡ take n (drop i xs)
same-before xs ys i n m within same =
    part-before ys i n m within ∙ (ap (λ l. take n (drop i l)) same ∙ sym (part-before xs i n m within))

same-behind : (xs ys : List ℕ) (i n m : ℕ) → m ≤ i → drop m ys ≡ drop m xs → take n (drop i ys) ≡ take n (drop i xs)
same-behind xs ys i n m after same =
    part-behind ys i n m after ∙ (ap (λ l. take n (drop (i - m) l)) same ∙ sym (part-behind xs i n m after))

same-whole : (xs ys : List ℕ) (i m : ℕ) → take m ys ≡ take m xs → drop m ys ≡ drop m xs → ys ≡ xs
same-whole xs ys i m before behind =
    sym (take-append-drop m ys) ∙ (ap (λ l. l ++ drop m ys) before ∙ (ap (λ l. take m xs ++ l) behind ∙ take-append-drop m xs))

-- if two chunks share no number, one is empty, or one ends at or before the other
either : (one other : Chunk) → AreApart one other →
    (one.len ≡ 0) ⊎ ((other.len ≡ 0) ⊎ ((chunk_end other ≤ one.place) ⊎ (chunk_end one ≤ other.place)))
either one other apart =
    ⊎_elim (λ some. ⊎_elim (λ any. ⊎_elim
    (λ l. ⊎_elim (λ m. absurd (⊎_elim
    (λ below. apart (other.place, (omega (arith, below), m), (omega arith, omega (arith, any))))
    (λ above. apart (one.place, (omega arith, omega (arith, some)), (above, l)))
    (cases_lt one.place other.place)))
    (λ le. inr (inr (inr le))) (cases_lt other.place (chunk_end one)))
    (λ le. inr (inr (inl le))) (cases_lt one.place (chunk_end other)))
    (λ none. inr (inl (omega (arith, none)))) (cases_lt 0 other.len))
    (λ none. inl (omega (arith, none))) (cases_lt 0 one.len)

-- a chunk's bytes, of its length
pub span : (held : HeldBytes) (chunk : Chunk) → bytes_in held chunk ≡ take chunk.len (drop (chunk.place - held.start) held.bytes)
span held chunk = grind arith

pub apart-kept : (old new : HeldBytes) (chunk other : Chunk) (bytes : List ℕ) → ChangesOnly old new chunk bytes →
    IsInside (held_region old) chunk → IsInside (held_region old) other → AreApart chunk other →
    bytes_in new other ≡ bytes_in old other
apart-kept old new chunk other bytes changes inside within apart =
    let i : ℕ = chunk.place - old.start in
    let j : ℕ = other.place - old.start in
    let xs : List ℕ = old.bytes in
    let ys : List ℕ = new.bytes in
    let before : take i ys ≡ take i xs = ap (λ s. take (chunk.place - s) ys) (sym changes.start) ∙ changes.before in
    let behind : drop (i + chunk.len) ys ≡ drop (i + chunk.len) xs =
    ap (λ s. drop (chunk.place - s + chunk.len) ys) (sym changes.start) ∙ changes.behind in
    let core : take other.len (drop j ys) ≡ take other.len (drop j xs) =
    ⊎_elim
    (λ none.
    let i_same : i + chunk.len ≡ i = omega (arith, none) in
    let rest : drop i ys ≡ drop i xs = ap (λ k. drop k ys) (sym i_same) ∙ (behind ∙ ap (λ k. drop k xs) i_same) in
    ap (λ l. take other.len (drop j l)) (same-whole xs ys i i before rest))
    (⊎_elim (λ none. ap (λ n. take n (drop j ys)) none ∙ sym (ap (λ n. take n (drop j xs)) none))
    (⊎_elim
    (λ ends. same-before xs ys j other.len i (omega (arith, ends, inside.above, within.above)) before)
    (λ begins. same-behind xs ys j other.len (i + chunk.len) (omega (arith, begins, inside.above, within.above)) behind)))
    (either chunk other apart) in
    span new other ∙ (ap (λ s. take other.len (drop (other.place - s) ys)) changes.start ∙ (core ∙ sym (span old other)))

-- IN TWO PARTS

pub split-bytes : (held : HeldBytes) (place n m : ℕ) → held.start ≤ place → bytes_in held (record { place = place; len = n + m })
    ≡ bytes_in held (record { place = place; len = n }) ++ bytes_in held (record { place = place + n; len = m })
split-bytes held place n m above =
    let i : ℕ = place - held.start in
    let one : Chunk = record { place = place; len = n } in
    let other : Chunk = record { place = place + n; len = m } in
    let whole : Chunk = record { place = place; len = n + m } in
    let next : (place + n) - held.start ≡ i + n = omega arith in
    let rest : drop ((place + n) - held.start) held.bytes ≡ drop n (drop i held.bytes) =
    ap (λ k. drop k held.bytes) next ∙ sym (drop-drop n i held.bytes) in
    let second : bytes_in held other ≡ take m (drop n (drop i held.bytes)) = span held other ∙ ap (λ l. take m l) rest in
    span held whole ∙ (take-add n m (drop i held.bytes)
    ∙ (ap (λ l. l ++ take m (drop n (drop i held.bytes))) (sym (span held one)) ∙ ap (λ l. bytes_in held one ++ l) (sym second)))

-- a text that begins with a chunk's bytes goes on after them
pub extended-bytes : (old new : HeldBytes) (place n : ℕ) (chunk : Chunk) (bytes : List ℕ) → IsInside (held_region old) chunk →
    ChangesOnly old new chunk bytes → old.start ≤ place → place + n ≡ chunk.place →
    bytes_in new (record { place = place; len = n + chunk.len }) ≡ bytes_in old (record { place = place; len = n }) ++ bytes
extended-bytes old new place n chunk bytes inside changes above behind =
    let front : Chunk = record { place = place; len = n } in
    let second : Chunk = record { place = place + n; len = chunk.len } in
    let is : second ≡ chunk = ap (λ p. let c : Chunk = record { place = p; len = chunk.len } in c) behind in
    let kept : bytes_in new front ≡ bytes_in old front =
    apart-kept old new chunk front bytes changes inside
    (record { above = above; below = omega (arith, inside.below, behind) })
    (λ shared. omega (arith, shared.1.0, shared.2.1, behind)) in
    split-bytes new place n chunk.len (omega (arith, above, changes.start))
    ∙ (ap (λ l. l ++ bytes_in new second) kept ∙ ap (λ l. bytes_in old front ++ l) (ap (bytes_in new) is ∙ changes.inside))
