-- Parties by their numbers: the position of a party among those that haven't joined, and how that
-- party joins.
use Rattle.bb_memory_c.specs.SharedPools.{HasUnjoined, IsNumberAt, IsWithout, PoolParties, with_last, with_unjoined}
use Rattle.bb_memory_lists.proofs.SliceGets.{slice_get-last}
use Rattle.bb_memory_shared_pools.specs.SharedPool.{PoolParty}
use Rattle.bb_memory_shared_pools.specs.SharedPoolCaching.{CachingParty}
use Rattle.std.proofs.Common.{List, Some, [], ap, arith, inl, inr, length, subst, sym, ℕ, ◌++◌, ◌+◌, ◌-◌, ◌<◌, ◌∙◌, ◌∷◌, ◌≡◌, ◌≢◌}
use Rattle.std.proofs.lemmas.Bool.{cases_eq}
use Rattle.std.proofs.lemmas.Grind.{elements}
use Rattle.std.proofs.lemmas.List.{ext_get_or, length-append}
use Rattle.std.proofs.lemmas.List.Edits.{length-swap, swap_is}
use Rattle.std.proofs.lemmas.Option.{same_Some, slice_get-get_or, slice_get_within}
use Rattle.std.specs.Prelude.{slice_get, swap}

-- A PLACE

-- a party of another number isn't the one
pub other-number : (parties : List PoolParty) (at number : ℕ) (party : PoolParty) → slice_get parties at ≡ Some party →
    party.number ≢ number → ¬ IsNumberAt parties at number
other-number parties at number party there apart (it, is, named) =
    apart (ap (λ (p : PoolParty). p.number) (same_Some party it (sym there ∙ is)) ∙ named)

-- one place more
pub none-more : (parties : List PoolParty) (at number : ℕ) → ((k : ℕ) → k < at → ¬ IsNumberAt parties k number) →
    ¬ IsNumberAt parties at number → (k : ℕ) → k < at + 1 → ¬ IsNumberAt parties k number
none-more parties at number before here k below = elim (cases_eq k at) [
  | inl same ↦ λ it. here (subst (λ (i : ℕ). IsNumberAt parties i number) same it)
  | inr apart ↦ before k (omega arith)
]

pub none-at-all : (all : PoolParties) (at number : ℕ) → length all.parties ≡ at →
    ((k : ℕ) → k < at → ¬ IsNumberAt all.parties k number) → ¬ HasUnjoined all number
none-at-all all at number end none (k, it) =
    none k (omega (arith, end, slice_get_within all.parties k it.0 it.1)) it

-- A SWAP

swapped-back : {X : Type 0} (xs : List X) (i j : ℕ) (d : X) → i < length xs → j < length xs → swap (swap xs i j) i j ≡ xs
swapped-back xs i j d below there =
    let once = swap_is xs i j d below there in
    let long = length-swap xs i j in
    let twice = swap_is (swap xs i j) i j d (omega arith) (omega arith) in
    sym twice ∙ ext_get_or d _ xs (grind (arith, elements, long)) (λ k lt. grind (arith, elements, sym once))

swapped-there : {X : Type 0} (xs : List X) (i j : ℕ) (x : X) → slice_get xs i ≡ Some x → j < length xs →
    slice_get (swap xs i j) j ≡ Some x
swapped-there xs i j x is there = grind (arith, elements, swap_is, slice_get-get_or, length-swap, slice_get_within)

pub with_last-back : (all : PoolParties) (at : ℕ) (party : PoolParty) → slice_get all.parties at ≡ Some party →
    with_last (with_last all at) at ≡ all
with_last-back all at party there =
    let parties = all.parties in
    let last = length parties - 1 in
    let below = slice_get_within parties at party there in
    let long = length-swap parties at last in
    let same : length (swap parties at last) - 1 ≡ last = ap (λ (n : ℕ). n - 1) long in
    ap (λ (list : List PoolParty). record { shared = all.shared; parties = list })
    (ap (λ (n : ℕ). swap (swap parties at last) at n) same ∙ swapped-back parties at last party below (omega arith))

-- JOINING

-- the last one joined, after the party of the number was made the last one
pub joined-by-number : (all swapped after : PoolParties) (at number : ℕ) (joined : CachingParty) →
    IsNumberAt all.parties at number → swapped ≡ with_last all at → swapped ≡ with_unjoined after joined →
    (joined.party.number ≡ number) × IsWithout all joined.party after
joined-by-number all swapped after at number joined it is becomes =
    let party = it.0 in
    let parties = all.parties in
    let last = length parties - 1 in
    let below = slice_get_within parties at party it.1 in
    let lists : swap parties at last ≡ after.parties ++ joined.party ∷ [] =
    ap (λ (p : PoolParties). p.parties) (sym is ∙ becomes) in
    let long = length-append after.parties (joined.party ∷ []) in
    let count : length after.parties ≡ last = omega (
      arith,
      long,
      ap (λ (l : List PoolParty). length l) lists,
      length-swap parties at last,
    ) in
    let own = slice_get-last after.parties joined.party in
    let its = swapped-there parties at last party it.1 (omega arith) in
    let same : party ≡ joined.party = same_Some party joined.party (sym its ∙ ap (λ (l : List PoolParty). slice_get l last) lists
    ∙ ap (λ (n : ℕ). slice_get (after.parties ++ joined.party ∷ []) n) (sym count) ∙ own) in (
      ap (λ (p : PoolParty). p.number) (sym same) ∙ it.2,
      (at, it.1 ∙ ap Some same, sym becomes ∙ is),
    )
