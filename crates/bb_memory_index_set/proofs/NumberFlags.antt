-- Flags of the numbers that are in a set, and the others as the first entries of an array.
use Rattle.bb_memory_index_set.proofs.Listings.{filled, opened, room_left}
use Rattle.bb_memory_index_set.proofs.NumberSets.{has_or_lacks}
use Rattle.bb_memory_index_set.specs.IndexSets.{AreFlags, Has, IsFull, Lacks}
use Rattle.bb_memory_lists.proofs.SliceGets.{slice_get-replicate, slice_get-set_other, slice_get-set_same}
use Rattle.std.proofs.Common.{Bool, List, [], arith, false, get_or, get_or-set_other, get_or-set_same, length, length-set, refl, replicate, set, suc, sym, take, true, zero, ℕ, ◌+◌, ◌-◌, ◌<◌, ◌∙◌, ◌∷◌, ◌≡◌, ◌≢◌, ◌≤◌}
use Rattle.std.proofs.lemmas.List.{length-replicate, length-take-le}
use Rattle.std.proofs.lemmas.Option.{slice_get-get_or, slice_get_within}
use Rattle.std.specs.Prelude.{IsTrue, Some, slice_get, ◌↔◌}

-- a number below the bound has its flag among the first ones
slice_get-take : (bound : ℕ) (held : List Bool) (n : ℕ) → n < bound → slice_get (take bound held) n ≡ slice_get held n
slice_get-take zero held n below = absurd (omega arith)
slice_get-take (suc bound) [] n below = refl
slice_get-take (suc bound) (flag ∷ held) zero below = refl
slice_get-take (suc bound) (flag ∷ held) (suc n) below = slice_get-take bound held n (omega arith)

-- another number's flag stays
others : (held : List Bool) (number : ℕ) (flag : Bool) (other : ℕ) → other ≢ number →
    (Lacks held other → Lacks (set held number flag) other) × (Lacks (set held number flag) other → Lacks held other)
others held number flag other apart =
    let same = slice_get-set_other held number other flag apart in (λ lacks. same ∙ lacks, λ lacks. sym same ∙ lacks)

has_not_lacks : (set : List Bool) (number : ℕ) → Has set number → Lacks set number → ⊥
has_not_lacks set number has lacks = let both : Some true ≡ Some false = sym has ∙ lacks in cc

module _ (room bound : ℕ) (held : List Bool) (free : List ℕ) (left : ℕ) (is : AreFlags room bound held free left) where
  pub length-flags : length (take bound held) ≡ bound
  length-flags = length-take-le bound held (omega (arith, is.len, is.fits))

  -- with no entry left every number is in the set
  pub all_held : left ≡ 0 → IsFull (take bound held)
  all_held none n below = grind (arith, length-flags, has_or_lacks, slice_get-take)

  -- otherwise the last entry is a number that isn't in the set
  pub lacked : 0 < left → (get_or free (left - 1) 0 < bound) × Lacks (take bound held) (get_or free (left - 1) 0)
  lacked some = grind (arith, slice_get-take)

  -- that number is removed from the entries, and its flag is set
  pub taken_off : 0 < left → AreFlags room bound (set held (get_or free (left - 1) 0) true) free (left - 1)
  taken_off some =
      let number = get_or free (left - 1) 0 in
      let has = slice_get-set_same held number true false (is.listing.each (left - 1) (omega arith)) in
      record {
        len = length-set held number true ∙ is.len;
        free_len = is.free_len;
        fits = is.fits;
        listing = filled bound (Lacks held) (Lacks (set held number true)) (λ k. get_or free k 0) (λ k. get_or free k 0) left
            number is.listing (others held number true) some refl (has_not_lacks (set held number true) number has) (λ k h. refl);
      }

  -- a number of the set is put after the entries, and its flag is cleared
  pub put_behind : (number : ℕ) → Has (take bound held) number →
      (number < bound) × (left < bound) × AreFlags room bound (set held number false) (set free left number) (left + 1)
  put_behind number has =
      let below : number < bound = omega (arith, slice_get_within (take bound held) number true has, length-flags) in
      let flag : Has held number = sym (slice_get-take bound held number below) ∙ has in
      let out = has_not_lacks held number flag in
      let fits : left < bound = room_left bound (Lacks held) (λ k. get_or free k 0) left number is.listing below out in (
        below,
        fits,
        record {
          len = length-set held number false ∙ is.len;
          free_len = length-set free left number ∙ is.free_len;
          fits = is.fits;
          listing = opened bound (Lacks held) (Lacks (set held number false)) (λ k. get_or free k 0)
              (λ k. get_or (set free left number) k 0) left number is.listing (others held number false) below out
              (slice_get-set_same held number false true flag)
              (get_or-set_same free left number 0 (omega (arith, fits, is.free_len, is.fits)))
              (λ k h. get_or-set_other free left k number 0 (omega arith));
        },
      )

  -- a number's flag says whether it is in the set
  pub has_flag : (number : ℕ) → number < bound → IsTrue (get_or held number false) ↔ Has (take bound held) number
  has_flag number below = grind (arith, slice_get-take, slice_get-get_or)

-- none is set at first, and every number is an entry
pub flags_fresh : (room bound : ℕ) (free : List ℕ) → bound ≤ room → length free ≡ room →
    ((k : ℕ) → k < bound → get_or free k 0 ≡ bound - 1 - k) → AreFlags room bound (replicate room false) free bound
flags_fresh room bound free fits len named = record {
  len = length-replicate room false;
  free_len = len;
  fits = fits;
  listing = record {
    fits = omega arith;
    below = λ k h. omega (arith, named k h);
    each = λ k h. slice_get-replicate room (get_or free k 0) false (omega (arith, named k h));
    once = λ i k before h same. absurd (omega (arith, named i (omega arith), named k h, same));
    all = λ a within lacks. (bound - 1 - a, omega arith, omega (arith, named (bound - 1 - a) (omega arith)));
  };
}
