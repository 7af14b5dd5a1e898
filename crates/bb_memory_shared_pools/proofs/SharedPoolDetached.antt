-- Detached buckets: which of them are in the views of seats, and how they stay detached while parties step.
use Rattle.bb_memory_lists.proofs.SliceGets.{slice_get-set_apart, slice_get-set_at}
use Rattle.bb_memory_pool_machine.specs.declared.steps.pool.Flag.{Flag}
use Rattle.bb_memory_pool_machine.specs.declared.steps.pool.Flag.TheVariants.{Free}
use Rattle.bb_memory_seats.proofs.Seatings.{one_apart, one_same, total-at, total-push, total-set}
use Rattle.bb_memory_seats.specs.Seats.{head_of, tail_of, times_detached, times_of}
use Rattle.bb_memory_shared_pools.specs.FlagWords.{HasToken, with_token}
use Rattle.bb_memory_shared_pools.specs.SharedPoolRule.{AreDetached, SeatView}
use Rattle.std.proofs.Common.{List, Some, [], ap, arith, inl, inr, refl, set, subst, suc, sym, zero, ℕ, ◌++◌, ◌+◌, ◌∙◌, ◌∷◌, ◌≡◌, ◌≢◌, ◌≤◌}
use Rattle.std.proofs.lemmas.Bool.{cases_eq}
use Rattle.std.proofs.lemmas.Option.{same_Some}
use Rattle.std.specs.Prelude.{slice_get, slice_set}
use lib.ListN.{get_elem?}
use mathlib.Core.Option.{some}

-- HOW OFTEN A BUCKET STANDS IN VIEWS

abbrev moving_at : ℕ → SeatView → ℕ
moving_at item view = times_of item view.detached

times_of-append : (item : ℕ) (xs ys : List ℕ) → times_of item (xs ++ ys) ≡ times_of item xs + times_of item ys
times_of-append item [] ys = omega arith
times_of-append item (x ∷ xs) ys = let rest = times_of-append item xs ys in omega arith

pub times_of-parts : (item : ℕ) (items : List ℕ) →
    times_of item (head_of items) + times_of item (tail_of items) ≡ times_of item items
times_of-parts item [] = refl
times_of-parts item (first ∷ items) = omega arith

times_of-own : (item : ℕ) → times_of item (item ∷ []) ≡ 1
times_of-own item = let one = one_same item item refl in omega arith

times_of-other : (item other : ℕ) → other ≢ item → times_of item (other ∷ []) ≡ 0
times_of-other item other apart = let none = one_apart other item apart in omega arith

-- WHAT STAYS SO

-- views in which each bucket occurs as often as before, or less often
fewer_detached : (marks : List Flag) (views new : List SeatView) → AreDetached marks views →
    ((bucket : ℕ) → times_detached bucket new ≤ times_detached bucket views) → AreDetached marks new
fewer_detached marks views new are fewer = record {
  each = λ bucket some. let less = fewer bucket in are.each bucket (omega arith);
  once = λ bucket. let less = fewer bucket in let one = are.once bucket in omega arith;
}

pub detached_split : (marks : List Flag) (views : List SeatView) (seat : ℕ) (view left right : SeatView) →
    ((bucket : ℕ) → times_of bucket left.detached + times_of bucket right.detached ≤ times_of bucket view.detached) →
    AreDetached marks views → get_elem? views seat ≡ some view →
    AreDetached marks (set views seat left ++ right ∷ [])
detached_split marks views seat view left right parts are at =
    fewer_detached marks views (set views seat left ++ right ∷ []) are (λ bucket.
    let pushed = total-push (moving_at bucket) (set views seat left) right in
    let placed = total-set (moving_at bucket) views seat view left at in
    let less = parts bucket in omega arith)

pub detached_joined : (marks : List Flag) (views : List SeatView) (seat other : ℕ)
    (view guest both spent : SeatView) → spent.detached ≡ [] →
    ((bucket : ℕ) → times_of bucket both.detached ≤ times_of bucket guest.detached + times_of bucket view.detached) →
    AreDetached marks views → get_elem? views seat ≡ some view → get_elem? (set views seat both) other ≡ some guest →
    AreDetached marks (set (set views seat both) other spent)
detached_joined marks views seat other view guest both spent empty parts are at there =
    let first : List SeatView = set views seat both in
    fewer_detached marks views (set first other spent) are (λ bucket.
    let placed = total-set (moving_at bucket) views seat view both at in
    let emptied = total-set (moving_at bucket) first other guest spent there in
    let none = ap (times_of bucket) empty in
    let less = parts bucket in omega arith)

pub both_parts : (guest view : List ℕ) (bucket : ℕ) →
    times_of bucket (guest ++ view) ≤ times_of bucket guest + times_of bucket view
both_parts guest view bucket = let same = times_of-append bucket guest view in omega arith

-- with another seat, at which nothing is detached
pub detached_entered : (marks : List Flag) (views : List SeatView) (view : SeatView) → view.detached ≡ [] →
    AreDetached marks views → AreDetached marks (views ++ view ∷ [])
detached_entered marks views view none are = fewer_detached marks views (views ++ view ∷ []) are (λ bucket.
    let pushed = total-push (moving_at bucket) views view in
    let empty = ap (times_of bucket) none in omega arith)

-- MARKS

-- a mark that is set at one bucket leaves the token of another
pub elsewhere : (marks : List Flag) (at bucket : ℕ) (mark : Flag) → at ≢ bucket → HasToken marks bucket →
    HasToken (slice_set marks at mark) bucket
elsewhere marks at bucket mark apart (sender, is) = (sender, slice_get-set_apart marks at bucket mark apart ∙ is)

-- a mark that is set at a bucket without a token leaves all tokens
pub still_detached : (marks : List Flag) (at bucket : ℕ) (mark : Flag) → ¬ HasToken marks at → HasToken marks bucket →
    HasToken (slice_set marks at mark) bucket
still_detached marks at bucket mark not_it (sender, is) =
    elsewhere marks at bucket mark (λ same. not_it (sender, ap (slice_get marks) same ∙ is)) (sender, is)

-- a free bucket has no token
pub free_not_detached : (marks : List Flag) (at : ℕ) → slice_get marks at ≡ Some Free → ¬ HasToken marks at
free_not_detached marks at free (sender, is) = let same = same_Some Free (with_token sender) (sym free ∙ is) in absurd (cc)

-- ONE STEP

-- a step of a party at whose seat nothing is detached, before or after
pub detached_kept : (marks new_marks : List Flag) (views : List SeatView) (seat : ℕ) (old new : SeatView) →
    old.detached ≡ [] → new.detached ≡ [] → get_elem? views seat ≡ some old → AreDetached marks views →
    ((bucket : ℕ) → HasToken marks bucket → HasToken new_marks bucket) →
    AreDetached new_marks (set views seat new)
detached_kept marks new_marks views seat old new none still_none at are keep = record {
  each = λ bucket some.
      let placed = total-set (moving_at bucket) views seat old new at in
      let before = ap (times_of bucket) none in
      let after = ap (times_of bucket) still_none in
      keep bucket (are.each bucket (omega arith));
  once = λ bucket.
      let placed = total-set (moving_at bucket) views seat old new at in
      let after = ap (times_of bucket) still_none in
      let one = are.once bucket in omega arith;
}

-- a party detaches a bucket, which wasn't detached before
pub more_detached : (marks : List Flag) (views : List SeatView) (seat item sender : ℕ) (old new : SeatView) (before : Flag) →
    old.detached ≡ [] → new.detached ≡ item ∷ [] → get_elem? views seat ≡ some old →
    slice_get marks item ≡ Some before → ¬ HasToken marks item → AreDetached marks views →
    AreDetached (slice_set marks item (with_token sender)) (set views seat new)
more_detached marks views seat item sender old new before none one at there not_yet are = record {
  each = λ bucket some. elim (cases_eq item bucket) [
    | inl same ↦ (sender, slice_get-set_at marks item bucket (with_token sender) before same there)
    | inr apart ↦
        let placed = total-set (moving_at bucket) views seat old new at in
        let empty = ap (times_of bucket) none in
        let after = ap (times_of bucket) one in
        let other = times_of-other bucket item apart in
        elsewhere marks item bucket (with_token sender) apart (are.each bucket (omega arith))
  ];
  once = λ bucket. elim (cases_eq item bucket) [
    | inl same ↦
        let placed = total-set (moving_at bucket) views seat old new at in
        let after = ap (times_of bucket) one in
        let own = times_of-own bucket in
        let here = ap (λ (i : ℕ). times_of bucket (i ∷ [])) same in
        let zero_times = none_yet bucket (λ moving. not_yet (subst (HasToken marks) (sym same) moving)) in omega arith
    | inr apart ↦
        let placed = total-set (moving_at bucket) views seat old new at in
        let after = ap (times_of bucket) one in
        let other = times_of-other bucket item apart in
        let most = are.once bucket in omega arith
  ];
}
  where
    by_count : (bucket count : ℕ) → times_detached bucket views ≡ count → ¬ HasToken marks bucket →
        times_detached bucket views ≡ 0
    by_count bucket zero is not_moving = is
    by_count bucket (suc count) is not_moving = absurd (not_moving (are.each bucket (omega arith)))

    none_yet : (bucket : ℕ) → ¬ HasToken marks bucket → times_detached bucket views ≡ 0
    none_yet bucket not_moving = by_count bucket (times_detached bucket views) refl not_moving

-- the mark of a bucket that is detached at a seat has a token
pub detached_of_seat : (marks : List Flag) (views : List SeatView) (seat item : ℕ) (view : SeatView) →
    view.detached ≡ item ∷ [] → get_elem? views seat ≡ some view → AreDetached marks views → HasToken marks item
detached_of_seat marks views seat item view one at are =
    let within = total-at (moving_at item) views seat view at in
    let here = ap (times_of item) one in
    let own = times_of-own item in
    are.each item (omega arith)

-- a party attaches a bucket that is detached at its seat, or gives it back: the bucket gets another mark
pub fewer_detached_one : (marks : List Flag) (views : List SeatView) (seat item : ℕ) (old new : SeatView) (mark : Flag) →
    old.detached ≡ item ∷ [] → new.detached ≡ [] → get_elem? views seat ≡ some old → AreDetached marks views →
    AreDetached (slice_set marks item mark) (set views seat new)
fewer_detached_one marks views seat item old new mark one none at are = record {
  each = λ bucket some.
      let placed = total-set (moving_at bucket) views seat old new at in
      let before = ap (times_of bucket) one in
      let after = ap (times_of bucket) none in
      elim (cases_eq item bucket) [
        | inl same ↦
            let here = ap (λ (i : ℕ). times_of bucket (i ∷ [])) same in
            let own = times_of-own bucket in
            let most = are.once bucket in absurd (omega arith)
        | inr apart ↦
            let other = times_of-other bucket item apart in
            elsewhere marks item bucket mark apart (are.each bucket (omega arith))
      ];
  once = λ bucket.
      let placed = total-set (moving_at bucket) views seat old new at in
      let after = ap (times_of bucket) none in
      let most = are.once bucket in omega arith;
}
