-- How many members a set of numbers has, and the greatest number of members that it has had.
use Rattle.bb_memory_index_set.specs.IndexSets.{Has, IsTally, Lacks, member_count}
use Rattle.std.proofs.Common.{Bool, List, [], ap, arith, false, get_or, length, length-set, max, min, refl, replicate, set, suc, sym, true, zero, ℕ, ◌+◌, ◌-◌, ◌<◌, ◌∷◌, ◌≡◌, ◌≤◌}
use Rattle.std.proofs.lemmas.Grind.{common_steps}
use Rattle.std.proofs.lemmas.List.Sums.{count_by-le-length, sum_by-cons, sum_by-set}
use Rattle.std.proofs.lemmas.Option.{get_or_from_slice_get, slice_get_within}
use Rattle.std.specs.Prelude.{if◌then◌else◌}

-- a flag counts for one or nothing
abbrev weight : Bool → ℕ
weight flag = if flag then 1 else 0

-- one more
pub member_count-taken : (numbers : List Bool) (i : ℕ) → Lacks numbers i →
    member_count (set numbers i true) ≡ member_count numbers + 1
member_count-taken numbers i lacks =
    let was : weight (get_or numbers i false) ≡ 0 = ap weight (get_or_from_slice_get numbers i false false lacks) in
    omega (arith, sum_by-set weight numbers i true false (slice_get_within numbers i false lacks), was)

-- one less
pub member_count-released : (numbers : List Bool) (i : ℕ) → Has numbers i →
    member_count (set numbers i false) + 1 ≡ member_count numbers
member_count-released numbers i has =
    let was : weight (get_or numbers i false) ≡ 1 = ap weight (get_or_from_slice_get numbers i true false has) in
    omega (arith, sum_by-set weight numbers i false false (slice_get_within numbers i true has), was)

pub member_count-fresh : (bound : ℕ) → member_count (replicate bound false) ≡ 0
member_count-fresh zero = refl
member_count-fresh (suc bound) =
    let rest = member_count-fresh bound in omega (arith, sum_by-cons weight false (replicate bound false))

-- if one member is counted, the set has a number
pub some_member : (numbers : List Bool) → 0 < member_count numbers → (i : ℕ) × Has numbers i
some_member [] some = absurd (omega arith)
some_member (true ∷ numbers) some = (zero, refl)
some_member (false ∷ numbers) some =
    let (i, has) = some_member numbers (omega (arith, some, sum_by-cons weight false numbers)) in (suc i, has)

-- a number is taken
pub tally-taken : (numbers : List Bool) (count most i : ℕ) → IsTally numbers count most → Lacks numbers i →
    IsTally (set numbers i true) (count + 1) (max most (count + 1))
tally-taken numbers count most i is lacks = grind (arith, member_count-taken, length-set, count_by-le-length)

-- if a number isn't in the set, not all are counted
pub tally-room : (numbers : List Bool) (count most i : ℕ) → IsTally numbers count most → Lacks numbers i →
    count < length numbers
tally-room numbers count most i is lacks =
    let more = tally-taken numbers count most i is lacks in omega (arith, more.few, more.within, length-set numbers i true)

-- a number of the set is given back
pub tally-released : (numbers : List Bool) (count most i : ℕ) → IsTally numbers count most → Has numbers i →
    IsTally (set numbers i false) (count - 1) most
tally-released numbers count most i is has = grind (arith, member_count-released, length-set)

-- if the set has a member, that member is counted
pub tally-some : (numbers : List Bool) (count most i : ℕ) → IsTally numbers count most → Has numbers i → 1 ≤ count
tally-some numbers count most i is has = omega (arith, is.members, member_count-released numbers i has)

pub tally-fresh : (bound : ℕ) → IsTally (replicate bound false) 0 0
tally-fresh bound = record { members = sym (member_count-fresh bound); few = omega arith; within = omega arith }

-- OF A BOUND, ALL BUT THOSE THAT ARE LEFT, AND NEVER FEWER THAN THE LEAST

-- one of them is taken
module _ (bound left least now i : ℕ) (numbers new : List Bool) (is : IsTally numbers (bound - left) (bound - least))
    (lacks : Lacks numbers i) (after : new ≡ set numbers i true) (lower : now ≡ min least (left - 1)) (some : 0 < left)
    (fits : left ≤ bound) where
  pub left-taken : IsTally new (bound - (left - 1)) (bound - now)
  left-taken =
      let more = tally-taken numbers (bound - left) (bound - least) i is lacks in
      let one : bound - (left - 1) ≡ bound - left + 1 = omega arith in
      let most : bound - now ≡ max (bound - least) (bound - left + 1) = omega arith in
      rw (after, one, most) more

  pub most-taken : bound - now ≡ max (bound - least) (member_count new)
  most-taken =
      let more = tally-taken numbers (bound - left) (bound - least) i is lacks in
      rw after (omega (arith, more.members))

-- one is given back
pub left-released : (bound left least i : ℕ) (numbers new : List Bool) → IsTally numbers (bound - left) (bound - least) →
    Has numbers i → new ≡ set numbers i false → IsTally new (bound - (left + 1)) (bound - least)
left-released bound left least i numbers new is has after =
    let less = tally-released numbers (bound - left) (bound - least) i is has in
    let one : bound - (left + 1) ≡ bound - left - 1 = omega arith in
    rw (after, one) less

-- all are left
pub left-fresh : (bound : ℕ) (numbers : List Bool) → numbers ≡ replicate bound false →
    IsTally numbers (bound - bound) (bound - bound)
left-fresh bound numbers none = grind (arith, common_steps)
