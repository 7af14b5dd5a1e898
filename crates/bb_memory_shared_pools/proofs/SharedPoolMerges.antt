-- Parties that come to one seat, and what their meeting shows about their logs.
use Rattle.atomic_table.specs.Seated.{TableId}
use Rattle.atomic_table.specs.Table.{Me}
use Rattle.bb_memory_lists.proofs.ListEntries.{any_contained}
use Rattle.bb_memory_pool_machine.proofs.PoolFlags.{flag_from_taken, taken_from_flag}
use Rattle.bb_memory_pool_machine.proofs.PoolLogFacts.{machine_flag, named_from_log, taken_is_held_whole}
use Rattle.bb_memory_pool_machine.proofs.PoolLogSteps.{opening_agrees}
use Rattle.bb_memory_pool_machine.specs.PoolLogs.{HasLog, IsDetachedIn, IsHeldAfter, PoolLog, is_taken}
use Rattle.bb_memory_pool_machine.specs.PoolMachine.{PoolScene, PoolState, left_by}
use Rattle.bb_memory_pool_machine.specs.declared.hint.Hint.{Hint}
use Rattle.bb_memory_pool_machine.specs.declared.steps.pool.Flag.{Flag}
use Rattle.bb_memory_pool_machine.specs.declared.steps.pool.Flag.TheVariants.{DetachedBy, Free, HeldBy}
use Rattle.bb_memory_seats.proofs.PartyNumbers.{all_there, has_number, logs_had, numbers_differ, owner}
use Rattle.bb_memory_seats.specs.Seats.{standing_for, times_in}
use Rattle.bb_memory_shared_pools.specs.SharedPool.{IsSharedScene, PoolParty, SharedPool}
use Rattle.bb_memory_shared_pools.specs.SharedPoolMeetings.{HaveMet, IsHeldByOne, MetDetached, MetUndetached}
use Rattle.bb_memory_shared_pools.specs.SharedPoolRule.{AfterMeetingLoad, IsPartySeat, NumberedLog, SeatView, numbered_of, of_pool, party_in}
use Rattle.std.proofs.Common.{Bool, List, Some, [], ap, arith, inl, inr, length, refl, replicate, subst, sym, true, ℕ, ◌++◌, ◌∙◌, ◌∷◌, ◌≡◌, ◌≤◌}
use Rattle.std.proofs.lemmas.List.{length-map, length-replicate, map-append}
use Rattle.std.proofs.lemmas.List.Elements.{All-contains, All-from_recursion, All-head, All-nil, All-replicate, All-tail}
use Rattle.std.proofs.lemmas.Option.{same_Some}
use Rattle.std.specs.Prelude.{All, Contains, map, slice_get}

-- GATHERING

-- a party's seat stands only for that party
pub parties_of : (table : TableId) (number : ℕ) (hint : Hint) (me : Me ℕ SeatView) (party : PoolParty) →
    IsPartySeat number hint me → party_in table number me.0 ≡ party → me.0.parties ≡ numbered_of party ∷ []
parties_of table number hint me party fields view_is =
    ap (λ (m : Me ℕ SeatView). m.0.parties) fields.seat.seat.is ∙ ap (λ (p : PoolParty). numbered_of p ∷ []) view_is

-- the last of a list comes to the seat
pub all_merged : (table : TableId) (number : ℕ) (hint : Hint) (me : Me ℕ SeatView) (party : PoolParty)
    (items rest : List PoolParty) →
    IsPartySeat number hint me → party_in table number me.0 ≡ party → items ≡ rest ++ party ∷ [] →
    map numbered_of rest ++ me.0.parties ≡ map numbered_of items
all_merged table number hint me party items rest fields view_is is =
    ap (λ (last : List NumberedLog). map numbered_of rest ++ last) (parties_of table number hint me party fields view_is)
    ∙ sym (map-append numbered_of rest (party ∷ [])) ∙ ap (map numbered_of) (sym is)

-- parties of a pool are those of its numbers and logs
of_its_numbers : (pool : SharedPool) (items : List PoolParty) → All (λ party. party.allocator ≡ pool) items →
    map (of_pool pool) (map numbered_of items) ≡ items
of_its_numbers pool [] all = refl
of_its_numbers pool (party ∷ items) all =
    let its = All-head (λ (p : PoolParty). p.allocator ≡ pool) party items all in
    let rest = of_its_numbers pool items (All-tail (λ (p : PoolParty). p.allocator ≡ pool) party items all) in
    λ i. record { allocator = sym its i; number = party.number; log = party.log } ∷ rest i

-- so they are as they were if the numbers and logs are
pub of_same_numbers : (pool : SharedPool) (items now : List PoolParty) → All (λ party. party.allocator ≡ pool) items →
    map numbered_of now ≡ map numbered_of items → map (of_pool pool) (map numbered_of now) ≡ items
of_same_numbers pool items now all same = ap (map (of_pool pool)) same ∙ of_its_numbers pool items all

-- a seat that stands only for a party is as that party's seat is
pub same_seat : (scene : PoolScene) (table : TableId) (number : ℕ) (hint : Hint) (me new : Me ℕ SeatView) (party : PoolParty) →
    IsPartySeat number hint me → party_in table number me.0 ≡ party → party.allocator.scene ≡ scene →
    new ≡ (standing_for scene (numbered_of party ∷ []), []) → new ≡ me
same_seat scene table number hint me new party is view_is its back =
    let own : me.0.scene ≡ scene = ap (λ (p : PoolParty). p.allocator.scene) view_is ∙ its in
    back ∙ (λ i. (standing_for (sym own i) (numbered_of (sym view_is i) ∷ []), [])) ∙ sym is.seat.seat.is

-- a seat that stands for some parties stands for its own
pub stands_for : (scene : PoolScene) (parties : List NumberedLog) (me : Me ℕ SeatView) →
    me ≡ (standing_for scene parties, []) → me ≡ (standing_for scene me.0.parties, [])
stands_for scene parties me is = is ∙ sym (ap (λ (m : Me ℕ SeatView). (standing_for scene m.0.parties, [])) is)

-- the parties at a seat are the same by the numbers and logs of others
pub parties_at : (scene : PoolScene) {was now : List NumberedLog} (behind : List NumberedLog) (me : Me ℕ SeatView) →
    me ≡ (standing_for scene (was ++ behind), []) → now ≡ was → me ≡ (standing_for scene (now ++ behind), [])
parties_at scene behind me is same = is ∙ λ i. (standing_for scene (sym same i ++ behind), [])

-- WHAT A MEETING SAYS

-- how the logs of parties agree with the flags of their meeting
module _ (scene : PoolScene) (items : List PoolParty) (told : AfterMeetingLoad scene (map numbered_of items)) where
  had : All (λ party. HasLog told.logs party.number party.log) items
  had = All-from_recursion (λ (p : PoolParty). HasLog told.logs p.number p.log) items
      (logs_had numbered_of scene.parties told.logs items told.theirs)

  its_own : (one : PoolParty) → Contains items one → HasLog told.logs one.number one.log
  its_own one there = All-contains (λ (p : PoolParty). HasLog told.logs p.number p.log) items one had there

  -- a number in the list has the log of its party there. A bucket that is held after that log is held by one of the parties
  its_log : (number : ℕ) → 1 ≤ times_in number (map numbered_of items) → (log : PoolLog) × HasLog told.logs number log
  its_log number some =
      let one = owner numbered_of items number some in
      (one.one.log, subst (λ (n : ℕ). HasLog told.logs n one.one.log) one.its (its_own one.one one.there))

  its_bucket : (number : ℕ) (log : PoolLog) (bucket : ℕ) → 1 ≤ times_in number (map numbered_of items) →
      HasLog told.logs number log → IsHeldAfter log bucket → IsHeldByOne items bucket
  its_bucket number log bucket some at held =
      let one = owner numbered_of items number some in
      let same = same_Some one.one.log log (sym (its_own one.one one.there) ∙ ap (slice_get told.logs) one.its ∙ at) in
      any_contained (λ (p : PoolParty). IsHeldAfter p.log bucket) items one.one one.there
      (subst (λ (l : PoolLog). IsHeldAfter l bucket) (sym same) held)

  -- the flags, each taken or not
  abbrev state : PoolState
  state = left_by scene told.agree.steps

  abbrev taken_flags : List Bool
  taken_flags = map is_taken told.flags

  same_flags : map is_taken state.flags ≡ taken_flags
  same_flags = ap (λ (flags : List Flag). map is_taken flags) told.agree.leaves

  -- a bucket that one of them holds is taken
  one_taken : (bucket : ℕ) (one : IsHeldByOne items bucket) → slice_get taken_flags bucket ≡ Some true
  one_taken bucket one =
      let own = subst (λ (p : PoolParty). HasLog told.logs p.number p.log) one.3 (had one.0 one.1 one.2) in
      let named = named_from_log scene told.flags told.logs one.1.number one.1.log bucket told.agree own one.4 in
      flag_from_taken state taken_flags bucket same_flags
      (inl (one.1.number, machine_flag scene told.flags told.logs bucket told.agree (HeldBy one.1.number) named))

  pub agrees : HaveMet scene items
  agrees = (
    taken_flags,
    record {
      named = told.flags;
      taken = refl;
      logs = told.logs;
      agree = told.agree;
      one_a_party = told.one_a_party;
      theirs = had;
      differ = numbers_differ numbered_of scene.parties told.logs items told.theirs told.once;
      whole = λ long.
          let long_so : length (map numbered_of items) ≡ scene.parties = length-map items numbered_of ∙ long in
          let there = all_there scene.parties told.logs (map numbered_of items) told.theirs told.once long_so in (
            λ number below. has_number numbered_of items number (there number below),
            λ bucket. (
              λ taken. elim (taken_is_held_whole scene told.flags told.logs bucket told.agree
                  (λ number below. its_log number (there number below))
                  (taken_from_flag state taken_flags bucket same_flags taken)) [
                    | inl holder ↦ inl (its_bucket holder.0 holder.1 bucket (there holder.0 holder.2) holder.3 holder.4)
                    | inr detached ↦ inr detached
                  ],
              λ out. elim out [
                | inl one ↦ one_taken bucket one
                | inr detached ↦ flag_from_taken state taken_flags bucket same_flags (inr detached)
              ],
            ),
          );
    },
  )

  -- the bucket was detached when they met, or not, as its flag says
  pub met_detached_at : (bucket : ℕ) → IsDetachedIn told.flags bucket → MetDetached scene items bucket
  unfolding agrees
  met_detached_at bucket (sender, is) = (
    agrees,
    (sender, machine_flag scene told.flags told.logs bucket told.agree (DetachedBy sender) is),
  )

  pub met_undetached_at : (bucket : ℕ) → ¬ IsDetachedIn told.flags bucket → MetUndetached scene items bucket
  unfolding agrees
  met_undetached_at bucket other = (
    agrees,
    λ detached. other
        (detached.0, ap (λ (all : List Flag). slice_get all bucket) (sym told.agree.leaves) ∙ detached.1),
  )

-- a meeting of none
pub none_met : (scene : PoolScene) (items : List PoolParty) → IsSharedScene scene → items ≡ [] → HaveMet scene items
none_met scene items shared none =
    let logs : List PoolLog = replicate scene.parties [] in
    subst (HaveMet scene) (sym none) (
      map is_taken (replicate scene.geometry.buckets Free),
      record {
        named = replicate scene.geometry.buckets Free;
        taken = refl;
        logs = logs;
        agree = opening_agrees scene logs (All-replicate (λ (log : PoolLog). log ≡ []) scene.parties [] refl);
        one_a_party = length-replicate scene.parties [];
        theirs = All-nil (λ (p : PoolParty). HasLog logs p.number p.log);
        differ = λ i j one other at at_other apart same. absurd (cc);
        whole = λ long. let some = shared.parties in absurd (omega (arith, some, long));
      },
    )
