-- A party whose request's tries have ended, whichever buckets they tried.
use Rattle.atomic_table.specs.Seated.{TableId}
use Rattle.atomic_table.specs.Table.{Me}
use Rattle.bb_memory_pool_machine.proofs.PoolHolders.{held_through}
use Rattle.bb_memory_pool_machine.proofs.PoolSteps.{test_apart}
use Rattle.bb_memory_pool_machine.specs.PoolLogs.{IsHeldAfter, PoolLog}
use Rattle.bb_memory_pool_machine.specs.PoolMachine.{PoolScene}
use Rattle.bb_memory_pool_machine.specs.declared.hint.Hint.{Hint}
use Rattle.bb_memory_seats.specs.Seats.{number_of, view_log}
use Rattle.bb_memory_shared_pools.proofs.SharedPoolParties.{is_party}
use Rattle.bb_memory_shared_pools.specs.SharedPool.{AreAllHeldAfter, IsParty, MayRefuse, PoolParty, ServesAlone, SharedPool, chunk_of, taken_bucket}
use Rattle.bb_memory_shared_pools.specs.SharedPoolRule.{AfterCall, IsPartySeat, SeatView, party_in, pool_in}
use Rattle.bb_memory_traits.proofs.Measures.{bucket-inside, bucket_place-multiple}
use Rattle.bb_memory_traits.specs.Chunk.{IsInside}
use Rattle.bb_memory_traits.specs.Geometry.{Admits}
use Rattle.bb_memory_traits.specs.PoolObject.{IsPoolGeometry, IsWithin}
use Rattle.bb_memory_traits.specs.declared.allocator.AllocationError.{AllocationError}
use Rattle.bb_memory_traits.specs.declared.allocator.AllocationError.TheVariants.{AlignmentFailure, OutOfMemory, SizeIsZero, SizeTooLarge}
use Rattle.bb_memory_traits.specs.declared.layout.Layout.{Layout}
use Rattle.std.proofs.Common.{Bool, None, Option, Some, ap, arith, false, refl, subst, sym, true, ℕ, ◌++◌, ◌<◌, ◌∙◌, ◌≡◌, ◌≢◌, ◌≤◌}
use Rattle.std.proofs.lemmas.Bool.Decides.{nat_tests}
use Rattle.std.specs.Prelude.{Err, MatchOption, Ok, if◌then◌else◌, ◌%◌, ◌==◌}

-- whether a bucket is held after tries that took this one, or none
abbrev pub held_with : Option ℕ → ℕ → Bool → Bool
held_with (Some taken) bucket held = if taken == bucket then true else held
held_with None bucket held = held

still_with : (result : Option ℕ) (bucket : ℕ) (held : Bool) → held ≡ true → held_with result bucket held ≡ true
still_with None bucket held is = is
still_with (Some taken) bucket held is = ap (λ (b : Bool). if taken == bucket then true else b) is ∙ either (taken == bucket)
  where
    either : (b : Bool) → (if b then true else true) ≡ true
    either true = refl
    either false = refl

other_with : (result : Option ℕ) (bucket : ℕ) (held : Bool) → MatchOption result (Unit {0}) (λ taken. bucket ≢ taken) →
    held_with result bucket held ≡ true → held ≡ true
other_with None bucket held apart is = is
other_with (Some taken) bucket held apart is =
    sym (ap (λ (b : Bool). if b then true else held) (test_apart taken bucket (λ same. apart (sym same)))) ∙ is

-- tries that have ended: their entries in the log, the buckets that are held then, and their result
pub record HasAsked (scene : PoolScene) (number : ℕ) (log added : PoolLog) (result : Option ℕ) (new : Me ℕ SeatView)
    : Type 0 where
  pub ended : AfterCall scene number log added new
  pub leaves : (bucket : ℕ) → held_through bucket false (log ++ added) ≡ held_with result bucket (held_through bucket false log)
  pub found : MatchOption result (scene.parties ≡ 1 → AreAllHeldAfter log scene.geometry.buckets)
      (λ bucket. (bucket < scene.geometry.buckets) × (¬ IsHeldAfter log bucket))

-- a party of this pool, before its tries and after them
module _ (pool : SharedPool) (table new_table : TableId) (me new : Me ℕ SeatView) (number : ℕ) (hint next : Hint)
    (added : PoolLog) (party : PoolParty) (layout : Layout) (is : IsPartySeat number hint me) (now : IsPartySeat number next new)
    (view_is : party_in table number me.0 ≡ party) (own : party.allocator ≡ pool) where
  abbrev Asked : Option ℕ → Type 0
  Asked result = HasAsked pool.scene (number_of me.0) (view_log me.0) added result new

  -- the party stays the pool's
  pub stays : (result : Option ℕ) → new_table ≡ table → Asked result → pool_in new_table new.0 ≡ pool
  stays result kept asked = λ i. record {
    table = (kept ∙ ap (λ (p : PoolParty). p.allocator.table) view_is ∙ ap (λ (p : SharedPool). p.table) own) i;
    scene = ap (λ (m : Me ℕ SeatView). m.0.scene) asked.ended.seat.is i;
  }

  now_holds : (result : Option ℕ) → Asked result → (bucket : ℕ) →
      held_through bucket false (view_log new.0) ≡ held_with result bucket (held_through bucket false party.log)
  now_holds result asked bucket = ap (λ (m : Me ℕ SeatView). held_through bucket false (view_log m.0)) asked.ended.seat.is
      ∙ asked.leaves bucket ∙ ap (λ (p : PoolParty). held_with result bucket (held_through bucket false p.log)) view_is

  still : (result : Option ℕ) → Asked result → (other : ℕ) → IsHeldAfter party.log other → IsHeldAfter (view_log new.0) other
  still result asked other held = now_holds result asked other ∙ still_with result other (held_through other false party.log) held

  others : (result : Option ℕ) → Asked result → (other : ℕ) → MatchOption result (Unit {0}) (λ taken. other ≢ taken) →
      IsHeldAfter (view_log new.0) other → IsHeldAfter party.log other
  others result asked other apart held =
      other_with result other (held_through other false party.log) apart (sym (now_holds result asked other) ∙ held)

  -- a request that took a bucket
  pub served : (its : SharedPool) (bucket len : ℕ) → Asked (Some bucket) → its ≡ pool → len ≡ layout.size →
      layout.size ≤ pool.scene.geometry.bucket.size → layout.align ≤ pool.scene.geometry.bucket.align →
      ServesAlone pool party layout (Ok (taken_bucket its bucket len)) (party_in new_table number new.0)
  served its bucket len asked its_is len_is short even =
      let geometry = subst (λ (p : SharedPool). IsPoolGeometry p.scene.geometry)
      (ap (λ (p : PoolParty). p.allocator) view_is ∙ own) is.shared.geometry in
      let same : (bucket == bucket) ≡ true = grind (arith, nat_tests) in
      record {
        serves = record {
          bucket = its_is;
          number = ap (λ (p : PoolParty). p.number) view_is;
          is_party = is_party new_table number next new now;
          held = now_holds (Some bucket) asked bucket
              ∙ ap (λ (b : Bool). if b then true else held_through bucket false party.log) same;
          others_kept = still (Some bucket) asked;
          others = others (Some bucket) asked;
          inside = subst (λ (p : SharedPool). IsInside pool.scene.geometry.region (chunk_of (taken_bucket p bucket len)))
              (sym its_is) (bucket-inside pool.scene.geometry bucket len geometry asked.found.0 (omega (arith, len_is, short)));
          aligned = subst (λ (p : SharedPool). (chunk_of (taken_bucket p bucket len)).place % layout.align ≡ 0) (sym its_is)
              (bucket_place-multiple pool.scene.geometry bucket layout even);
          exact_size = len_is;
        };
        alone = λ one within. (
          λ failed. absurd (cc failed),
          λ all. absurd (asked.found.1
              (subst (λ (p : PoolParty). IsHeldAfter p.log bucket) (sym view_is) (all bucket asked.found.0))),
        );
      }

  -- a request that took none
  pub refused : (error : AllocationError) → Asked None →
      ServesAlone pool party layout (Err error) (party_in new_table number new.0)
  refused error asked = record {
    serves = record {
      bucket = tt;
      number = ap (λ (p : PoolParty). p.number) view_is;
      is_party = is_party new_table number next new now;
      held = tt;
      others_kept = still None asked;
      others = others None asked;
      inside = tt;
      aligned = tt;
      exact_size = tt;
    };
    alone = λ one within. (
      λ failed. subst (λ (p : PoolParty). AreAllHeldAfter p.log pool.scene.geometry.buckets) view_is (asked.found one),
      λ all. refl,
    );
  }

-- a layout that isn't admitted isn't within the bucket's size and alignment
pub not_within : (bucket layout : Layout) (error : AllocationError) → Admits bucket layout (Err error) → ¬ IsWithin bucket layout
not_within bucket layout SizeTooLarge large within = absurd (omega (arith, large, within.size))
not_within bucket layout AlignmentFailure large within = absurd (omega (arith, large.1, within.align))
not_within bucket layout SizeIsZero refused within = absurd refused
not_within bucket layout OutOfMemory refused within = absurd refused

-- such a request is refused before a pass and before a search
pub refused_unasked : (party : PoolParty) (entries : PoolLog) (layout : Layout) (error : AllocationError) →
    Admits party.allocator.scene.geometry.bucket layout (Err error) → MayRefuse party entries layout error party
refused_unasked party entries layout SizeTooLarge large = (large, refl)
refused_unasked party entries layout AlignmentFailure large = (large.0, large.1, refl)
refused_unasked party entries layout SizeIsZero refused = absurd refused
refused_unasked party entries layout OutOfMemory refused = absurd refused

-- a request that is refused without a step
pub unasked : (pool : SharedPool) (party : PoolParty) (layout : Layout) (error : AllocationError) → IsParty party →
    Admits pool.scene.geometry.bucket layout (Err error) → ServesAlone pool party layout (Err error) party
unasked pool party layout error is refused = record {
  serves = record {
    bucket = tt;
    number = refl;
    is_party = is;
    held = tt;
    others_kept = λ other held. held;
    others = λ other apart held. held;
    inside = tt;
    aligned = tt;
    exact_size = tt;
  };
  alone = λ one within. absurd (not_within pool.scene.geometry.bucket layout error refused within);
}
