-- From the effect of a pass or a return to the party after it.
use Rattle.atomic_table.specs.Seated.{TableId}
use Rattle.atomic_table.specs.Table.{Me}
use Rattle.bb_memory_pool_machine.specs.PoolHints.{first_hint}
use Rattle.bb_memory_pool_machine.specs.PoolLogs.{IsAllowed, PoolEntry, PoolLog}
use Rattle.bb_memory_pool_machine.specs.PoolMachine.{PoolScene}
use Rattle.bb_memory_pool_machine.specs.declared.hint.Hint.{Hint}
use Rattle.bb_memory_seats.specs.Seats.{alone, number_of, view_log}
use Rattle.bb_memory_shared_pools.proofs.SharedPoolTries.{hint-append, hint_through}
use Rattle.bb_memory_shared_pools.specs.SharedPool.{IsMissFrom, IsParty, IsSharedScene, SharedPool, attach_from_entry, miss_from_entry, token_entry}
use Rattle.bb_memory_shared_pools.specs.SharedPoolNextFit.{hint_in}
use Rattle.bb_memory_shared_pools.specs.SharedPoolRule.{AfterCall, AfterGain, AfterMissFrom, IsPartySeat, IsSeatOfIdle, SeatView, party_in}
use Rattle.std.proofs.Common.{Bool, [], ap, false, inl, inr, refl, subst, sym, true, ℕ, ◌++◌, ◌<◌, ◌∙◌, ◌≡◌}
use Rattle.std.proofs.lemmas.List.Elements.{All-nil}
use Rattle.std.specs.Prelude.{MatchBool}

pub party_seat : (scene : PoolScene) (number : ℕ) (hint : Hint) (log : PoolLog) (me : Me ℕ SeatView) →
    IsSeatOfIdle scene number log me → number < scene.parties → IsSharedScene scene → hint ≡ hint_in scene number log →
    IsPartySeat number hint me
party_seat scene number hint log me of below shared next_fit =
    subst (λ (m : Me ℕ SeatView). IsPartySeat number hint m) (sym of.seat.is) record {
      seat = record { seat = record { is = refl; interleaved = of.seat.interleaved }; idle = of.idle };
      below = below;
      shared = shared;
      next_fit = next_fit;
    }

-- a party that has made no step is idle, and its log is interleaved with those of others
pub no_step : (scene : PoolScene) (number : ℕ) (me : Me ℕ SeatView) → me ≡ (alone scene number [], []) →
    IsSeatOfIdle scene number [] me
no_step scene number me is = record {
  seat = record {
    is = is;
    interleaved = record { steps = []; allowed = All-nil (λ (e : PoolEntry). IsAllowed e.outcome); logged = refl };
  };
  idle = refl;
}

-- a seat of a party of this pool
module _ (pool : SharedPool) (table : TableId) (me : Me ℕ SeatView) (number : ℕ) (hint : Hint)
    (is : IsPartySeat number hint me) (own : (party_in table number me.0).allocator ≡ pool) where
  own_scene : me.0.scene ≡ pool.scene
  own_scene = ap (λ (p : SharedPool). p.scene) own

  same_number : number_of me.0 ≡ number
  same_number = ap (λ (m : Me ℕ SeatView). number_of m.0) is.seat.seat.is

  pub seated_then : (new : Me ℕ SeatView) (added : PoolLog) (next : Hint) → next ≡ hint_through hint added →
      AfterCall pool.scene (number_of me.0) (view_log me.0) added new → IsPartySeat number next new
  seated_then new added next next_fit ended = party_seat pool.scene number next (view_log me.0 ++ added) new
      (subst (λ (n : ℕ). IsSeatOfIdle pool.scene n (view_log me.0 ++ added) new) same_number ended)
      (subst (λ (s : PoolScene). number < s.parties) own_scene is.below)
      (subst IsSharedScene own_scene is.shared)
      (next_fit ∙ ap (λ (h : Hint). hint_through h added)
      (is.next_fit ∙ ap (λ (s : PoolScene). hint_in s number (view_log me.0)) own_scene)
      ∙ sym (hint-append (first_hint pool.scene.geometry.buckets pool.scene.parties pool.scene.geometry.bucket.size number) (view_log me.0) added))

  -- a missed exchange by number leaves the hint
  seated_missed : (new : Me ℕ SeatView) (bucket from : ℕ) (step : PoolLog) → IsMissFrom (number_of me.0) bucket from step →
      AfterCall pool.scene (number_of me.0) (view_log me.0) step new → IsPartySeat number hint new
  seated_missed new bucket from step (inl same) ended = seated_then new (miss_from_entry (number_of me.0) bucket from) hint refl
      (subst (λ (l : PoolLog). AfterCall pool.scene (number_of me.0) (view_log me.0) l new) same ended)
  seated_missed new bucket from step (inr same) ended = seated_then new (token_entry (number_of me.0) bucket from) hint refl
      (subst (λ (l : PoolLog). AfterCall pool.scene (number_of me.0) (view_log me.0) l new) same ended)

  -- so does one that attached the bucket
  pub seated_by_number : (won : Bool) (new : Me ℕ SeatView) (bucket from : ℕ) →
      MatchBool won (AfterGain pool.scene (number_of me.0) (view_log me.0) (attach_from_entry (number_of me.0) bucket from) bucket new)
      (AfterMissFrom pool.scene (number_of me.0) (view_log me.0) bucket from new) → IsPartySeat number hint new
  seated_by_number true new bucket from gain =
      seated_then new (attach_from_entry (number_of me.0) bucket from) hint refl gain.ended
  seated_by_number false new bucket from missed = seated_missed new bucket from missed.step missed.miss missed.ended

-- the facts about every party
pub is_party : (table : TableId) (number : ℕ) (hint : Hint) (me : Me ℕ SeatView) → IsPartySeat number hint me →
    IsParty (party_in table number me.0)
is_party table number hint me is = record {
  scene = is.shared;
  number = is.below;
  idle = is.seat.idle;
  interleaved = is.seat.seat.interleaved;
}
