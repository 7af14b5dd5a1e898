-- A search whose first probe has missed, and its later probes, as a party knows them with which the search may have begun.
use Rattle.atomic_table.specs.Seated.{TableId}
use Rattle.atomic_table.specs.Table.{Me}
use Rattle.bb_memory_pool_machine.specs.PoolHints.{first_hint, hint_after}
use Rattle.bb_memory_pool_machine.specs.PoolLogs.{PoolLog}
use Rattle.bb_memory_pool_machine.specs.declared.hint.Hint.{Hint}
use Rattle.bb_memory_pool_machine.specs.declared.steps.pool.PoolOutcome.TheVariants.{Takes}
use Rattle.bb_memory_seats.specs.Seats.{alone, view_log}
use Rattle.bb_memory_shared_pools.proofs.SharedPoolNextFit.{hint-misses, hint_by_search, search_lost, search_took}
use Rattle.bb_memory_shared_pools.proofs.SharedPoolParties.{party_seat, seated_then}
use Rattle.bb_memory_shared_pools.proofs.SharedPoolRequests.{refused, served}
use Rattle.bb_memory_shared_pools.proofs.SharedPoolTries.{hint-append, hint_through}
use Rattle.bb_memory_shared_pools.specs.SharedPool.{PoolParty, ServesAlone, SharedPool, TakenBucket, taken_bucket, with_entries}
use Rattle.bb_memory_shared_pools.specs.SharedPoolNextFit.{BeginsSearch, MayTakeFrom, hint_in, hint_of, misses, probed, probes_before, refused_search, taking_search}
use Rattle.bb_memory_shared_pools.specs.SharedPoolRule.{AfterCall, AfterRefusal, AfterSearchWin, IsInSearch, IsPartySeat, IsSeatOfIdle, SeatView, party_in, pool_in}
use Rattle.bb_memory_traits.specs.PoolObject.{IsWithin}
use Rattle.bb_memory_traits.specs.declared.allocator.AllocationError.{AllocationError}
use Rattle.bb_memory_traits.specs.declared.allocator.AllocationError.TheVariants.{OutOfMemory}
use Rattle.bb_memory_traits.specs.declared.layout.Layout.{Layout}
use Rattle.std.proofs.Common.{[], ap, arith, refl, subst, sym, ℕ, ◌++◌, ◌<◌, ◌∙◌, ◌≡◌}
use Rattle.std.specs.Prelude.{Err, Ok, Result}

-- the end of a search for a whole bucket, as the party `before` knows it: the party's seat and hint, and the answer
pub record EndsSearch (pool : SharedPool) (number : ℕ) (before : PoolParty) (table : TableId) (new : Me ℕ SeatView) (next : Hint)
    (result : Result TakenBucket AllocationError) : Type 0 where
  pub seat : IsPartySeat number next new
  pub own : pool_in table new.0 ≡ pool
  pub answer : MayTakeFrom (hint_of before) before pool.scene.geometry.bucket result (party_in table number new.0)
  pub serves : ServesAlone pool before pool.scene.geometry.bucket result (party_in table number new.0)

-- A party after the first probe of a search, with its seat, and one with which the search may have begun.
module _ (pool : SharedPool) (table : TableId) (me : Me ℕ SeatView) (number : ℕ) (hint : Hint) (party before : PoolParty)
    (is : IsPartySeat number hint me) (view_is : party_in table number me.0 ≡ party) (own : party.allocator ≡ pool)
    (begun : BeginsSearch before party)
  where
    abbrev missed : PoolLog
    missed = let buckets = before.allocator.scene.geometry.buckets in
        misses buckets before.number (hint_of before) (probes_before buckets (hint_of before))

    whole : party_in table number me.0 ≡ with_entries before missed
    whole = view_is ∙ begun.logged

    same_number : number ≡ before.number
    same_number = ap (λ (p : PoolParty). p.number) whole

    same_pool : before.allocator ≡ pool
    same_pool = sym (ap (λ (p : PoolParty). p.allocator) begun.logged) ∙ own

    abbrev its_hint : Hint
    its_hint = hint_in before.allocator.scene before.number before.log

    same_hint : hint ≡ its_hint
    same_hint = is.next_fit
        ∙ ap (λ (p : PoolParty). hint_in p.allocator.scene p.number p.log) whole
        ∙ hint-append (first_hint before.allocator.scene.geometry.buckets before.allocator.scene.parties before.allocator.scene.geometry.bucket.size before.number) before.log missed
        ∙ sym (hint-misses before.allocator.scene.geometry.buckets before.number (hint_of before)
        (probes_before before.allocator.scene.geometry.buckets (hint_of before)) its_hint)

    same_first : hint.bucket ≡ hint_of before
    same_first = ap (λ (h : Hint). h.bucket) same_hint

    -- the search, which goes on
    pub goes_on : IsInSearch pool.scene before.number before.log hint.bucket
        (probes_before pool.scene.geometry.buckets hint.bucket) me
    goes_on = subst (λ (x : SharedPool × ℕ). IsInSearch x.0.scene before.number before.log x.1
        (probes_before x.0.scene.geometry.buckets x.1) me) (λ i. (same_pool i, sym same_first i)) record {
          ended = subst (λ (p : PoolParty). IsSeatOfIdle p.allocator.scene p.number p.log me) whole is.seat;
          held = begun.held;
        }

    abbrev seat : Me ℕ SeatView
    seat = (alone before.allocator.scene before.number before.log, [])

    seated : IsPartySeat before.number its_hint seat
    seated = party_seat before.allocator.scene before.number its_hint before.log seat record {
      seat = record { is = refl; interleaved = begun.is_party.interleaved };
      idle = begun.is_party.idle;
    } begun.is_party.number begun.is_party.scene refl

    -- the party's seat after the later probes
    seated_later : (new : Me ℕ SeatView) (next : Hint) (added : PoolLog) → next ≡ hint_through hint added →
        AfterCall pool.scene before.number before.log added new → IsPartySeat number next new
    seated_later new next added moved ended = subst (λ (n : ℕ). IsPartySeat n next new) (sym same_number)
        (seated_then pool before.allocator.table seat before.number its_hint seated same_pool new added next
        (subst (λ (h : Hint). next ≡ hint_through h added) same_hint moved) ended)

    -- the party after the later probes, which came to this seat
    now_is : (new_table : TableId) (new : Me ℕ SeatView) (entries : ℕ → ℕ → PoolLog) → new_table ≡ table →
        AfterCall pool.scene before.number before.log (entries pool.scene.geometry.buckets hint.bucket) new →
        party_in new_table number new.0
        ≡ with_entries before (entries before.allocator.scene.geometry.buckets (hint_of before))
    now_is new_table new entries kept ended =
        let log = ap (λ (m : Me ℕ SeatView). view_log m.0) ended.seat.is
        ∙ λ i. before.log ++ entries (sym same_pool i).scene.geometry.buckets (same_first i) in
        let scene = ap (λ (m : Me ℕ SeatView). m.0.scene) ended.seat.is ∙ sym (ap (λ (p : SharedPool). p.scene) same_pool) in
        let its_table = kept ∙ ap (λ (p : PoolParty). p.allocator.table) whole in λ i. record {
          allocator = record { table = its_table i; scene = scene i };
          number = same_number i;
          log = log i;
        }

    within : IsWithin before.allocator.scene.geometry.bucket pool.scene.geometry.bucket
    within = subst (λ (p : SharedPool). IsWithin p.scene.geometry.bucket pool.scene.geometry.bucket) (sym same_pool)
        (record { size = omega arith; align = omega arith })

    -- a later probe took a bucket
    pub took_later : (new_table : TableId) (new : Me ℕ SeatView) (next : Hint) (bucket : ℕ) (its : TakenBucket) →
        AfterSearchWin pool.scene before.number before.log hint.bucket new bucket → next ≡ hint_after hint (Takes bucket) →
        new_table ≡ table → its ≡ taken_bucket pool bucket pool.scene.geometry.bucket.size →
        EndsSearch pool number before new_table new next (Ok its)
    took_later new_table new next bucket its took moved kept its_is =
        let search : ℕ → ℕ → PoolLog = λ buckets first. taking_search buckets before.number first took.probe in
        let now = seated_later new next (search pool.scene.geometry.buckets hint.bucket)
        (moved ∙ hint_by_search pool.scene.geometry.buckets before.number hint.bucket took.probe bucket hint took.there)
        took.ended in
        let is_now = now_is new_table new search kept took.ended in
        let layout : Layout = pool.scene.geometry.bucket in
        rw its_is record {
          seat = now;
          own = ap (λ (p : PoolParty). p.allocator) is_now ∙ same_pool;
          answer = (
            record {
              within = within;
              below = subst (λ (p : SharedPool). bucket < p.scene.geometry.buckets) (sym same_pool) took.below;
              free = took.free;
            },
            ap (λ (p : SharedPool). taken_bucket p bucket layout.size) (sym same_pool),
            record {
              probe = took.probe;
              before_end = subst (λ (p : SharedPool). took.probe < p.scene.geometry.buckets) (sym same_pool) took.before_end;
              there = subst (λ (x : SharedPool × ℕ). probed x.0.scene.geometry.buckets x.1 took.probe ≡ bucket)
                  (λ i. (sym same_pool i, same_first i)) took.there;
              adds = is_now;
            },
          );
          serves = subst (λ (n : ℕ). ServesAlone pool before layout (Ok (taken_bucket pool bucket layout.size))
              (party_in new_table n new.0)) (sym same_number)
              (served pool before.allocator.table new_table seat new before.number its_hint next _ before layout seated
              (subst (λ (n : ℕ). IsPartySeat n next new) same_number now) refl same_pool pool bucket layout.size
              (search_took pool.scene before.number before.log hint.bucket new bucket took) refl refl (omega arith)
              (omega arith));
        }

    -- each later probe missed
    pub lost_later : (new_table : TableId) (new : Me ℕ SeatView) →
        AfterRefusal pool.scene before.number before.log
        (refused_search pool.scene.geometry.buckets before.number hint.bucket) new → new_table ≡ table →
        EndsSearch pool number before new_table new hint (Err OutOfMemory)
    lost_later new_table new lost kept =
        let search : ℕ → ℕ → PoolLog = λ buckets first. refused_search buckets before.number first in
        let now = seated_later new hint (search pool.scene.geometry.buckets hint.bucket)
        (hint-misses pool.scene.geometry.buckets before.number hint.bucket pool.scene.geometry.buckets hint) lost.ended in
        let is_now = now_is new_table new search kept lost.ended in
        let layout : Layout = pool.scene.geometry.bucket in
        record {
          seat = now;
          own = ap (λ (p : PoolParty). p.allocator) is_now ∙ same_pool;
          answer = (within, is_now);
          serves = subst (λ (n : ℕ). ServesAlone pool before layout (Err OutOfMemory) (party_in new_table n new.0))
              (sym same_number)
              (refused pool before.allocator.table new_table seat new before.number its_hint hint _ before layout seated
              (subst (λ (n : ℕ). IsPartySeat n hint new) same_number now) refl same_pool OutOfMemory
              (search_lost pool.scene before.number before.log hint.bucket new lost));
        }
