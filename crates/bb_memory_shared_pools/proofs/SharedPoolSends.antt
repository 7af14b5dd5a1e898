-- A party whose search took a bucket and detached it by one exchange, or missed each bucket.
use Rattle.atomic_table.specs.Seated.{TableId}
use Rattle.atomic_table.specs.Table.{Me}
use Rattle.bb_memory_pool_machine.specs.PoolHints.{hint_after}
use Rattle.bb_memory_pool_machine.specs.declared.hint.Hint.{Hint}
use Rattle.bb_memory_pool_machine.specs.declared.steps.pool.PoolOutcome.TheVariants.{Takes}
use Rattle.bb_memory_seats.specs.Seats.{number_of, view_log}
use Rattle.bb_memory_shared_pools.proofs.SharedPoolNextFit.{hint-misses, hint_by_search, search_lost, search_took}
use Rattle.bb_memory_shared_pools.proofs.SharedPoolParties.{seated_then}
use Rattle.bb_memory_shared_pools.proofs.SharedPoolRequests.{HasAsked, refused, served}
use Rattle.bb_memory_shared_pools.specs.SharedPool.{PoolParty, SharedPool, detach_entry}
use Rattle.bb_memory_shared_pools.specs.SharedPoolNextFit.{MissesToSend, TakesToSend, hint_of, probed, refused_search, taking_search}
use Rattle.bb_memory_shared_pools.specs.SharedPoolRule.{AfterCall, AfterRefusal, AfterSearchSending, IsPartySeat, SeatView, party_in, pool_in}
use Rattle.bb_memory_traits.specs.declared.allocator.AllocationError.TheVariants.{OutOfMemory}
use Rattle.bb_memory_traits.specs.declared.layout.Layout.{Layout}
use Rattle.std.proofs.Common.{None, Some, ap, arith, refl, subst, sym, ℕ, ◌++◌, ◌∙◌, ◌≡◌}

-- the end of a search, as the call's contract and the party's invariant need it
pub record HasSent (party : PoolParty) (number bucket : ℕ) (table : TableId) (new : Me ℕ SeatView) (next : Hint) : Type 0 where
  pub seat : IsPartySeat number next new
  pub takes : TakesToSend party bucket (party_in table number new.0)

pub record HasSentNone (party : PoolParty) (number : ℕ) (table : TableId) (new : Me ℕ SeatView) (hint : Hint) : Type 0 where
  pub seat : IsPartySeat number hint new
  pub misses : MissesToSend party (party_in table number new.0)

module _ (table new_table : TableId) (me new : Me ℕ SeatView) (number : ℕ) (hint : Hint) (is : IsPartySeat number hint me)
    (kept : new_table ≡ table)
  where
    abbrev party : PoolParty
    party = party_in table number me.0

    abbrev pool : SharedPool
    pool = party.allocator

    abbrev whole : Layout
    whole = pool.scene.geometry.bucket

    abbrev buckets : ℕ
    buckets = pool.scene.geometry.buckets

    same_number : number ≡ number_of me.0
    same_number = sym (ap (λ (m : Me ℕ SeatView). number_of m.0) is.seat.seat.is)

    same_first : hint.bucket ≡ hint_of party
    same_first = ap (λ (h : Hint). h.bucket) is.next_fit

    sent_own : (next : Hint) (bucket : ℕ) → next ≡ hint_after hint (Takes bucket) →
        AfterSearchSending pool.scene number (view_log me.0) hint.bucket new bucket →
        HasSent party number bucket new_table new next
    sent_own next bucket moved sent =
        let took = sent.taken in
        let between = sent.between in
        let added = taking_search buckets number hint.bucket took.probe in
        let seat = seated_then pool table me number hint is refl between added next
        (moved ∙ hint_by_search buckets number hint.bucket took.probe bucket hint took.there)
        (subst (λ (n : ℕ). AfterCall pool.scene n (view_log me.0) added between) same_number took.ended) in
        let scene = ap (λ (m : Me ℕ SeatView). m.0.scene) took.ended.seat.is in
        let scene_now = ap (λ (m : Me ℕ SeatView). m.0.scene) sent.ended.seat.is in
        let between_own : pool_in table between.0 ≡ pool = λ i. record { table = table; scene = scene i } in
        let between_number = sym (ap (λ (m : Me ℕ SeatView). number_of m.0) took.ended.seat.is) in
        let log = ap (λ (m : Me ℕ SeatView). view_log m.0) took.ended.seat.is
        ∙ ap (λ (first : ℕ). view_log me.0 ++ taking_search buckets number first took.probe) same_first in
        let log_now = ap (λ (m : Me ℕ SeatView). view_log m.0) sent.ended.seat.is in
        let asked = subst (λ (n : ℕ). HasAsked pool.scene n (view_log me.0) added (Some bucket) between) same_number
        (search_took pool.scene number (view_log me.0) hint.bucket between bucket took) in
        record {
          seat = seated_then pool table between number next seat between_own new (detach_entry number bucket) next refl
              (subst (λ (n : ℕ). AfterCall pool.scene n (view_log between.0) (detach_entry number bucket) new) between_number
              sent.ended);
          takes = record {
            taken = party_in table number between.0;
            answer = (
              record {
                within = record { size = omega arith; align = omega arith };
                below = took.below;
                free = took.free;
              },
              refl,
              record {
                probe = took.probe;
                before_end = took.before_end;
                there = subst (λ (first : ℕ). probed buckets first took.probe ≡ bucket) same_first took.there;
                adds = λ i. record {
                  allocator = record { table = table; scene = scene i };
                  number = number;
                  log = log i;
                };
              },
            );
            serves = served pool table table me between number hint next added party whole is seat refl refl pool bucket
                whole.size asked refl refl (omega arith) (omega arith);
            logged = λ i. record {
              allocator = record { table = kept i; scene = (scene_now ∙ sym scene) i };
              number = number;
              log = log_now i;
            };
          };
        }

    none_own : AfterRefusal pool.scene number (view_log me.0) (refused_search buckets number hint.bucket) new →
        HasSentNone party number new_table new hint
    none_own lost =
        let added = refused_search buckets number hint.bucket in
        let seat = seated_then pool table me number hint is refl new added hint
        (hint-misses buckets number hint.bucket buckets hint)
        (subst (λ (n : ℕ). AfterCall pool.scene n (view_log me.0) added new) same_number lost.ended) in
        let scene = ap (λ (m : Me ℕ SeatView). m.0.scene) lost.ended.seat.is in
        let log = ap (λ (m : Me ℕ SeatView). view_log m.0) lost.ended.seat.is
        ∙ ap (λ (first : ℕ). view_log me.0 ++ refused_search buckets number first) same_first in
        let asked = subst (λ (n : ℕ). HasAsked pool.scene n (view_log me.0) added None new) same_number
        (search_lost pool.scene number (view_log me.0) hint.bucket new lost) in
        record {
          seat = seat;
          misses = record {
            answer = (
              record { size = omega arith; align = omega arith },
              λ i. record {
                allocator = record { table = kept i; scene = scene i };
                number = number;
                log = log i;
              },
            );
            serves = refused pool table new_table me new number hint hint added party whole is seat refl refl OutOfMemory asked;
          };
        }

    -- by the pool and the party of the call
    module _ (its : SharedPool) (caller : PoolParty) (view_is : party ≡ caller) (its_own : caller.allocator ≡ its) where
      same_pool : its ≡ pool
      same_pool = sym (ap (λ (p : PoolParty). p.allocator) view_is ∙ its_own)

      pub has_sent : (next : Hint) (bucket : ℕ) → next ≡ hint_after hint (Takes bucket) →
          AfterSearchSending its.scene (number_of me.0) (view_log me.0) hint.bucket new bucket →
          HasSent caller number bucket new_table new next
      has_sent next bucket moved sent =
          subst (λ (p : PoolParty). HasSent p number bucket new_table new next) view_is
          (sent_own next bucket moved
          (subst (λ (x : SharedPool × ℕ). AfterSearchSending x.0.scene x.1 (view_log me.0) hint.bucket new bucket)
          (λ i. (same_pool i, sym same_number i)) sent))

      pub has_sent_none : AfterRefusal its.scene (number_of me.0) (view_log me.0)
          (refused_search its.scene.geometry.buckets (number_of me.0) hint.bucket) new →
          HasSentNone caller number new_table new hint
      has_sent_none lost = subst (λ (p : PoolParty). HasSentNone p number new_table new hint) view_is
          (none_own (subst (λ (x : SharedPool × ℕ). AfterRefusal x.0.scene x.1 (view_log me.0)
          (refused_search x.0.scene.geometry.buckets x.1 hint.bucket) new) (λ i. (same_pool i, sym same_number i)) lost))
