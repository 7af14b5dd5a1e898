-- Histories of a party.
use Rattle.bb_memory_pool_machine.proofs.PoolHolders.{holder_in_log, one_holder}
use Rattle.bb_memory_pool_machine.proofs.PoolPasses.{missed_is_held, refused_found_held}
use Rattle.bb_memory_pool_machine.proofs.PoolRuns.{taken_is_held}
use Rattle.bb_memory_pool_machine.proofs.PoolSteps.{length-left_by}
use Rattle.bb_memory_pool_machine.specs.PoolLogs.{IsHeldAfter, IsPoolRun, IsRefusedAt, MissesAt, PoolEntry, PoolLog, entries_by, entry_of, history_of, is_by, log_of, loss_at}
use Rattle.bb_memory_pool_machine.specs.PoolMachine.{IsHolder, PoolScene, left_by}
use Rattle.bb_memory_pool_machine.specs.declared.steps.pool.Flag.TheVariants.{HeldBy}
use Rattle.bb_memory_pool_machine.specs.declared.steps.pool.PoolOutcome.{PoolOutcome}
use Rattle.bb_memory_pool_machine.specs.declared.steps.pool.PoolOutcome.TheVariants.{Loses, Misses, RefusedAtLoss}
use Rattle.bb_memory_pool_machine.specs.declared.steps.pool.PoolStep.{PoolStep}
use Rattle.bb_memory_pool_machine.specs.declared.steps.pool.PoolStep.TheVariants.{Try, TryAt}
use Rattle.bb_memory_shared_pools.proofs.SharedPoolNextFit.{probe_at}
use Rattle.bb_memory_shared_pools.specs.SharedPool.{HasFoundAllHeld, IsHistoryRun, IsParty, PoolParty, SharedPool, TakenBucket, chunk_of, losses, refused_pass}
use Rattle.bb_memory_shared_pools.specs.SharedPoolMeetings.{AreInterleaved}
use Rattle.bb_memory_shared_pools.specs.SharedPoolNextFit.{HasMissedAll, miss_at, misses, probed, refused_search}
use Rattle.bb_memory_traits.proofs.PoolGeometries.{bucket_place-after, stride-above}
use Rattle.bb_memory_traits.specs.Chunk.{AreApart, Chunk}
use Rattle.bb_memory_traits.specs.Geometry.{AreAStrideApart}
use Rattle.bb_memory_traits.specs.PoolObject.{IsHeld, IsPoolGeometry, PoolGeometry, bucket_place}
use Rattle.bb_memory_traits.specs.declared.layout.Layout.{Layout}
use Rattle.std.proofs.Common.{Bool, List, Some, [], add-one, ap, append_assoc, arith, false, inl, inr, subst, suc, sym, take, true, zero, ℕ, ◌++◌, ◌+◌, ◌<◌, ◌∙◌, ◌∷◌, ◌≡◌, ◌≢◌, ◌≤◌, ◌⊎◌}
use Rattle.std.proofs.lemmas.Bool.{cases_Bool, cases_lt, le-ltb}
use Rattle.std.proofs.lemmas.Option.{slice_get_within}
use Rattle.std.specs.Prelude.{filter, if◌then◌else◌, slice_get}

-- the party whose log holds a bucket is its holder after each list of steps that has its log
holder_then : (scene : PoolScene) (steps : List PoolStep) (party bucket : ℕ) (log : PoolLog) → log_of scene steps party ≡ log →
    IsHeldAfter log bucket → IsHolder (left_by scene steps) bucket party
holder_then scene steps party bucket log logged held =
    (holder_in_log scene steps party bucket).1 (subst (λ (l : PoolLog). IsHeldAfter l bucket) (sym logged) held)

held_in_list : (scene : PoolScene) (steps : List PoolStep) (party bucket : ℕ) (log : PoolLog) (layouts : List Layout)
    (live : List Chunk) → IsPoolGeometry scene.geometry → log_of scene steps party ≡ log →
    IsPoolRun scene steps layouts live → IsHeldAfter log bucket →
    (bucket < scene.geometry.buckets) × IsHeld scene.geometry live bucket
held_in_list scene steps party bucket log layouts live geometry logged run held =
    let holder = holder_then scene steps party bucket log logged held in
    let within = slice_get_within (left_by scene steps).flags bucket (HeldBy party) holder in
    let below : bucket < scene.geometry.buckets = omega (arith, within, length-left_by scene steps) in
    (below, (taken_is_held scene steps layouts live bucket geometry run below).0 (inl (party, holder)))

-- a bucket that is held after a party's log is one of the pool's
pub held_below : (party : PoolParty) (is : IsParty party) (bucket : ℕ) → IsHeldAfter party.log bucket →
    bucket < party.allocator.scene.geometry.buckets
held_below party is bucket held =
    let scene = party.allocator.scene in
    let steps = is.interleaved.steps in
    let holder = holder_then scene steps party.number bucket party.log is.interleaved.logged held in
    let within = slice_get_within (left_by scene steps).flags bucket (HeldBy party.number) holder in
    omega (arith, within, length-left_by scene steps)

pub history_held : (party : PoolParty) (is : IsParty party) (layouts : List Layout) (live : List Chunk) (bucket : ℕ) →
    IsHistoryRun party is layouts live → IsHeldAfter party.log bucket →
    (bucket < party.allocator.scene.geometry.buckets) × IsHeld party.allocator.scene.geometry live bucket
history_held party is layouts live bucket run held =
    held_in_list party.allocator.scene is.interleaved.steps party.number bucket party.log layouts live is.scene.geometry
    is.interleaved.logged run held

-- REFUSED PASSES

-- `last` is in the list at some place, up to which exactly `kept` is kept of the list, and then `last`
pub record IsKeptAfter {X : Type 0} (test : X → Bool) (list kept : List X) (last : X) : Type 0 where
  pub place : ℕ
  pub there : slice_get list place ≡ Some last
  pub up_to : filter test (take (suc place) list) ≡ kept ++ last ∷ []

-- the elements that are kept of a list whose first is tested, and of the rest
abbrev kept_with : {X : Type 0} → X → List X → Bool → List X
kept_with first rest passes = if passes then first ∷ rest else rest

kept_behind : {X : Type 0} (test : X → Bool) (first : X) (list kept : List X) (last : X) →
    IsKeptAfter test list kept last → test first ≡ false → IsKeptAfter test (first ∷ list) kept last
kept_behind test first list kept last rest is = record {
  place = suc rest.place;
  there = rest.there;
  up_to = ap (kept_with first (filter test (take (suc rest.place) list))) is ∙ rest.up_to;
}

kept_first : {X : Type 0} (test : X → Bool) (first : X) (list kept : List X) (last : X) (after : List X) →
    test first ≡ true → first ∷ filter test list ≡ kept ++ last ∷ after →
    ((rest : List X) → filter test list ≡ rest ++ last ∷ after → IsKeptAfter test list rest last) →
    IsKeptAfter test (first ∷ list) kept last
kept_first {X = X} test first list [] last after passes is later =
    let same : first ≡ last = cc in record {
      place = 0;
      there = ap (λ (x : X). Some x) same;
      up_to = ap (kept_with first []) passes ∙ ap (λ (x : X). x ∷ []) same;
    }
kept_first {X = X} test first list (head ∷ kept) last after passes is later =
    let same : first ≡ head = cc in
    let tail : filter test list ≡ kept ++ last ∷ after = cc in
    let rest = later kept tail in record {
      place = suc rest.place;
      there = rest.there;
      up_to = ap (kept_with first (filter test (take (suc rest.place) list))) passes
          ∙ ap (λ (xs : List X). first ∷ xs) rest.up_to
          ∙ ap (λ (x : X). x ∷ (kept ++ last ∷ [])) same;
    }

nothing_kept : {X : Type 0} (kept : List X) (last : X) (after : List X) → [] ≡ kept ++ last ∷ after → ⊥
nothing_kept [] last after is = cc
nothing_kept (head ∷ kept) last after is = cc

kept_after : {X : Type 0} (test : X → Bool) (list kept : List X) (last : X) (after : List X) →
    filter test list ≡ kept ++ last ∷ after → IsKeptAfter test list kept last
kept_after test [] kept last after is = absurd (nothing_kept kept last after is)
kept_after test (first ∷ list) kept last after is = elim (cases_Bool (test first)) [
  | inl passes ↦
      kept_first test first list kept last after passes
      (sym (ap (kept_with first (filter test list)) passes) ∙ is)
      (λ rest rest_is. kept_after test list rest last after rest_is)
  | inr fails ↦
      kept_behind test first list kept last
      (kept_after test list kept last after (sym (ap (kept_with first (filter test list)) fails) ∙ is)) fails
]

-- the last entry of a refused pass over at least one bucket is the loss at which it is refused
last_loss : (bucket : ℕ) → loss_at (suc bucket) bucket ≡ RefusedAtLoss bucket
last_loss bucket =
    ap (λ (b : Bool). if b then Loses bucket else RefusedAtLoss bucket) (le-ltb (bucket + 1) (suc bucket) (omega arith))

refused_ends : (buckets party : ℕ) → 0 < buckets →
    (bucket : ℕ) × (front : PoolLog) × (refused_pass buckets party ≡ front ++ entry_of (Try party) (RefusedAtLoss bucket) ∷ [])
refused_ends zero party some = absurd (omega arith)
refused_ends (suc bucket) party some = (
  bucket,
  losses (suc bucket) party bucket,
  ap (λ (outcome : PoolOutcome). losses (suc bucket) party bucket ++ entry_of (Try party) outcome ∷ []) (last_loss bucket),
)

pub history_refused : (party : PoolParty) (is : IsParty party) (before after : PoolLog) →
    let beginning = before ++ refused_pass party.allocator.scene.geometry.buckets party.number in
    0 < party.allocator.scene.geometry.buckets → party.log ≡ beginning ++ after → HasFoundAllHeld party is beginning
history_refused party is before after some has =
    let scene = party.allocator.scene in
    let steps = is.interleaved.steps in
    let history = history_of scene steps in
    let number = party.number in
    let end = refused_ends scene.geometry.buckets number some in
    let entry = entry_of (Try number) (RefusedAtLoss end.0) in
    let beginning : PoolLog = before ++ refused_pass scene.geometry.buckets number in
    let beginning_is : beginning ≡ (before ++ end.1) ++ entry ∷ [] =
    ap (λ (log : PoolLog). before ++ log) end.2 ∙ sym (append_assoc before end.1 (entry ∷ [])) in
    let log_is : party.log ≡ (before ++ end.1) ++ entry ∷ after =
    has ∙ ap (λ (log : PoolLog). log ++ after) beginning_is ∙ append_assoc (before ++ end.1) (entry ∷ []) after in
    let last = kept_after (λ (other : PoolEntry). is_by number other.step) history (before ++ end.1) entry after
    (is.interleaved.logged ∙ log_is) in
    let refused : IsRefusedAt history number last.place = record { bucket = end.0; there = last.there } in record {
      last = last.place;
      its_last = ap (λ (k : ℕ). entries_by number (take k history)) (add-one last.place) ∙ last.up_to ∙ sym beginning_is;
      refused = refused;
      found = λ bucket below. refused_found_held scene steps number last.place bucket is.scene.geometry refused below;
    }

-- REFUSED SEARCHES

-- the misses of a search are those before a probe, the one at it, and others
misses-split : (buckets party first probe count : ℕ) → probe < count →
    let tried = probed buckets first probe in
    (rest : PoolLog)
    × (misses buckets party first count
    ≡ misses buckets party first probe ++ entry_of (TryAt party tried) (Misses tried) ∷ rest)
misses-split buckets party first probe zero below = absurd (omega arith)
misses-split buckets party first probe (suc count) below = elim (cases_lt probe count) [
  | inl before ↦
      let split = misses-split buckets party first probe count before in
      let tried = probed buckets first probe in
      let end : PoolLog = miss_at party (probed buckets first count) in (
        split.0 ++ end,
        ap (λ (log : PoolLog). log ++ end) split.1
            ∙ append_assoc (misses buckets party first probe) (entry_of (TryAt party tried) (Misses tried) ∷ split.0) end,
      )
  | inr not_before ↦
      let same : probe ≡ count = omega arith in (
        [],
        ap (λ (t : ℕ). misses buckets party first t ++ miss_at party (probed buckets first t)) (sym same),
      )
]

pub history_missed : (party : PoolParty) (is : IsParty party) (before after : PoolLog) (first : ℕ) →
    party.log ≡ (before ++ refused_search party.allocator.scene.geometry.buckets party.number first) ++ after →
    HasMissedAll party is before first
history_missed party is before after first has bucket below =
    let scene = party.allocator.scene in
    let buckets : ℕ = scene.geometry.buckets in
    let steps = is.interleaved.steps in
    let history = history_of scene steps in
    let number = party.number in
    let at = probe_at buckets first bucket below in
    let earlier : PoolLog = misses buckets number first at.probe in
    let tried = probed buckets first at.probe in
    let entry : PoolEntry = entry_of (TryAt number tried) (Misses tried) in
    let split = misses-split buckets number first at.probe buckets at.before_end in
    let log_is : party.log ≡ (before ++ earlier) ++ entry ∷ (split.0 ++ after) =
    has
    ∙ append_assoc before (refused_search buckets number first) after
    ∙ ap (λ (log : PoolLog). before ++ (log ++ after)) split.1
    ∙ ap (λ (log : PoolLog). before ++ log) (append_assoc earlier (entry ∷ split.0) after)
    ∙ sym (append_assoc before earlier (entry ∷ (split.0 ++ after))) in
    let last = kept_after (λ (other : PoolEntry). is_by number other.step) history (before ++ earlier) entry (split.0 ++ after)
    (is.interleaved.logged ∙ log_is) in
    let missed : MissesAt history number bucket last.place =
    subst (λ (b : ℕ). slice_get history last.place ≡ Some (entry_of (TryAt number b) (Misses b))) at.there last.there in
    record {
      probe = at.probe;
      step = last.place;
      its_probe = ap (λ (k : ℕ). entries_by number (take k history)) (add-one last.place)
          ∙ last.up_to
          ∙ append_assoc before earlier (entry ∷ [])
          ∙ ap (λ (t : ℕ). before ++ misses buckets number first t) (sym (add-one at.probe));
      missed = missed;
      held = (missed_is_held scene steps number bucket last.place is.scene.geometry missed).2;
    }

-- BUCKETS

module _ (one other : TakenBucket) (same : one.allocator ≡ other.allocator) (two : one.number ≢ other.number) where
  abbrev geometry : PoolGeometry
  geometry = one.allocator.scene.geometry

  -- both places by the geometry of one pool
  placed : (chunk_of other).place ≡ bucket_place geometry other.number
  placed = ap (λ (pool : SharedPool). bucket_place pool.scene.geometry other.number) (sym same)

  pub buckets_apart : AreAStrideApart geometry.bucket (chunk_of one).place (chunk_of other).place
  buckets_apart = elim (cases_lt one.number other.number) [
    | inl below ↦ inl (omega (arith, bucket_place-after geometry one.number other.number below, placed))
    | inr above ↦
        let more : other.number < one.number = omega arith in
        inr (omega (arith, bucket_place-after geometry other.number one.number more, placed))
  ]

  pub no_overlap : one.len ≤ geometry.bucket.size → other.len ≤ geometry.bucket.size → AreApart (chunk_of one) (chunk_of other)
  no_overlap short other_short overlap =
      let wide = stride-above geometry.bucket in
      elim buckets_apart [
        | inl before ↦ absurd (omega (arith, before, overlap, wide))
        | inr after ↦ absurd (omega (arith, after, overlap, wide))
      ]

-- TWO PARTIES OF ONE HISTORY

pub both_held : (a b : PoolParty) (met : AreInterleaved a b) (layouts : List Layout) (live : List Chunk) (bucket : ℕ) →
    IsParty a → IsPoolRun a.allocator.scene met.steps layouts live → IsHeldAfter a.log bucket ⊎ IsHeldAfter b.log bucket →
    IsHeld a.allocator.scene.geometry live bucket
both_held a b met layouts live bucket is run held =
    let scene = a.allocator.scene in
    elim held [
      | inl own ↦ (held_in_list scene met.steps a.number bucket a.log layouts live is.scene.geometry met.logged run own).1
      | inr others ↦
          (held_in_list scene met.steps b.number bucket b.log layouts live is.scene.geometry met.other_logged run others).1
    ]

-- no bucket is held after both their logs
pub both_apart : (a b : PoolParty) (bucket : ℕ) → AreInterleaved a b → a.number ≢ b.number →
    IsHeldAfter a.log bucket → ¬ IsHeldAfter b.log bucket
both_apart a b bucket both two held other_held =
    let Held : PoolLog → Type 0 = λ log. IsHeldAfter log bucket in
    two (one_holder a.allocator.scene both.steps a.number b.number bucket
    (subst Held (sym both.logged) held) (subst Held (sym both.other_logged) other_held))
