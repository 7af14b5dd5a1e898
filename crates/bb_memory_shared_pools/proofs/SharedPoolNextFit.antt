-- How a search goes on: from its first probe to the step that ends it.
use Rattle.atomic_table.specs.Table.{Me}
use Rattle.bb_memory_pool_machine.proofs.PoolHolders.{held_through}
use Rattle.bb_memory_pool_machine.specs.PoolHints.{hint_after}
use Rattle.bb_memory_pool_machine.specs.PoolLogs.{IsHeldAfter, PoolLog}
use Rattle.bb_memory_pool_machine.specs.PoolMachine.{PoolScene}
use Rattle.bb_memory_pool_machine.specs.declared.hint.Hint.{Hint}
use Rattle.bb_memory_pool_machine.specs.declared.steps.pool.PoolOutcome.TheVariants.{Takes}
use Rattle.bb_memory_seats.specs.Seats.{number_of, view_log}
use Rattle.bb_memory_shared_pools.proofs.SharedPoolRequests.{HasAsked}
use Rattle.bb_memory_shared_pools.proofs.SharedPoolTries.{held-append, hint-append, hint_through, test_below, test_not_below}
use Rattle.bb_memory_shared_pools.specs.SharedPool.{detach_entry}
use Rattle.bb_memory_shared_pools.specs.SharedPoolNextFit.{miss_at, misses, probed, probes_before, refused_search, start_of, taking_at, taking_search}
use Rattle.bb_memory_shared_pools.specs.SharedPoolRule.{AfterCall, AfterGain, AfterMiss, AfterProbe, AfterRefusal, AfterSearchSending, AfterSearchWin, AfterSending, AfterSendingProbe, IsInSearch, IsSeatOfIdle, SeatView}
use Rattle.std.proofs.Common.{Bool, None, Some, add-one, ap, append-nil, append_assoc, arith, false, inl, inr, refl, subst, suc, sym, true, zero, ℕ, ◌%◌, ◌++◌, ◌+◌, ◌-◌, ◌<◌, ◌∙◌, ◌≡◌, ◌≤◌}
use Rattle.std.proofs.Math.Nat.{add-mod_left, add-zero, mod-eq_of_lt}
use Rattle.std.proofs.lemmas.Bool.{cases_lt}
use Rattle.std.specs.Prelude.{MatchBool, if◌then◌else◌, ◌==◌}
use borrow.Author.Count.{below_more}

-- PROBES

-- a search begins at a bucket of the pool
pub start_here : (buckets first : ℕ) → first < buckets → start_of buckets first ≡ first
start_here buckets first below = ap (λ (b : Bool). if b then first else 0) (test_below first buckets below)

pub start_zero : (buckets first : ℕ) → buckets ≤ first → start_of buckets first ≡ 0
start_zero buckets first past = ap (λ (b : Bool). if b then first else 0) (test_not_below first buckets past)

start_below : (buckets first : ℕ) → 0 < buckets → start_of buckets first < buckets
start_below buckets first some = elim (cases_lt first buckets) [
  | inl below ↦ let here = start_here buckets first below in omega arith
  | inr past ↦ let here = start_zero buckets first (omega arith) in omega arith
]

-- a probe before the search goes on from bucket 0, and one after
pub probe_ahead : (buckets first start probe : ℕ) → start_of buckets first ≡ start → start + probe < buckets →
    probed buckets first probe ≡ start + probe
probe_ahead buckets first start probe is below = ap (λ (s : ℕ). (s + probe) % buckets) is ∙ mod-eq_of_lt below

-- the first probe of a search that begins at a bucket of the pool
pub first_probe : (buckets first : ℕ) → first < buckets → probed buckets first 0 ≡ first
first_probe buckets first below =
    probe_ahead buckets first first 0 (start_here buckets first below) (omega (arith, below)) ∙ add-zero first

-- the probes of a search before its later ones
pub probes_one : (buckets first : ℕ) → first < buckets → probes_before buckets first ≡ 1
probes_one buckets first below = ap (λ (b : Bool). if b then 1 else 0) (test_below first buckets below)

pub probe_behind : (buckets first start probe rest : ℕ) → start_of buckets first ≡ start → start + probe ≡ buckets + rest →
    rest < buckets → probed buckets first probe ≡ rest
probe_behind buckets first start probe rest is same below = ap (λ (s : ℕ). (s + probe) % buckets) is
    ∙ ap (λ (n : ℕ). n % buckets) same
    ∙ add-mod_left buckets rest
    ∙ mod-eq_of_lt below

-- a search's probe at a bucket
pub record Probe (buckets first bucket : ℕ) : Type 0 where
  pub probe : ℕ
  pub before_end : probe < buckets
  pub there : probed buckets first probe ≡ bucket

-- a search has one probe at each bucket
pub probe_at : (buckets first bucket : ℕ) → bucket < buckets → Probe buckets first bucket
probe_at buckets first bucket below =
    let start : ℕ = start_of buckets first in
    let begins : start < buckets = start_below buckets first (omega arith) in
    elim (cases_lt bucket start) [
      | inl before ↦
          let rest : ℕ = buckets - start + bucket in
          let same : start + rest ≡ buckets + bucket = omega arith in record {
            probe = rest;
            before_end = omega arith;
            there = probe_behind buckets first start rest bucket refl same below;
          }
      | inr after ↦
          let same : start + (bucket - start) ≡ bucket = omega arith in record {
            probe = bucket - start;
            before_end = omega arith;
            there = probe_ahead buckets first start (bucket - start) refl (omega arith) ∙ same;
          }
    ]

probe_below : (buckets first probe : ℕ) → probe < buckets → probed buckets first probe < buckets
probe_below buckets first probe below =
    let start : ℕ = start_of buckets first in
    let begins : start < buckets = start_below buckets first (omega arith) in
    elim (cases_lt (start + probe) buckets) [
      | inl ahead ↦ let there = probe_ahead buckets first start probe refl ahead in omega arith
      | inr behind ↦
          let rest : ℕ = start + probe - buckets in
          let same : start + probe ≡ buckets + rest = omega arith in
          let there = probe_behind buckets first start probe rest refl same (omega arith) in
          omega arith
    ]

-- MISSES AND WHAT IS HELD

-- misses change nothing of what is held
held-misses : (buckets party first probe bucket : ℕ) (held : Bool) →
    held_through bucket held (misses buckets party first probe) ≡ held
held-misses buckets party first zero bucket held = refl
held-misses buckets party first (suc probe) bucket held =
    held-append bucket held (misses buckets party first probe) (miss_at party (probed buckets first probe))
    ∙ held-misses buckets party first probe bucket held

pub missed_same : (buckets party first probe bucket : ℕ) (log : PoolLog) →
    held_through bucket false (log ++ misses buckets party first probe) ≡ held_through bucket false log
missed_same buckets party first probe bucket log = held-append bucket false log (misses buckets party first probe)
    ∙ held-misses buckets party first probe bucket (held_through bucket false log)

held-taking_at : (party taken bucket : ℕ) (log : PoolLog) → held_through bucket false (log ++ taking_at party taken)
    ≡ (if taken == bucket then true else held_through bucket false log)
held-taking_at party taken bucket log = held-append bucket false log (taking_at party taken)

-- misses don't change a hint
pub hint-misses : (buckets party first probe : ℕ) (hint : Hint) → hint ≡ hint_through hint (misses buckets party first probe)
hint-misses buckets party first zero hint = refl
hint-misses buckets party first (suc probe) hint = hint-misses buckets party first probe hint
    ∙ sym (hint-append hint (misses buckets party first probe) (miss_at party (probed buckets first probe)))

pub hint_by_search : (buckets party first probe taken : ℕ) (hint : Hint) → probed buckets first probe ≡ taken →
    hint_after hint (Takes taken) ≡ hint_through hint (taking_search buckets party first probe)
hint_by_search buckets party first probe taken hint there = ap (λ (n : ℕ). hint_after hint (Takes n)) (sym there)
    ∙ ap (λ (h : Hint). hint_after h (Takes (probed buckets first probe))) (hint-misses buckets party first probe hint)
    ∙ sym (hint-append hint (misses buckets party first probe) (taking_at party (probed buckets first probe)))

-- a search that takes a bucket leaves that one held, and the others as they were
pub held_by_search : (buckets party first probe taken bucket : ℕ) (log : PoolLog) → probed buckets first probe ≡ taken →
    held_through bucket false (log ++ taking_search buckets party first probe)
    ≡ (if taken == bucket then true else held_through bucket false log)
held_by_search buckets party first probe taken bucket log there =
    let tried : ℕ = probed buckets first probe in
    let before : PoolLog = misses buckets party first probe in
    sym (ap (held_through bucket false) (append_assoc log before (taking_at party tried)))
    ∙ held-taking_at party tried bucket (log ++ before)
    ∙ ap (λ (held : Bool). if tried == bucket then true else held) (missed_same buckets party first probe bucket log)
    ∙ ap (λ (n : ℕ). if n == bucket then true else held_through bucket false log) there

-- ONE SEARCH

-- the seat of an idle party, by the seat's own number and log
pub idle_where : (scene : PoolScene) (number : ℕ) (log : PoolLog) (me : Me ℕ SeatView) → IsSeatOfIdle scene number log me →
    IsSeatOfIdle scene (number_of me.0) (view_log me.0) me
idle_where scene number log me is = subst (λ (m : Me ℕ SeatView). IsSeatOfIdle scene (number_of m.0) (view_log m.0) me)
    (sym is.seat.is) is

module _ (scene : PoolScene) (number : ℕ) (log : PoolLog) (first : ℕ) where
  pub search_begins : (me : Me ℕ SeatView) → IsSeatOfIdle scene number log me → IsInSearch scene number log first 0 me
  search_begins me of = record {
    ended = subst (λ (l : PoolLog). IsSeatOfIdle scene number l me) (sym (append-nil log)) of;
    held = λ one earlier below. absurd (omega arith);
  }

  module _ (me new : Me ℕ SeatView) (probe : ℕ) (so_far : IsInSearch scene number log first probe me) where
    abbrev tried : ℕ
    tried = probed scene.geometry.buckets first probe

    abbrev before : PoolLog
    before = misses scene.geometry.buckets number first probe

    -- one more miss. If the party is the only one, the bucket is held after its log, as all before
    pub search_goes_on : (bucket : ℕ) → bucket ≡ tried → AfterMiss scene (number_of me.0) (view_log me.0) bucket new →
        IsInSearch scene number log first (probe + 1) new
    search_goes_on bucket is tells =
        let buckets : ℕ = scene.geometry.buckets in
        let Told : Me ℕ SeatView → Type 0 = λ m. AfterMiss scene (number_of m.0) (view_log m.0) tried new in
        let here = subst Told so_far.ended.seat.is
        (subst (λ (b : ℕ). AfterMiss scene (number_of me.0) (view_log me.0) b new) is tells) in
        let more = subst (λ (l : PoolLog). IsSeatOfIdle scene number l new) (append_assoc log before (miss_at number tried))
        here.ended in
        record {
          ended = subst (λ (l : PoolLog). IsSeatOfIdle scene number (log ++ l) new)
              (sym (ap (misses buckets number first) (add-one probe))) more;
          held = λ one. below_more (λ (other : ℕ). IsHeldAfter log (probed buckets first other)) probe (so_far.held one)
              (sym (missed_same buckets number first probe tried log) ∙ here.held one);
        }

    pub search_takes : (bucket : ℕ) → bucket ≡ tried → AfterGain scene (number_of me.0) (view_log me.0)
        (taking_at (number_of me.0) bucket) bucket new →
        probe < scene.geometry.buckets → AfterSearchWin scene number log first new bucket
    search_takes bucket is tells below =
        let buckets : ℕ = scene.geometry.buckets in
        let Told : Me ℕ SeatView → Type 0 = λ m.
        AfterGain scene (number_of m.0) (view_log m.0) (taking_at (number_of m.0) tried) tried new in
        let here = subst Told so_far.ended.seat.is
        (subst (λ (b : ℕ). AfterGain scene (number_of me.0) (view_log me.0) (taking_at (number_of me.0) b) b new) is tells) in
        let free : ¬ IsHeldAfter log tried = λ held. here.free (missed_same buckets number first probe tried log ∙ held) in
        record {
          probe = probe;
          before_end = below;
          there = sym is;
          ended = subst (λ (l : PoolLog). IsSeatOfIdle scene number l new) (append_assoc log before (taking_at number tried))
              here.ended;
          below = subst (λ (b : ℕ). b < buckets) (sym is) (probe_below buckets first probe below);
          free = subst (λ (b : ℕ). ¬ IsHeldAfter log b) (sym is) free;
        }

  -- an exchange that also detaches the bucket
  pub search_sends : (me new : Me ℕ SeatView) (probe : ℕ) (so_far : IsInSearch scene number log first probe me) (bucket : ℕ) →
      bucket ≡ probed scene.geometry.buckets first probe → AfterSending scene (number_of me.0) (view_log me.0) bucket new →
      probe < scene.geometry.buckets → AfterSearchSending scene number log first new bucket
  search_sends me new probe so_far bucket is sent below = record {
    between = sent.between;
    taken = search_takes me sent.between probe so_far bucket is sent.taken below;
    ended = subst (λ (m : Me ℕ SeatView). AfterCall scene (number_of m.0) (view_log sent.between.0)
        (detach_entry (number_of m.0) bucket) new) so_far.ended.seat.is sent.ended;
  }

  -- the first probe, if the pool has bucket `first`
  pub first_probed : (me new : Me ℕ SeatView) → IsInSearch scene number log first 0 me → first < scene.geometry.buckets →
      (told : Bool) → AfterProbe scene (number_of me.0) (view_log me.0) first new told →
      MatchBool told (AfterSearchWin scene number log first new first)
      (IsInSearch scene number log first (probes_before scene.geometry.buckets first) new)
  first_probed me new begun inside true won =
      search_takes me new 0 begun first (sym (first_probe scene.geometry.buckets first inside)) won (omega arith)
  first_probed me new begun inside false lost =
      subst (λ (n : ℕ). IsInSearch scene number log first n new) (sym (probes_one scene.geometry.buckets first inside))
      (search_goes_on me new 0 begun first (sym (first_probe scene.geometry.buckets first inside)) lost)

  pub first_sent : (me new : Me ℕ SeatView) → IsInSearch scene number log first 0 me → first < scene.geometry.buckets →
      (told : Bool) → AfterSendingProbe scene (number_of me.0) (view_log me.0) first new told →
      MatchBool told (AfterSearchSending scene number log first new first)
      (IsInSearch scene number log first (probes_before scene.geometry.buckets first) new)
  first_sent me new begun inside true sent =
      search_sends me new 0 begun first (sym (first_probe scene.geometry.buckets first inside)) sent (omega arith)
  first_sent me new begun inside false lost =
      subst (λ (n : ℕ). IsInSearch scene number log first n new) (sym (probes_one scene.geometry.buckets first inside))
      (search_goes_on me new 0 begun first (sym (first_probe scene.geometry.buckets first inside)) lost)

  pub search_refuses : (me : Me ℕ SeatView) → IsInSearch scene number log first scene.geometry.buckets me →
      AfterRefusal scene number log (refused_search scene.geometry.buckets number first) me
  search_refuses me so_far = record {
    ended = so_far.ended;
    held = λ one bucket below.
        let probe = probe_at scene.geometry.buckets first bucket below in
        subst (λ (b : ℕ). IsHeldAfter log b) probe.there (so_far.held one probe.probe probe.before_end);
  }

-- a search that has ended
pub search_took : (scene : PoolScene) (number : ℕ) (log : PoolLog) (first : ℕ) (new : Me ℕ SeatView) (bucket : ℕ)
    (took : AfterSearchWin scene number log first new bucket) →
    HasAsked scene number log (taking_search scene.geometry.buckets number first took.probe) (Some bucket) new
search_took scene number log first new bucket took = record {
  ended = took.ended;
  leaves = λ other. held_by_search scene.geometry.buckets number first took.probe bucket other log took.there;
  found = (took.below, took.free);
}

pub search_lost : (scene : PoolScene) (number : ℕ) (log : PoolLog) (first : ℕ) (new : Me ℕ SeatView) →
    AfterRefusal scene number log (refused_search scene.geometry.buckets number first) new →
    HasAsked scene number log (refused_search scene.geometry.buckets number first) None new
search_lost scene number log first new lost = record {
  ended = lost.ended;
  leaves = λ other. missed_same scene.geometry.buckets number first scene.geometry.buckets other log;
  found = lost.held;
}
