-- The walks of settlers.
use Rattle.bb_memory_file.proofs.FileEvents.{append_assoc, freed_on, gets_on, has_first, has_next, has_none, on_lives}
use Rattle.bb_memory_file.proofs.FileLooks.{looks_move_none}
use Rattle.bb_memory_file.proofs.FileSteps.{counts, counts_on, ends, leaves, passes, recovers, settles_clear, settles_free, settles_sent, stays}
use Rattle.bb_memory_file.proofs.FileWalks.{walk_look, walk_move, walk_nowhere, walk_on, walk_step}
use Rattle.bb_memory_file.specs.FileCalls.{Gets, IsFound, IsLifeOf, IsOver, IsRecovered, IsSettled, Whereabouts, counting, freed_in, has_some, is_tried, locking, on_life, tries, unseen}
use Rattle.bb_memory_file.specs.FileCalls as calls
use Rattle.bb_memory_file.specs.FileCalls.whereabouts as whereabouts
use Rattle.bb_memory_file.specs.FileCode.{Event, ExchangeFlag, FileLog, HasNot, Holds, IsStep, IsWalk, Known, LoadFlag, LoadLife, MissFlag, StoreEntry, StoreFlag, StoreLife, Unknown, known_of, life_by, told}
use Rattle.bb_memory_file.specs.FileLog.{with_entry}
use Rattle.bb_memory_file.specs.FileNames.{Count, Counting, DetachedBy, FileFlag, FileStep, Flags, Free, HeldBy, Leave, Next, Nowhere, Outside, Place, Recover, SentTo, Settled}
use Rattle.bb_memory_file.specs.FileSettlers.{IsCounted, IsCountedOn, IsRecover, IsSettledAt}
use Rattle.bb_memory_file_machine.specs.FileMachine.{same_flag}
use Rattle.bb_memory_pool_machine.proofs.PoolSteps.{test_same}
use Rattle.std.proofs.Common.{Bool, List, Some, [], ap, arith, false, inl, inr, refl, subst, sym, true, ℕ, ◌++◌, ◌+◌, ◌<◌, ◌∙◌, ◌∷◌, ◌≡◌, ◌≢◌, ◌≤◌, ◌⊎◌}
use Rattle.std.proofs.lemmas.Bool.{cases_eq, eqb-true, ne_eqb}
use Rattle.std.specs.Prelude.{MatchBool, if◌then◌else◌, ◌%◌, ◌==◌}

-- RECOVERING

module _ (process : ℕ) (old : FileLog) (bucket : ℕ) where
  abbrev here : Place
  here = Flags old.party bucket

  pub not_recovered : (new : FileLog) (flag : FileFlag) (party : ℕ) → party ≡ old.party → new ≡ told old (LoadFlag bucket flag) →
      same_flag flag (DetachedBy party) ≡ false → IsRecover process old bucket new
  not_recovered new flag party mine is other = record {
    events = LoadFlag bucket flag ∷ [];
    gets = is;
    taken = [];
    walk = walk_look process old new here (LoadFlag bucket flag) tt is;
    frees = refl;
    tried = let other' = ap (λ p. same_flag flag (DetachedBy p)) (sym mine)
        ∙ other in rw (test_same bucket bucket refl, other') refl;
    settles = refl;
    moves_none = refl;
    quiet = refl;
    others = λ o apart. ap (λ l. known_of l o) is ∙ rw (ne_eqb bucket o (λ same. apart (sym same))) refl;
  }

  pub recovered : (hit : Bool) (one new : FileLog) (flag : FileFlag) (party : ℕ) → party ≡ old.party →
      one ≡ told old (LoadFlag bucket flag) →
      MatchBool hit (new ≡ told one (ExchangeFlag bucket (DetachedBy party) (HeldBy party)))
      (new ≡ told one (MissFlag bucket (DetachedBy party))) → IsRecover process old bucket new
  recovered true one new flag party mine e1 e2 =
      let e2' : new ≡ told (told old (LoadFlag bucket flag)) (ExchangeFlag bucket (DetachedBy old.party) (HeldBy old.party)) =
      e2 ∙ ap (λ p. told one (ExchangeFlag bucket (DetachedBy p) (HeldBy p))) mine
      ∙ ap (λ log. told log (ExchangeFlag bucket (DetachedBy old.party) (HeldBy old.party))) e1 in
      record {
        events = ExchangeFlag bucket (DetachedBy old.party) (HeldBy old.party) ∷ LoadFlag bucket flag ∷ [];
        gets = e2';
        taken = Recover process ∷ [];
        walk = walk_on process old (told old (LoadFlag bucket flag)) new here here here [] (Recover process ∷ [])
            (walk_look process old (told old (LoadFlag bucket flag)) here (LoadFlag bucket flag) tt refl)
            (walk_step process (told old (LoadFlag bucket flag)) new here
            (ExchangeFlag bucket (DetachedBy old.party) (HeldBy old.party))
            (Recover process) here refl (recovers (told old (LoadFlag bucket flag)) process bucket) e2');
        frees = refl;
        tried = rw (test_same bucket bucket refl, test_same old.party old.party refl) refl;
        settles = refl;
        moves_none = refl;
        quiet = refl;
        others = λ o apart. ap (λ l. known_of l o) e2' ∙ rw (ne_eqb bucket o (λ same. apart (sym same))) refl;
      }
  recovered false one new flag party mine e1 e2 =
      let e2' : new ≡ told (told old (LoadFlag bucket flag)) (MissFlag bucket (DetachedBy old.party)) =
      e2 ∙ ap (λ p. told one (MissFlag bucket (DetachedBy p))) mine
      ∙ ap (λ log. told log (MissFlag bucket (DetachedBy old.party))) e1 in
      record {
        events = MissFlag bucket (DetachedBy old.party) ∷ LoadFlag bucket flag ∷ [];
        gets = e2';
        taken = [];
        walk = walk_on process old (told old (LoadFlag bucket flag)) new here here here [] []
            (walk_look process old (told old (LoadFlag bucket flag)) here (LoadFlag bucket flag) tt refl)
            (walk_look process (told old (LoadFlag bucket flag)) new here (MissFlag bucket (DetachedBy old.party)) tt e2');
        frees = refl;
        tried = rw (test_same bucket bucket refl, test_same old.party old.party refl) refl;
        settles = refl;
        moves_none = refl;
        quiet = refl;
        others = λ o apart. ap (λ l. known_of l o) e2' ∙ rw (ne_eqb bucket o (λ same. apart (sym same))) refl;
      }

-- ONE BUCKET

module _ (process : ℕ) (old : FileLog) (bucket : ℕ) (below : bucket < old.scene.buckets) where
  abbrev at : Place
  at = Flags old.party bucket

  abbrev next : Place
  next = Flags old.party (bucket + 1)

  pub passed : (new : FileLog) (flag : FileFlag) (party : ℕ) → party ≡ old.party → new ≡ told old (LoadFlag bucket flag) →
      same_flag flag (HeldBy party) ≡ false → IsSettledAt process old bucket false new
  passed new flag party mine is other = record {
    events = LoadFlag bucket flag ∷ [];
    gets = is;
    taken = Next process ∷ [];
    walk = walk_step process old new at (LoadFlag bucket flag) (Next process) next refl
        (passes old process bucket below flag (ap (λ p. same_flag flag (HeldBy p)) (sym mine) ∙ other)) is;
    frees = refl;
    recovers_none = refl;
    settles = refl;
    moves_none = refl;
    quiet = refl;
    unknown = ap (λ l. known_of l bucket) is
        ∙ rw (test_same bucket bucket refl, ap (λ p. same_flag flag (HeldBy p)) (sym mine) ∙ other) refl;
    others = λ o apart. ap unseen (ap (λ l. known_of l o) is ∙ rw (ne_eqb bucket o (λ same. apart (sym same))) refl);
  }

  stored_unknown : (log new : FileLog) (to : FileFlag) → new ≡ told log (StoreFlag bucket to) → known_of new bucket ≡ Unknown
  stored_unknown log new to is = ap (λ l. known_of l bucket) is ∙ rw (test_same bucket bucket refl) refl

  -- the party has found that it holds the bucket, and has looked where it is
  module _ (one two : FileLog) (flag : FileFlag) (e1 : one ≡ told old (LoadFlag bucket flag)) where
    module _ (answer : Whereabouts) (found : IsFound one bucket answer two) where
      gets_two : Gets old (found.events ++ LoadFlag bucket flag ∷ []) two
      gets_two = gets_on old one two (LoadFlag bucket flag ∷ []) found.events e1 found.gets

      party_two : two.party ≡ old.party
      party_two = ap (λ (log : FileLog). log.party) gets_two

      below_two : bucket < two.scene.buckets
      below_two = subst (λ (n : ℕ). bucket < n) (sym (ap (λ (log : FileLog). log.scene.buckets) gets_two)) below

      walk_two : (place : ℕ → Place) → IsWalk process old (place old.party) two [] (place old.party)
      walk_two place = walk_on process old one two (place old.party) (place old.party) (place old.party) [] []
          (walk_look process old one (place old.party) (LoadFlag bucket flag) tt e1) (found.looks process (place old.party))

      frees_two : freed_in (found.events ++ LoadFlag bucket flag ∷ []) ≡ 0
      frees_two = let on = freed_on found.events (LoadFlag bucket flag ∷ []) in let none = found.frees in omega (arith, on, none)

      none_two : has_some calls.moves_message (found.events ++ LoadFlag bucket flag ∷ []) ≡ false
      none_two = has_none calls.moves_message (LoadFlag bucket flag ∷ []) found.events refl
          (looks_move_none bucket answer found.events found.by)

      quiet_two : on_life (found.events ++ LoadFlag bucket flag ∷ []) ≡ []
      quiet_two = on_lives found.events (LoadFlag bucket flag ∷ []) [] [] found.quiet refl

      others_two : (o : ℕ) → o ≢ bucket → unseen (known_of two o) ≡ unseen (known_of old o)
      others_two o apart = found.others o apart
          ∙ ap unseen (ap (λ l. known_of l o) e1 ∙ rw (ne_eqb bucket o (λ same. apart (sym same))) refl)

      -- the flag is stored then
      others_stored : (new : FileLog) (to : FileFlag) → new ≡ told two (StoreFlag bucket to) → (o : ℕ) → o ≢ bucket →
          unseen (known_of new o) ≡ unseen (known_of old o)
      others_stored new to is o apart = ap unseen (ap (λ l. known_of l o) is ∙ rw (ne_eqb bucket o (λ same. apart (sym same))) refl)
          ∙ others_two o apart

      -- one more step, by the party of the log that has been got so far
      step_two : (new : FileLog) (event : Event) (there : ℕ → Place) → new ≡ told two event →
          IsStep two process (Flags two.party bucket) event (Next process) (there two.party) →
          IsWalk process old at new (Next process ∷ []) (there old.party)
      step_two new event there is made =
          walk_on process old two new at at (there old.party) [] (Next process ∷ []) (walk_two (λ p. Flags p bucket))
          (subst (λ (p : ℕ). IsWalk process two (Flags p bucket) new (Next process ∷ []) (there p)) party_two
          (walk_step process two new (Flags two.party bucket) event (Next process) (there two.party) refl made is))

    pub sent_back : (new : FileLog) (slot lap : ℕ) → IsFound one bucket (whereabouts.In slot lap) two →
        new ≡ told two (StoreFlag bucket (SentTo slot lap)) → IsSettledAt process old bucket false new
    sent_back new slot lap found is = record {
      events = StoreFlag bucket (SentTo slot lap) ∷ found.events ++ LoadFlag bucket flag ∷ [];
      gets = is ∙ ap (λ log. told log (StoreFlag bucket (SentTo slot lap))) (gets_two (whereabouts.In slot lap) found);
      taken = Next process ∷ [];
      walk = step_two (whereabouts.In slot lap) found new (StoreFlag bucket (SentTo slot lap)) (λ p. Flags p (bucket + 1)) is
          (settles_sent two process bucket (below_two (whereabouts.In slot lap) found) slot found.found.0 lap found.found.1);
      frees = let none = frees_two (whereabouts.In slot lap) found in omega (arith, none);
      recovers_none = refl;
      settles = refl;
      moves_none = none_two (whereabouts.In slot lap) found;
      quiet = quiet_two (whereabouts.In slot lap) found;
      unknown = stored_unknown two new (SentTo slot lap) is;
      others = others_stored (whereabouts.In slot lap) found new (SentTo slot lap) is;
    }

    pub given_back : (new : FileLog) → IsFound one bucket whereabouts.Nowhere two → new ≡ told two (StoreFlag bucket Free) →
        IsSettledAt process old bucket true new
    given_back new found is = record {
      events = StoreFlag bucket Free ∷ found.events ++ LoadFlag bucket flag ∷ [];
      gets = is ∙ ap (λ log. told log (StoreFlag bucket Free)) (gets_two whereabouts.Nowhere found);
      taken = Next process ∷ [];
      walk = step_two whereabouts.Nowhere found new (StoreFlag bucket Free) (λ p. Flags p (bucket + 1)) is
          (settles_free two process bucket (below_two whereabouts.Nowhere found) found.found.0 found.found.1);
      frees = let none = frees_two whereabouts.Nowhere found in omega (arith, none);
      recovers_none = refl;
      settles = refl;
      moves_none = none_two whereabouts.Nowhere found;
      quiet = quiet_two whereabouts.Nowhere found;
      unknown = stored_unknown two new Free is;
      others = others_stored whereabouts.Nowhere found new Free is;
    }

    pub cleared : (three new : FileLog) → IsFound one bucket whereabouts.Entered two →
        three ≡ told two (StoreEntry bucket Nowhere) →
        new ≡ told three (StoreFlag bucket Free) → IsSettledAt process old bucket true new
    cleared three new found e3 e4 =
        let slot = found.found.0 in
        let size = found.found.1 in
        let known = found.found.2 in
        let below' = below_two whereabouts.Entered found in
        let mine : three.party ≡ old.party = ap (λ (log : FileLog). log.party) e3 ∙ party_two whereabouts.Entered found in
        let below_three : bucket < three.scene.buckets =
        subst (λ (n : ℕ). bucket < n) (sym (ap (λ (log : FileLog). log.scene.buckets) e3)) below' in
        let known_three : known_of three bucket ≡ Holds (Some Nowhere) (HasNot slot) =
        ap (λ log. known_of log bucket) e3 ∙ rw (test_same bucket bucket refl) (ap (λ k. with_entry k Nowhere) known) in
        record {
          events = StoreFlag bucket Free ∷ StoreEntry bucket Nowhere ∷ found.events ++ LoadFlag bucket flag ∷ [];
          gets = e4 ∙ ap (λ log. told log (StoreFlag bucket Free)) (e3
              ∙ ap (λ log. told log (StoreEntry bucket Nowhere)) (gets_two whereabouts.Entered found));
          taken = Next process ∷ Next process ∷ [];
          walk = walk_on process old three new at at next (Next process ∷ []) (Next process ∷ [])
              (step_two whereabouts.Entered found three (StoreEntry bucket Nowhere) (λ p. Flags p bucket) e3
              (settles_clear two process bucket below' slot size known))
              (subst (λ (p : ℕ). IsWalk process three (Flags p bucket) new (Next process ∷ []) (Flags p (bucket + 1))) mine
              (walk_step process three new (Flags three.party bucket) (StoreFlag bucket Free) (Next process)
              (Flags three.party (bucket + 1)) refl (settles_free three process bucket below_three (HasNot slot) known_three) e4));
          frees = let none = frees_two whereabouts.Entered found in omega (arith, none);
          recovers_none = refl;
          settles = refl;
          moves_none = none_two whereabouts.Entered found;
          quiet = quiet_two whereabouts.Entered found;
          unknown = stored_unknown three new Free e4;
          others = λ o apart.
              let away = ne_eqb bucket o (λ same. apart (sym same)) in
              ap unseen (ap (λ l. known_of l o) e4 ∙ rw away refl ∙ ap (λ l. known_of l o) e3 ∙ rw away refl)
              ∙ others_two whereabouts.Entered found o apart;
        }

-- ALL BUCKETS

neq_by : (one other : ℕ) → (one == other) ≡ false → ¬ (one ≡ other)
neq_by one other e same = let is = test_same one other same in absurd (cc)

-- what the settler has done about the detached buckets before this one
abbrev pub RecoveredTo : ℕ → Bool → ℕ → List Event → List FileStep → Type 0
RecoveredTo party true bucket events taken = (other : ℕ) → other < bucket → is_tried party other events ≡ true
RecoveredTo party false bucket events taken = has_some calls.recovers taken ≡ false

-- the settler has come to this bucket
pub record Settling (process : ℕ) (old : FileLog) (detached : Bool) (bucket freed : ℕ) (new : FileLog) : Type 0 where
  pub events : List Event
  pub gets : Gets old events new
  pub taken : List FileStep
  pub walk : IsWalk process old (Flags old.party 0) new taken (Flags old.party bucket)
  pub frees : freed_in events ≡ freed
  pub recovered : RecoveredTo old.party detached bucket events taken
  pub settles : has_some calls.strays taken ≡ false
  pub moves_none : has_some calls.moves_message events ≡ false
  pub quiet : on_life events ≡ []
  pub unknown : (other : ℕ) → other < bucket → known_of new other ≡ Unknown

unseen_none : (known : Known) → unseen known ≡ Unknown → known ≡ Unknown
unseen_none Unknown is = refl
unseen_none (Holds entry seen) is = absurd (cc)

-- one bucket more is unknown
unknown_on : (log new : FileLog) (bucket : ℕ) → ((other : ℕ) → other < bucket → known_of log other ≡ Unknown) →
    known_of new bucket ≡ Unknown →
    ((other : ℕ) → other ≢ bucket → unseen (known_of new other) ≡ unseen (known_of log other)) → (other : ℕ) →
    other < bucket + 1 → known_of new other ≡ Unknown
unknown_on log new bucket before now others other below = elim (cases_eq other bucket) [
  | inl same ↦ ap (λ b. known_of new b) same ∙ now
  | inr apart ↦ unseen_none (known_of new other)
      (others other apart ∙ ap unseen (before other (omega (arith, below, apart))))
]

none_yet : (party : ℕ) (detached : Bool) → RecoveredTo party detached 0 [] []
none_yet party true = λ other below. absurd (omega (arith, below))
none_yet party false = refl

pub settling_none : (process : ℕ) (old : FileLog) (detached : Bool) → Settling process old detached 0 0 old
settling_none process old detached = record {
  events = [];
  gets = refl;
  taken = [];
  walk = walk_nowhere process old (Flags old.party 0);
  frees = refl;
  recovered = none_yet old.party detached;
  settles = refl;
  moves_none = refl;
  quiet = refl;
  unknown = λ other below. absurd (omega (arith, below));
}

module _ (process : ℕ) (old log new : FileLog) (detached : Bool) (bucket freed more : ℕ) (answer : Bool)
    (count : more ≡ freed + (if answer then 1 else 0)) (settling : Settling process old detached bucket freed log) where
  party_log : log.party ≡ old.party
  party_log = ap (λ (l : FileLog). l.party) settling.gets

  -- a settler that takes back nothing goes on
  pub settling_on : detached ≡ false → IsSettledAt process log bucket answer new →
      Settling process old detached (bucket + 1) more new
  settling_on none step = record {
    events = step.events ++ settling.events;
    gets = gets_on old log new settling.events step.events settling.gets step.gets;
    taken = step.taken ++ settling.taken;
    walk = walk_on process old log new (Flags old.party 0) (Flags old.party bucket) (Flags old.party (bucket + 1)) settling.taken
        step.taken settling.walk
        (subst (λ (p : ℕ). IsWalk process log (Flags p bucket) new step.taken (Flags p (bucket + 1))) party_log step.walk);
    frees = let on = freed_on step.events settling.events in let one = step.frees in let other = settling.frees in
        omega (arith, on, one, other, count);
    recovered = subst (λ (d : Bool). RecoveredTo old.party d (bucket + 1) (step.events ++ settling.events)
        (step.taken ++ settling.taken))
        (sym none) (has_none calls.recovers settling.taken step.taken
        (subst (λ (d : Bool). RecoveredTo old.party d bucket settling.events settling.taken) none settling.recovered)
        step.recovers_none);
    settles = has_none calls.strays settling.taken step.taken settling.settles step.settles;
    moves_none = has_none calls.moves_message settling.events step.events settling.moves_none step.moves_none;
    quiet = on_lives step.events settling.events [] [] step.quiet settling.quiet;
    unknown = unknown_on log new bucket settling.unknown step.unknown step.others;
  }

  -- a settler that takes back detached buckets goes on
  module _ (middle : FileLog) (back : IsRecover process log bucket middle)
      (step : IsSettledAt process middle bucket answer new) where
    party_middle : middle.party ≡ log.party
    party_middle = ap (λ (l : FileLog). l.party) back.gets

    abbrev both : List Event
    both = step.events ++ back.events

    tried_here : is_tried old.party bucket (both ++ settling.events) ≡ true
    tried_here = has_next (tries old.party bucket) settling.events both (has_first (tries old.party bucket) back.events step.events
        (subst (λ (p : ℕ). is_tried p bucket back.events ≡ true) party_log back.tried))

    tried_to : ((other : ℕ) → other < bucket → is_tried old.party other settling.events ≡ true) → (other : ℕ) → other < bucket + 1 →
        (same : Bool) → (bucket == other) ≡ same → is_tried old.party other (both ++ settling.events) ≡ true
    tried_to before other below true e = subst (λ (b : ℕ). is_tried old.party b (both ++ settling.events) ≡ true)
        (eqb-true bucket other e) tried_here
    tried_to before other below false e =
        let apart = neq_by bucket other e in
        has_first (tries old.party other) settling.events both (before other (omega (arith, below, apart)))

    pub settling_back : detached ≡ true → Settling process old detached (bucket + 1) more new
    settling_back all = record {
      events = both ++ settling.events;
      gets = gets_on old log new settling.events both settling.gets
          (gets_on log middle new back.events step.events back.gets step.gets);
      taken = step.taken ++ (back.taken ++ settling.taken);
      walk = walk_on process old middle new (Flags old.party 0) (Flags old.party bucket) (Flags old.party (bucket + 1))
          (back.taken ++ settling.taken) step.taken
          (walk_on process old log middle (Flags old.party 0) (Flags old.party bucket)
          (Flags old.party bucket) settling.taken back.taken
          settling.walk (subst
          (λ (p : ℕ). IsWalk process log (Flags p bucket) middle back.taken (Flags p bucket)) party_log back.walk))
          (subst (λ (p : ℕ). IsWalk process middle (Flags p bucket) new step.taken (Flags p (bucket + 1)))
          (party_middle ∙ party_log)
          step.walk);
      frees = let on = freed_on both settling.events in let on' = freed_on step.events back.events in let one = step.frees in
          let two = back.frees in let other = settling.frees in omega (arith, on, on', one, two, other, count);
      recovered = subst (λ (d : Bool). RecoveredTo old.party d (bucket + 1) (both ++ settling.events)
          (step.taken ++ (back.taken ++ settling.taken)))
          (sym all) (λ other below. tried_to
          (subst (λ (d : Bool). RecoveredTo old.party d bucket settling.events settling.taken) all settling.recovered) other below
          (bucket == other) refl);
      settles = has_none calls.strays (back.taken ++ settling.taken) step.taken
          (has_none calls.strays settling.taken back.taken settling.settles back.settles) step.settles;
      moves_none = has_none calls.moves_message settling.events both settling.moves_none
          (has_none calls.moves_message back.events step.events back.moves_none step.moves_none);
      quiet = on_lives both settling.events [] [] (on_lives step.events back.events [] [] step.quiet back.quiet) settling.quiet;
      unknown = unknown_on log new bucket settling.unknown step.unknown
          (λ other apart. step.others other apart ∙ ap unseen (back.others other apart));
    }

recovered_all : (process : ℕ) (old new : FileLog) (detached : Bool) (bucket freed : ℕ) →
    (settling : Settling process old detached bucket freed new) → old.scene.buckets ≤ bucket → (taken : List FileStep) →
    has_some calls.recovers taken ≡ has_some calls.recovers settling.taken → (is : Bool) → detached ≡ is →
    IsRecovered old is settling.events taken
recovered_all process old new detached bucket freed settling past taken same true e = λ other below.
    (subst (λ (d : Bool). RecoveredTo old.party d bucket settling.events settling.taken) e settling.recovered) other
    (omega (arith, below, past))
recovered_all process old new detached bucket freed settling past taken same false e =
    same ∙ subst (λ (d : Bool). RecoveredTo old.party d bucket settling.events settling.taken) e settling.recovered

pub settled_all : (process : ℕ) (old new : FileLog) (detached : Bool) (bucket freed : ℕ) →
    Settling process old detached bucket freed new →
    old.scene.buckets ≤ bucket → IsSettled process old detached (Flags old.party 0) freed [] new (Settled old.party)
settled_all process old new detached bucket freed settling past =
    let mine : new.party ≡ old.party = ap (λ (l : FileLog). l.party) settling.gets in
    let same : new.scene ≡ old.scene = ap (λ (l : FileLog). l.scene) settling.gets in
    record {
      events = settling.events;
      gets = settling.gets;
      taken = Next process ∷ settling.taken;
      walk = walk_on process old new new (Flags old.party 0) (Flags old.party bucket) (Settled old.party) settling.taken
          (Next process ∷ []) settling.walk
          (subst (λ (p : ℕ). IsWalk process new (Flags p bucket) new (Next process ∷ []) (Settled p)) mine
          (walk_move process new (Flags new.party bucket) (Next process) (Settled new.party) refl
          (ends new process bucket (subst (λ (s : ℕ). s ≤ bucket) (sym (ap (λ scene. scene.buckets) same)) past))));
      frees = settling.frees;
      recovered = recovered_all process old new detached bucket freed settling past
          (Next process ∷ settling.taken) refl detached refl;
      settles = settling.settles;
      moves_none = settling.moves_none;
      counts = settling.quiet;
      unknown = λ other below. settling.unknown other (omega (arith, below, past));
    }

-- LIVES

abbrev pub max_life : ℕ
max_life = 18446744073709551615

module _ (process : ℕ) (old : FileLog) (life : ℕ) where
  abbrev loaded : FileLog
  loaded = told old (LoadLife life)

  pub counted_lock : (one new : FileLog) → one ≡ loaded → new ≡ told one (StoreLife (life + 2)) →
      life < 18446744073709551612 → IsCounted process old (Some life) new
  counted_lock one new e1 e2 under =
      let e : new ≡ told loaded (StoreLife (life + 2)) = e2 ∙ ap (λ log. told log (StoreLife (life + 2))) e1 in (
        e,
        walk_on process old loaded new (Counting old.party) (Counting old.party) (Flags old.party 0) []
            (Count process (life + 2) ∷ [])
            (walk_look process old loaded (Counting old.party) (LoadLife life) tt refl)
            (walk_step process loaded new (Counting old.party) (StoreLife (life + 2)) (Count process (life + 2))
            (Flags old.party 0) refl
            (counts loaded process life (life + 2) refl (omega arith)) e),
        omega (arith, under),
      )

  already_by : (parity : ℕ) (is : Bool) → (life ≡ max_life) →
      (if is then LoadLife life ∷ []
      else (if life == 18446744073709551615 then LoadLife life ∷ [] else StoreLife
      (life + 1) ∷ LoadLife life ∷ [])) ≡ LoadLife life ∷ []
  already_by parity true most = refl
  already_by parity false most = rw (test_same life 18446744073709551615 most) refl

  already : (parity : ℕ) → ((life % 2 ≡ parity) ⊎ (life ≡ max_life)) → counting parity life ≡ LoadLife life ∷ []
  already parity (inl same) = rw (test_same (life % 2) parity same) refl
  already parity (inr most) = already_by parity (life % 2 == parity) most

  -- the life says already what the process counts, or can't become greater
  pub counted_already : (new : FileLog) (parity : ℕ) → new ≡ loaded → ((life % 2 ≡ parity) ⊎ (life ≡ max_life)) →
      IsCountedOn process old parity new
  counted_already new parity e says = record {
    life = life;
    is_life = ap (λ (log : FileLog). life_by log.events) e;
    says = says;
    events = LoadLife life ∷ [];
    gets = e;
    frees = refl;
    taken = [];
    walk = walk_look process old new (Settled old.party) (LoadLife life) tt e;
    recovers_none = refl;
    settles = refl;
    moves_none = refl;
    found = life;
    counts = sym (already parity says);
    same = λ bucket. ap (λ l. known_of l bucket) e;
  }

  pub counted_now : (one new : FileLog) (parity : ℕ) → one ≡ loaded → new ≡ told one (StoreLife (life + 1)) →
      (life + 1) % 2 ≡ parity → ¬ (life % 2 ≡ parity) → life < max_life → IsCountedOn process old parity new
  counted_now one new parity e1 e2 says other less =
      let e : new ≡ told loaded (StoreLife (life + 1)) = e2 ∙ ap (λ log. told log (StoreLife (life + 1))) e1 in
      record {
        life = life + 1;
        is_life = ap (λ (log : FileLog). life_by log.events) e;
        says = inl says;
        events = StoreLife (life + 1) ∷ LoadLife life ∷ [];
        gets = e;
        frees = refl;
        taken = Count process (life + 1) ∷ [];
        walk = walk_on process old loaded new (Settled old.party) (Settled old.party) (Settled old.party) []
            (Count process (life + 1) ∷ []) (walk_look process old loaded (Settled old.party) (LoadLife life) tt refl)
            (walk_step process loaded new (Settled old.party) (StoreLife (life + 1)) (Count process (life + 1))
            (Settled old.party) refl
            (counts_on loaded process life (life + 1) refl (omega arith)) e);
        recovers_none = refl;
        settles = refl;
        moves_none = refl;
        found = life;
        counts = rw (
          ne_eqb (life % 2) parity other,
          ne_eqb life 18446744073709551615 (λ e. absurd (omega (arith, less, e))),
        ) refl;
        same = λ bucket. ap (λ l. known_of l bucket) e;
      }

-- WHOLE CALLS

-- events that give back nothing, and steps that take back nothing
pub record Quiet (process : ℕ) (old : FileLog) (from : Place) (lives : List Event) (new : FileLog) (there : Place) : Type 0 where
  pub events : List Event
  pub gets : Gets old events new
  pub taken : List FileStep
  pub walk : IsWalk process old from new taken there
  pub frees : freed_in events ≡ 0
  pub recovers_none : has_some calls.recovers taken ≡ false
  pub settles : has_some calls.strays taken ≡ false
  pub moves_none : has_some calls.moves_message events ≡ false
  pub counts : on_life events ≡ lives
  pub same : (bucket : ℕ) → known_of new bucket ≡ known_of old bucket

quiet_move : (process : ℕ) (log : FileLog) (here : Place) (step : FileStep) (there : Place) → calls.recovers step ≡ false →
    calls.strays step ≡ false → IsWalk process log here log (step ∷ []) there → Quiet process log here [] log there
quiet_move process log here step there none settler walk =
    record {
      events = [];
      gets = refl;
      taken = step ∷ [];
      walk = walk;
      frees = refl;
      recovers_none = rw none refl;
      settles = rw settler refl;
      moves_none = refl;
      counts = refl;
      same = λ bucket. refl;
    }

pub quiet_leaves : (process : ℕ) (log : FileLog) → Quiet process log Outside [] log (Flags log.party 0)
quiet_leaves process log = quiet_move process log Outside (Leave process log.party) (Flags log.party 0) refl refl
    (walk_move process log Outside (Leave process log.party) (Flags log.party 0) refl (leaves log process))

pub quiet_stays : (process : ℕ) (log : FileLog) → Quiet process log (Settled log.party) [] log Outside
quiet_stays process log = quiet_move process log (Settled log.party) (Next process) Outside refl refl
    (walk_move process log (Settled log.party) (Next process) Outside refl (stays log process))

quiet_locked : (process : ℕ) (old new : FileLog) (life : ℕ) → IsCounted process old (Some life) new →
    Quiet process old (Counting old.party) (locking life) new (Flags old.party 0)
quiet_locked process old new life counted = record {
  events = StoreLife (life + 2) ∷ LoadLife life ∷ [];
  gets = counted.0;
  taken = Count process (life + 2) ∷ [];
  walk = counted.1;
  frees = refl;
  recovers_none = refl;
  settles = refl;
  moves_none = refl;
  counts = refl;
  same = λ bucket. ap (λ l. known_of l bucket) counted.0;
}

quiet_counted : (process : ℕ) (old new : FileLog) (parity : ℕ) (counted : IsCountedOn process old parity new) →
    Quiet process old (Settled old.party) (counting parity counted.found) new (Settled old.party)
quiet_counted process old new parity counted = record {
  events = counted.events;
  gets = counted.gets;
  taken = counted.taken;
  walk = counted.walk;
  frees = counted.frees;
  recovers_none = counted.recovers_none;
  settles = counted.settles;
  moves_none = counted.moves_none;
  counts = counted.counts;
  same = counted.same;
}

-- the same number, whichever log says so
party_on : (old new : FileLog) (events : List Event) → Gets old events new → new.party ≡ old.party
party_on old new events gets = ap (λ (log : FileLog). log.party) gets

module _ (process : ℕ) (old middle new : FileLog) (detached : Bool) (freed : ℕ) (lives more : List Event)
    (from over there : Place) where
  recovered_after : (is : Bool) → detached ≡ is → (quiet : Quiet process old from lives middle over) →
      (settled : IsSettled process middle detached over freed more new there) →
      IsRecovered old is (settled.events ++ quiet.events) (settled.taken ++ quiet.taken)
  recovered_after true e quiet settled = λ bucket below.
      has_next (tries old.party bucket) quiet.events settled.events
      (subst (λ (p : ℕ). is_tried p bucket settled.events ≡ true) (party_on old middle quiet.events quiet.gets)
      (subst (λ (d : Bool). IsRecovered middle d settled.events settled.taken) e settled.recovered bucket
      (subst (λ (n : ℕ). bucket < n) (sym (ap (λ (log : FileLog). log.scene.buckets) quiet.gets)) below)))
  recovered_after false e quiet settled = has_none calls.recovers quiet.taken settled.taken quiet.recovers_none
      (subst (λ (d : Bool). IsRecovered middle d settled.events settled.taken) e settled.recovered)

  -- a settler that has done something quiet before
  pub settled_after : Quiet process old from lives middle over → IsSettled process middle detached over freed more new there →
      IsSettled process old detached from freed (more ++ lives) new there
  settled_after quiet settled = record {
    events = settled.events ++ quiet.events;
    gets = gets_on old middle new quiet.events settled.events quiet.gets settled.gets;
    taken = settled.taken ++ quiet.taken;
    walk = walk_on process old middle new from over there quiet.taken settled.taken quiet.walk settled.walk;
    frees = let on = freed_on settled.events quiet.events in let one = quiet.frees in let two = settled.frees in
        omega (arith, on, one, two);
    recovered = recovered_after detached refl quiet settled;
    settles = has_none calls.strays quiet.taken settled.taken quiet.settles settled.settles;
    moves_none = has_none calls.moves_message quiet.events settled.events quiet.moves_none settled.moves_none;
    counts = on_lives settled.events quiet.events more lives settled.counts quiet.counts;
    unknown = λ bucket below. settled.unknown bucket
        (subst (λ (n : ℕ). bucket < n) (sym (ap (λ (log : FileLog). log.scene.buckets) quiet.gets)) below);
  }

  recovered_before : (is : Bool) → detached ≡ is → (settled : IsSettled process old detached from freed lives middle over) →
      (quiet : Quiet process middle over more new there) →
      IsRecovered old is (quiet.events ++ settled.events) (quiet.taken ++ settled.taken)
  recovered_before true e settled quiet = λ bucket below.
      has_first (tries old.party bucket) settled.events quiet.events
      (subst (λ (d : Bool). IsRecovered old d settled.events settled.taken) e settled.recovered bucket below)
  recovered_before false e settled quiet = has_none calls.recovers settled.taken quiet.taken
      (subst (λ (d : Bool). IsRecovered old d settled.events settled.taken) e settled.recovered) quiet.recovers_none

  -- a settler that does something quiet afterwards
  pub settled_before : IsSettled process old detached from freed lives middle over → Quiet process middle over more new there →
      IsSettled process old detached from freed (more ++ lives) new there
  settled_before settled quiet = record {
    events = quiet.events ++ settled.events;
    gets = gets_on old middle new settled.events quiet.events settled.gets quiet.gets;
    taken = quiet.taken ++ settled.taken;
    walk = walk_on process old middle new from over there settled.taken quiet.taken settled.walk quiet.walk;
    frees = let on = freed_on quiet.events settled.events in let one = quiet.frees in let two = settled.frees in
        omega (arith, on, one, two);
    recovered = recovered_before detached refl settled quiet;
    settles = has_none calls.strays settled.taken quiet.taken settled.settles quiet.settles;
    moves_none = has_none calls.moves_message settled.events quiet.events settled.moves_none quiet.moves_none;
    counts = on_lives quiet.events settled.events more lives quiet.counts settled.counts;
    unknown = λ bucket below. quiet.same bucket ∙ settled.unknown bucket below;
  }

append_none : (events : List Event) → events ++ [] ≡ events
append_none [] = refl
append_none (event ∷ events) = ap (λ rest. event ∷ rest) (append_none events)

module _ (process : ℕ) (old new : FileLog) (freed : ℕ) where
  -- a party that settles its number in a call
  left_settled : IsSettled process old false (Flags old.party 0) freed [] new (Settled old.party) →
      IsSettled process old false Outside freed [] new (Settled old.party)
  left_settled settled = settled_after process old old new false freed [] [] Outside (Flags old.party 0) (Settled old.party)
      (quiet_leaves process old) settled

  pub gives_all_back : IsSettled process old false (Flags old.party 0) freed [] new (Settled old.party) →
      IsSettled process old false Outside freed [] new Outside
  gives_all_back settled =
      settled_before process old new new false freed [] [] Outside (Settled old.party) Outside (left_settled settled)
      (subst (λ (p : ℕ). Quiet process new (Settled p) [] new Outside) (party_on old new settled.events settled.gets)
      (quiet_stays process new))

  module _ (last : FileLog) (parity : ℕ) (counted : IsCountedOn process new parity last) where
    quiet_on : (party : ℕ) → new.party ≡ party →
        Quiet process new (Settled party) (counting parity counted.found) last (Settled party)
    quiet_on party mine = subst (λ (p : ℕ). Quiet process new (Settled p) (counting parity counted.found) last (Settled p)) mine
        (quiet_counted process new last parity counted)

    pub has_left : parity ≡ 0 → IsSettled process old false (Flags old.party 0) freed [] new (Settled old.party) →
        calls.IsLeave process old freed last
    has_left even settled = (
      (
        counted.found,
        subst (λ (p : ℕ). IsSettled process old false Outside freed (counting p counted.found) last (Settled old.party)) even
            (subst (λ events. IsSettled process old false Outside freed events last (Settled old.party))
            (append_none (counting parity counted.found))
            (settled_before process old new last false freed [] (counting parity counted.found) Outside
            (Settled old.party) (Settled old.party)
            (left_settled settled) (quiet_on old.party (party_on old new settled.events settled.gets)))),
      ),
      (counted.life, counted.is_life, subst (λ (p : ℕ). (counted.life % 2 ≡ p) ⊎ (counted.life ≡ max_life)) even counted.says),
    )

odd_life : (life : ℕ) → ((life % 2 ≡ 1) ⊎ (life ≡ max_life)) → life % 2 ≡ 1
odd_life life (inl odd) = odd
odd_life life (inr most) = omega (arith, most)

module _ (process : ℕ) (old locked new : FileLog) (life freed : ℕ) (counted : IsCounted process old (Some life) locked) where
  party_locked : locked.party ≡ old.party
  party_locked = party_on old locked (StoreLife (life + 2) ∷ LoadLife life ∷ []) counted.0

  settled_locked : (detached : Bool) →
      IsSettled process locked detached (Flags locked.party 0) freed [] new (Settled locked.party) →
      IsSettled process old detached (Counting old.party) freed (locking life) new (Settled old.party)
  settled_locked detached settled =
      settled_after process old locked new detached freed (locking life) [] (Counting old.party) (Flags old.party 0)
      (Settled old.party)
      (quiet_locked process old locked life counted)
      (subst (λ (p : ℕ). IsSettled process locked detached (Flags p 0) freed [] new (Settled p)) party_locked settled)

  pub reaped : (dead left detached : Bool) → detached ≡ calls.is_whose dead left life →
      IsSettled process locked detached (Flags locked.party 0) freed [] new (Settled locked.party) →
      calls.IsReap process old dead left (Some freed) new
  reaped dead left detached whose settled = (
    life,
    counted.2,
    (
      settled.events ++ StoreLife (life + 2) ∷ [],
      gets_on old locked new (StoreLife (life + 2) ∷ LoadLife life ∷ []) settled.events counted.0 settled.gets
          ∙ ap (λ events. record old { events = events ++ old.events })
          (sym (append_assoc settled.events (StoreLife (life + 2) ∷ []) (LoadLife life ∷ []))),
    ),
    subst (λ (d : Bool). IsSettled process old d (Counting old.party) freed (locking life) new (Settled old.party)) whose
        (settled_locked detached settled),
  )

  pub joined : (last : FileLog) → IsSettled process locked false (Flags locked.party 0) freed [] new (Settled locked.party) →
      IsCountedOn process new 1 last → calls.IsJoin process old true last
  joined last settled counted_on =
      let mine : new.party ≡ old.party = party_on locked new settled.events settled.gets ∙ party_locked in
      let mine' : last.party ≡ old.party = party_on new last counted_on.events counted_on.gets ∙ mine in (
        freed,
        life,
        counted_on.found,
        counted.2,
        settled_before process old last last false freed (counting 1 counted_on.found ++ locking life) [] (Counting old.party)
            (Settled old.party) Outside
            (settled_before process old new last false freed (locking life) (counting 1 counted_on.found) (Counting old.party)
            (Settled old.party) (Settled old.party) (settled_locked false settled)
            (subst (λ (p : ℕ). Quiet process new (Settled p) (counting 1 counted_on.found) last (Settled p)) mine
            (quiet_counted process new last 1 counted_on)))
            (subst (λ (p : ℕ). Quiet process last (Settled p) [] last Outside) mine' (quiet_stays process last)),
        (counted_on.life, counted_on.is_life, odd_life counted_on.life counted_on.says),
      )
