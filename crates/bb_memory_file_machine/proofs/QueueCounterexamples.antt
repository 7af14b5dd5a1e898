-- Steps that obey the rules of a queue, and for each wrong set of rules, steps with which it loses the
-- order.
use Rattle.bb_memory_file_machine.proofs.FileEffects.{one_value}
use Rattle.bb_memory_file_machine.specs.FileLaws.{IsSlot}
use Rattle.bb_memory_file_machine.specs.FileMachine.{Allocate, Count, Deallocate, Done, Empty, FileOutcome, FileScene, FileStep, Fill, Lock, Message, Next, OnSlot, Post, Receives, Slot, Take}
use Rattle.bb_memory_file_machine.specs.FileQueueVariants.{GoesRound, LosesOrder, empty_any_lap, fill_any_lap, fill_unlooked, take_any, take_past_empty, take_unlooked}
use Rattle.bb_memory_file_machine.specs.FileQueues.{FileQueue, HasHappened, HasSeen, History, IsFilled, IsLater, IsMoment, IsSlotOf, MayEmpty, MayFill, MayPass, MayTake, Obey, Rules, StepObeys, earlier, fills, lap_before, lap_said, next_lap, now, outcome_after, over, queue_rules, slot_before, state_after, unsent, words_at}
use Rattle.std.proofs.Common.{[], ap, arith, inl, inr, length, refl, subst, suc, sym, true, zero, ℕ, ◌++◌, ◌+◌, ◌-◌, ◌<◌, ◌∙◌, ◌∷◌, ◌≡◌, ◌≢◌, ◌≤◌}
use Rattle.std.proofs.lemmas.Bool.{ltb-true}
use Rattle.std.specs.Prelude.{nat_lt, ◌^◌, ◌⊎◌}

-- two buckets, two slots, two numbers and two processes, and one queue of both slots
abbrev small : FileScene
small = record { buckets = 2; slots = 2; parties = 2; processes = 2 }

abbrev two : FileQueue
two = record { scene = small; number = 0; depth = 2 }

-- MOMENTS

abbrev moment_since : (since moment : History) → IsMoment moment (since ++ moment)
moment_since [] moment = now
moment_since (step ∷ since) moment = earlier step (since ++ moment) (moment_since since moment)

moment_length : (moment history : History) → IsMoment moment history → length moment ≤ length history
moment_length moment _ now = omega arith
moment_length moment _ (earlier step history past) = let less = moment_length moment history past in omega (arith, less)

-- since the moment nobody has received a message in this bucket
abbrev Never : FileScene → (moment history : History) → IsMoment moment history → ℕ → Type 0
Never scene moment _ now bucket = Unit {0}
Never scene moment _ (earlier step history past) bucket =
    ((slot party : ℕ) → ¬ (outcome_after scene history step ≡ Receives slot bucket party))
    × Never scene moment history past bucket

never_step : (scene : FileScene) (moment history : History) (past : IsMoment moment history) (bucket : ℕ) →
    Never scene moment history past bucket → (before : History) (step : FileStep) → IsMoment moment before →
    IsMoment (step ∷ before) history → (slot party : ℕ) → ¬ (outcome_after scene before step ≡ Receives slot bucket party)
never_step scene moment _ now bucket never before step from until slot party said =
    let one = moment_length moment before from in
    let two = moment_length (step ∷ before) moment until in absurd (omega (arith, one, two))
never_step scene moment _ (earlier step history past) bucket never _ _ from now slot party said = never.0 slot party said
never_step scene moment _ (earlier first history past) bucket never before step from (earlier same other until) slot party said =
    never_step scene moment history past bucket never.1 before step from until slot party said

never_received : (scene : FileScene) (moment history : History) (past : IsMoment moment history) (bucket : ℕ) →
    Never scene moment history past bucket → (slot party : ℕ) → ¬ HasHappened scene moment history (Receives slot bucket party)
never_received scene moment history past bucket never slot party has =
    never_step scene moment history past bucket never has.before has.step has.since has.until slot party has.happens

-- the bucket of a message that a party receives
abbrev bucket_of : FileOutcome → ℕ
bucket_of (Receives slot bucket party) = bucket
bucket_of outcome = 0

-- RULES

abbrev seen_at : (scene : FileScene) (moment history : History) (slot : ℕ) (word : Slot) → IsMoment moment history →
    IsSlot (state_after scene moment).words slot word → nat_lt (fills (words_at scene) slot history) (fills (words_at scene) slot moment + 2 ^ 29) ≡ true →
    HasSeen (words_at scene) history slot word
seen_at scene moment history slot word past is few = record {
  moment = moment;
  past = past;
  seen = is;
  recent = ltb-true (fills (words_at scene) slot history) (fills (words_at scene) slot moment + 2 ^ 29) few;
}

few_now : (n : ℕ) → n < n + 2 ^ 29
few_now n = omega arith

abbrev seen_now : (scene : FileScene) (history : History) (slot : ℕ) (word : Slot) → IsSlot (state_after scene history).words slot word →
    HasSeen (words_at scene) history slot word
seen_now scene history slot word is =
    record { moment = history; past = now; seen = is; recent = few_now (fills (words_at scene) slot history) }

next_later : (lap : ℕ) → IsLater lap (next_lap lap)
next_later lap = (1, omega arith, omega arith, refl)

filling : (rules : Rules) (history : History) (process slot lap : ℕ) →
    outcome_after small history (Fill process lap) ≡ OnSlot slot → rules.fill two history slot lap →
    StepObeys rules two history (Fill process lap)
filling rules history process slot lap said may other its too =
    let outcomes = sym said ∙ too in
    let same : slot ≡ other = cc in
    subst (λ (s : ℕ). rules.fill two history s lap) same may

may_fill : (history : History) (slot lap : ℕ) (word : Slot) → IsSlot (state_after small history).words (slot_before two slot) word →
    IsFilled (lap_before lap slot (slot_before two slot)) word → MayFill (words_at small) two history slot lap
may_fill history slot lap word is filled =
    record { word = word; look = seen_now small history (slot_before two slot) word is; filled = filled }

may_empty : (history : History) (slot lap bucket : ℕ) → IsSlot (state_after small history).words slot (Message lap bucket) →
    MayEmpty (words_at small history) slot (next_lap lap)
may_empty history slot lap bucket is found other too =
    let words = one_value (state_after small history).words.slots slot (Message lap bucket) (Message found other) is too in
    let laps : lap ≡ found = cc in ap next_lap laps

either : (P : ℕ → Type 0) → P 0 → P 1 → (slot : ℕ) → IsSlotOf two slot → P slot
either P first second zero its = first
either P first second (suc zero) its = second
either P first second (suc (suc slot)) its = absurd (omega (arith, its))

-- a receiver takes the message in one slot, and has seen that the other is at a later lap
take_first : (history : History) (bucket lap : ℕ) (word : Slot) → IsSlot (state_after small history).words 0 (Message lap bucket) →
    IsSlot (state_after small history).words 1 word → IsLater (lap_before lap 0 1) (lap_said word) →
    MayTake (words_at small) two history 0 bucket lap
take_first history bucket lap word is other later = record {
  look = seen_now small history 0 (Message lap bucket) is;
  others = λ slot its. either (λ (s : ℕ). s ≢ 0 → MayPass (words_at small) history history s (lap_before lap 0 s)) (λ apart. absurd (apart refl))
      (λ apart. over word (seen_now small history 1 word other) later) slot its;
}

take_second : (history : History) (bucket lap : ℕ) (word : Slot) → IsSlot (state_after small history).words 1 (Message lap bucket) →
    IsSlot (state_after small history).words 0 word → IsLater (lap_before lap 1 0) (lap_said word) →
    MayTake (words_at small) two history 1 bucket lap
take_second history bucket lap word is other later = record {
  look = seen_now small history 1 (Message lap bucket) is;
  others = λ slot its. either (λ (s : ℕ). s ≢ 1 → MayPass (words_at small) history history s (lap_before lap 1 s))
      (λ apart. over word (seen_now small history 0 word other) later) (λ apart. absurd (apart refl)) slot its;
}

-- STEPS

-- process 0 sends as party 0, and process 1 receives as party 1
abbrev joined : History
joined = Next 1 ∷ Next 1 ∷ Next 1 ∷ Next 1 ∷ Count 1 1 ∷ Lock 1 1 ∷ Next 0 ∷ Next 0 ∷ Next 0 ∷ Next 0 ∷ Count 0 1 ∷ Lock 0 0 ∷ []

-- the sender holds both buckets
abbrev held : History
held = Allocate 0 0 1 ∷ Allocate 0 0 0 ∷ joined

-- the sender posts a message
abbrev posted : ℕ → ℕ → ℕ → History → History
posted slot bucket lap history = Next 0 ∷ Fill 0 lap ∷ Post 0 0 slot bucket 7 ∷ history

-- the receiver takes a message, and is done with it
abbrev received : ℕ → ℕ → ℕ → ℕ → History → History
received slot bucket lap next history = Next 1 ∷ Done 1 1 slot bucket next ∷ Take 1 1 slot bucket lap ∷ history

-- the receiver gives back a bucket, and the sender takes it
abbrev returned : ℕ → History → History
returned bucket history = Allocate 0 0 bucket ∷ Deallocate 1 1 bucket ∷ history

held_obeys : (rules : Rules) → Obey rules two held
held_obeys rules = (tt, (tt, (tt, (tt, (tt, (tt, (tt, (tt, (tt, (tt, (tt, (tt, (tt, (tt, tt))))))))))))))

posting : (rules : Rules) (history : History) (slot bucket lap : ℕ) →
    outcome_after small (Post 0 0 slot bucket 7 ∷ history) (Fill 0 lap) ≡ OnSlot slot →
    rules.fill two (Post 0 0 slot bucket 7 ∷ history) slot lap → Obey rules two history →
    Obey rules two (posted slot bucket lap history)
posting rules history slot bucket lap said may obey =
    (tt, (filling rules (Post 0 0 slot bucket 7 ∷ history) 0 slot lap said may, (tt, obey)))

receiving : (rules : Rules) (history : History) (slot bucket lap next : ℕ) → rules.take two history slot bucket lap →
    rules.empty two (Take 1 1 slot bucket lap ∷ history) slot next → Obey rules two history →
    Obey rules two (received slot bucket lap next history)
receiving rules history slot bucket lap next take empty obey = (tt, ((λ its said. empty), ((λ its said. take), obey)))

-- a message in each slot
abbrev both : History
both = posted 1 1 0 (posted 0 0 0 held)

module _ (rules : Rules) (fill : (history : History) (slot lap : ℕ) → MayFill (words_at small) two history slot lap → rules.fill two history slot lap)
  where
    one_obeys : Obey rules two (posted 0 0 0 held)
    one_obeys = posting rules held 0 0 0 refl
        (fill (Post 0 0 0 0 7 ∷ held) 0 0 (may_fill (Post 0 0 0 0 7 ∷ held) 0 0 (Empty 0) refl (next_later (2 ^ 30 - 1))))
        (held_obeys rules)

    both_obeys : Obey rules two both
    both_obeys = posting rules (posted 0 0 0 held) 1 1 0 refl
        (fill (Post 0 0 1 1 7 ∷ posted 0 0 0 held) 1 0
        (may_fill (Post 0 0 1 1 7 ∷ posted 0 0 0 held) 1 0 (Message 0 0) refl (inl refl))) one_obeys

-- a third message was posted to the first slot, and all were received
abbrev third : History
third = returned 0 (received 0 0 0 1 both)

abbrev round : History
round = received 0 0 1 2 (received 1 1 0 1 (posted 0 0 1 third))

module _ (rules : Rules) (fill : (history : History) (slot lap : ℕ) → MayFill (words_at small) two history slot lap → rules.fill two history slot lap)
    (take : (history : History) (slot bucket lap : ℕ) → MayTake (words_at small) two history slot bucket lap → rules.take two history slot bucket lap)
    (empty : (history : History) (slot next : ℕ) → MayEmpty (words_at small history) slot next → rules.empty two history slot next) where
  third_obeys : Obey rules two third
  third_obeys = (
    tt,
    (
      tt,
      receiving rules both 0 0 0 1
          (take both 0 0 0 (take_first both 0 0 (Message 0 1) refl refl (next_later (2 ^ 30 - 1))))
          (empty (Take 1 1 0 0 0 ∷ both) 0 1 (may_empty (Take 1 1 0 0 0 ∷ both) 0 0 0 refl)) (both_obeys rules fill),
    ),
  )

  round_obeys : Obey rules two round
  round_obeys =
      let three : History = posted 0 0 1 third in
      let last : History = received 1 1 0 1 (posted 0 0 1 third) in
      receiving rules last 0 0 1 2
      (take last 0 0 1 (take_first last 0 1 (Empty 1) refl refl (next_later 0)))
      (empty (Take 1 1 0 0 1 ∷ last) 0 2 (may_empty (Take 1 1 0 0 1 ∷ last) 0 1 0 refl))
      (receiving rules three 1 1 0 1 (take three 1 1 0 (take_second three 1 0 (Message 1 0) refl refl (next_later 0)))
      (empty (Take 1 1 1 1 0 ∷ three) 1 1 (may_empty (Take 1 1 1 1 0 ∷ three) 1 0 1 refl))
      (posting rules third 0 0 1 refl
      (fill (Post 0 0 0 0 7 ∷ third) 0 1 (may_fill (Post 0 0 0 0 7 ∷ third) 0 1 (Message 0 1) refl (inl refl))) third_obeys))

pub goes_round : GoesRound queue_rules
goes_round = record {
  queue = two;
  positive = omega arith;
  history = round;
  obey = round_obeys queue_rules (λ history slot lap may. may) (λ history slot bucket lap may. may) (λ history slot next may. may);
  more = ltb-true 2 3 refl;
  done = refl;
}

-- POSTS

-- the first message is in slot 1, the second in slot 0
abbrev left_out : History
left_out = posted 1 0 0 held

pub unlooked_loses : LosesOrder fill_unlooked
unlooked_loses = record {
  queue = two;
  positive = omega arith;
  history = posted 0 1 0 left_out;
  step = Take 1 1 0 1 0;
  obey = (
    (λ its said. take_first (posted 0 1 0 left_out) 1 0 (Message 0 0) refl refl (next_later (2 ^ 30 - 1))),
    posting fill_unlooked left_out 0 1 0 refl tt (posting fill_unlooked held 1 0 0 refl tt (held_obeys fill_unlooked)),
  );
  moment = left_out;
  past = moment_since (posted 0 1 0 []) left_out;
  older = record { ticket = 0; bucket = 0 };
  was_held = (0, ltb-true 0 1 refl, refl);
  waited = (1, 0, refl);
  younger = record { ticket = 1; bucket = 1 };
  later = omega arith;
  held = (1, ltb-true 1 2 refl, refl);
  received = (0, 1, refl);
  missed = never_received small left_out (posted 0 1 0 left_out) (moment_since (posted 0 1 0 []) left_out) 0
      ((λ slot party said. absurd (cc)), ((λ slot party said. absurd (cc)), ((λ slot party said. absurd (cc)), tt)));
}

-- the sender has seen a message in slot 1, at the lap before, and leaves slot 1 out
abbrev all_free : History
all_free = returned 0 (returned 1 round)

abbrev skipped : History
skipped = posted 0 0 2 all_free

pub any_lap_loses : LosesOrder fill_any_lap
any_lap_loses = record {
  queue = two;
  positive = omega arith;
  history = posted 1 1 1 skipped;
  step = Take 1 1 1 1 1;
  obey = (
    (λ its said. take_second (posted 1 1 1 skipped) 1 1 (Message 2 0) refl refl (next_later 1)),
    posting fill_any_lap skipped 1 1 1 refl
        (inl (may_fill (Post 0 0 1 1 7 ∷ skipped) 1 1 (Message 2 0) refl (inr (next_later 1))))
        (posting fill_any_lap all_free 0 0 2 refl
        (inr (
          0,
          1,
          seen_at small both (Post 0 0 0 0 7 ∷ all_free) 1 (Message 0 1)
              (moment_since (Post 0 0 0 0 7 ∷ returned 0 (returned 1 (received 0 0 1 2 (received 1 1 0 1 (posted 0 0 1 (returned 0 (received 0 0 0 1 []))))))) both) refl refl,
        )) (
          tt,
          (
            tt,
            (
              tt,
              (
                tt,
                round_obeys fill_any_lap (λ history slot lap may. inl may) (λ history slot bucket lap may. may)
                    (λ history slot next may. may),
              ),
            ),
          ),
        )),
  );
  moment = skipped;
  past = moment_since (posted 1 1 1 []) skipped;
  older = record { ticket = 3; bucket = 0 };
  was_held = (0, ltb-true 0 1 refl, refl);
  waited = (0, 2, refl);
  younger = record { ticket = 4; bucket = 1 };
  later = omega arith;
  held = (1, ltb-true 1 2 refl, refl);
  received = (1, 1, refl);
  missed = never_received small skipped (posted 1 1 1 skipped) (moment_since (posted 1 1 1 []) skipped) 0
      ((λ slot party said. absurd (cc)), ((λ slot party said. absurd (cc)), ((λ slot party said. absurd (cc)), tt)));
}

-- TAKES

-- the receiver takes the second message, and the first one waits
module _ (rules : Rules) (fill : (history : History) (slot lap : ℕ) → MayFill (words_at small) two history slot lap → rules.fill two history slot lap)
    (take : rules.take two both 1 1 0) where
  second_loses : LosesOrder rules
  second_loses = record {
    queue = two;
    positive = omega arith;
    history = both;
    step = Take 1 1 1 1 0;
    obey = ((λ its said. take), both_obeys rules fill);
    moment = posted 0 0 0 held;
    past = moment_since (posted 1 1 0 []) (posted 0 0 0 held);
    older = record { ticket = 0; bucket = 0 };
    was_held = (0, ltb-true 0 1 refl, refl);
    waited = (0, 0, refl);
    younger = record { ticket = 1; bucket = 1 };
    later = omega arith;
    held = (1, ltb-true 1 2 refl, refl);
    received = (1, 1, refl);
    missed = never_received small (posted 0 0 0 held) both (moment_since (posted 1 1 0 []) (posted 0 0 0 held)) 0
        ((λ slot party said. absurd (cc)), ((λ slot party said. absurd (cc)), ((λ slot party said. absurd (cc)), tt)));
  }

pub take_any_loses : LosesOrder take_any
take_any_loses = second_loses take_any (λ history slot lap may. may) tt

-- the sender has filled slot 0, and hasn't sent the bucket yet
abbrev unsent_yet : History
unsent_yet = Fill 0 0 ∷ Post 0 0 0 0 7 ∷ held

since_unsent : IsMoment unsent_yet both
since_unsent = moment_since (Next 0 ∷ Fill 0 0 ∷ Post 0 0 1 1 7 ∷ Next 0 ∷ []) unsent_yet

pub take_unlooked_loses : LosesOrder take_unlooked
take_unlooked_loses = second_loses take_unlooked (λ history slot lap may. may) (
  seen_now small both 1 (Message 0 1) refl,
  (λ slot its. either (λ (s : ℕ). s ≢ 1 → MayPass (words_at small) both [] s (lap_before 0 1 s))
      (λ apart. unsent 0 (seen_at small unsent_yet both 0 (Message 0 0) since_unsent refl refl) unsent_yet now
      (moment_since unsent_yet []) since_unsent (λ is. absurd (cc)))
      (λ apart. absurd (apart refl)) slot its),
)

pub past_empty_loses : LosesOrder take_past_empty
past_empty_loses = second_loses take_past_empty (λ history slot lap may. may) (
  seen_now small both 1 (Message 0 1) refl,
  (λ slot its. either
      (λ (s : ℕ). s ≢ 1 → MayPass (words_at small) both both s (lap_before 0 1 s) ⊎ HasSeen (words_at small) both s (Empty (lap_before 0 1 s)))
      (λ apart. inr (seen_at small held both 0 (Empty 0) (moment_since (posted 1 1 0 (posted 0 0 0 [])) held) refl refl))
      (λ apart. absurd (apart refl)) slot its),
)

-- DONE

-- slot 0 was emptied, and is at the same lap again
abbrev same_lap : History
same_lap = returned 0 (received 0 0 0 0 both)

pub empty_loses : LosesOrder empty_any_lap
empty_loses = record {
  queue = two;
  positive = omega arith;
  history = posted 0 0 0 same_lap;
  step = Take 1 1 0 0 0;
  obey = (
    (λ its said. take_first (posted 0 0 0 same_lap) 0 0 (Message 0 1) refl refl (next_later (2 ^ 30 - 1))),
    posting empty_any_lap same_lap 0 0 0 refl
        (may_fill (Post 0 0 0 0 7 ∷ same_lap) 0 0 (Message 0 1) refl (inr (next_later (2 ^ 30 - 1)))) (
          tt,
          (
            tt,
            receiving empty_any_lap both 0 0 0 0
                (take_first both 0 0 (Message 0 1) refl refl (next_later (2 ^ 30 - 1))) tt
                (both_obeys empty_any_lap (λ history slot lap may. may)),
          ),
        ),
  );
  moment = both;
  past = moment_since (posted 0 0 0 (returned 0 (received 0 0 0 0 []))) both;
  older = record { ticket = 1; bucket = 1 };
  was_held = (1, ltb-true 1 2 refl, refl);
  waited = (1, 0, refl);
  younger = record { ticket = 2; bucket = 0 };
  later = omega arith;
  held = (1, ltb-true 1 2 refl, refl);
  received = (0, 1, refl);
  missed = never_received small both (posted 0 0 0 same_lap)
      (moment_since (posted 0 0 0 (returned 0 (received 0 0 0 0 []))) both) 1 (
        (λ slot party said. absurd (cc)),
        (
          (λ slot party said. absurd (cc)),
          (
            (λ slot party said. absurd (cc)),
            (
              (λ slot party said. absurd (cc)),
              (
                (λ slot party said. absurd (cc)),
                (
                  (λ slot party said. absurd (cc)),
                  ((λ slot party said. absurd (cc)), ((λ slot party said. absurd (omega (arith, ap bucket_of said))), tt)),
                ),
              ),
            ),
          ),
        ),
      );
}
