-- Senders: what one try is, and many of them.
use Rattle.bb_memory_file.proofs.FileEvents.{append_assoc, gets_on}
use Rattle.bb_memory_file.proofs.FileMessages.{seen_away}
use Rattle.bb_memory_file.proofs.FileQueueSlots.{last_apart, last_not_later, never_later}
use Rattle.bb_memory_file.proofs.FileQueueWalks.{after_filled, happens_since, its_below, looks_gets, looks_make, looks_obey, looks_then, moment_gets, same_party, same_scene, tail_later}
use Rattle.bb_memory_file.proofs.FileWalks.{walk_on}
use Rattle.bb_memory_file.specs.FileCalls.{IsFill, Makes, unseen}
use Rattle.bb_memory_file.specs.FileCode.{Event, ExchangeSlot, FileLog, Holds, Known, LoadSlot, MissSlot, StoreEntry, StoreFlag, Unknown, known_of, told}
use Rattle.bb_memory_file.specs.FileLog.{is_clear, with_entry}
use Rattle.bb_memory_file.specs.FileNames.{Empty, FileStep, Fill, In, Message, Next, Nowhere, Outside, Post, SentTo, Slot}
use Rattle.bb_memory_file.specs.FileQueueCalls.{AllObey, Attempts, Full, Grows, IsFull, KnowsOthers, Looks, Overtaken, Sending, SendsBy, Sent, attempts, missed, passed, sought, untried}
use Rattle.bb_memory_file.specs.FileQueueLooks.{CanFill, KnowsTail, Look, Position, Queue, last_lap, position_after, queue_in}
use Rattle.bb_memory_file.specs.FileQueueSteps.{FindsTurn, IsTurn, KnowsSame, Stop}
use Rattle.bb_memory_file_machine.specs.FileMachine.{FileScene}
use Rattle.bb_memory_file_machine.specs.FileQueues.{FileQueue, IsFilled, IsMoment, IsWhole, earlier, now, slot_before}
use Rattle.bb_memory_pool_machine.proofs.PoolSteps.{test_same}
use Rattle.std.proofs.Common.{List, None, Some, [], ap, arith, false, inl, inr, refl, subst, sym, true, ℕ, ◌++◌, ◌+◌, ◌/◌, ◌<◌, ◌∙◌, ◌∷◌, ◌≡◌, ◌≢◌}
use Rattle.std.proofs.lemmas.Bool.{ne_eqb}
use Rattle.std.specs.Prelude.{◌^◌}

-- KNOWLEDGE

clear_unseen : (known : Known) → is_clear (unseen known) ≡ is_clear known
clear_unseen Unknown = refl
clear_unseen (Holds None seen) = refl
clear_unseen (Holds (Some Nowhere) seen) = refl
clear_unseen (Holds (Some (In slot length)) seen) = refl

pub clear_same : (old new : Known) → unseen new ≡ unseen old → is_clear old ≡ true → is_clear new ≡ true
clear_same old new same clear = sym (clear_unseen new) ∙ ap is_clear same ∙ clear_unseen old ∙ clear

-- a post that is given up
clear_again : (known : Known) (entry : _) → is_clear known ≡ true → is_clear (with_entry (with_entry known entry) Nowhere) ≡ true
clear_again Unknown entry clear = absurd (cc)
clear_again (Holds before seen) entry clear = refl

-- A TURN

turn_open : (lap : ℕ) (word : Slot) → lap < 2 ^ 30 → IsTurn lap word → ¬ IsFilled lap word
turn_open lap (Empty found) small (inl is) later =
    let at : found ≡ lap = cc in never_later lap small (subst (λ l. IsFilled lap (Empty l)) at later)
turn_open lap (Message found bucket) small (inl is) filled = absurd (cc)
turn_open lap (Empty found) small (inr (bucket, is)) filled = absurd (cc)
turn_open lap (Message found other) small (inr (bucket, is)) filled =
    let at : found ≡ last_lap lap = cc in elim filled [
      | inl same ↦ last_apart lap small (sym at ∙ same)
      | inr later ↦ last_not_later lap small (subst (λ l. IsFilled lap (Empty l)) at later)
    ]

module _ (queue : FileQueue) (old : FileLog) (scene : queue.scene ≡ old.scene) (bucket size : ℕ)
    (clear : is_clear (known_of old bucket) ≡ true) (stop : Stop) (one : FileLog) (turn : FindsTurn queue old stop one)
    (same : KnowsSame old one) where
  looked : Looks old one
  looked = looks_then old turn.0 turn.1 one (LoadSlot stop.position.slot stop.word) tt turn.3

  one_party : one.party ≡ old.party
  one_party = same_party old one looked

  pub one_scene : one.scene ≡ old.scene
  one_scene = same_scene old one looked

  pub clear_one : is_clear (known_of one bucket) ≡ true
  clear_one = clear_same (known_of old bucket) (known_of one bucket) (same bucket) clear

  one_moment : IsMoment turn.0.events one.events
  one_moment = moment_gets turn.0 (LoadSlot stop.position.slot stop.word ∷ []) one turn.3

  pub knows_one : KnowsTail queue one.events stop.position
  knows_one = tail_later queue turn.0.events one.events stop.position one_moment turn.2

  pub one_obeys : AllObey queue.depth old → AllObey queue.depth one
  one_obeys = looks_obey old queue.depth one looked

  pub one_others : KnowsOthers old bucket one
  one_others other apart = same other

  pub one_grows : Grows old one
  one_grows = looks_gets old one looked

  pub one_below : IsWhole queue → 0 < queue.depth → stop.position.slot < one.scene.slots
  one_below whole positive = subst (λ (s : FileScene). stop.position.slot < s.slots) (scene ∙ sym one_scene)
      (its_below queue whole positive stop.position.slot turn.2.0.0)

  sought_before : Attempts queue bucket size old [] 0 turn.0
  sought_before = sought [] 0 old turn.0 untried turn.1

  -- each slot was filled
  pub try_passed : (process : ℕ) → IsFilled stop.position.lap stop.word → SendsBy 1 process old queue bucket size Overtaken one
  try_passed process filled = elim turn.4 [
    | inl is ↦ absurd (turn_open stop.position.lap stop.word turn.2.0.1 is filled)
    | inr other ↦
        let round = other.1 filled in (
          [],
          passed [] 0 old round.0 round.1 one (position_after queue stop.position) untried round.2 round.3 round.4 round.5,
          looks_make old process one looked,
          clear_one,
        )
  ]

  -- the queue is full
  pub try_full : (process : ℕ) → ¬ IsFilled stop.position.lap stop.word → stop.word ≢ Empty stop.position.lap →
      SendsBy 1 process old queue bucket size Full one
  try_full process unfilled nonempty = (
    [],
    0,
    stop.position,
    stop.word,
    turn.0,
    sought_before,
    omega arith,
    turn.2,
    turn.3,
    full,
    looks_make old process one looked,
    clear_one,
  )
    where
      full : IsFull old queue turn.0 stop.position stop.word
      full = elim turn.4 [
        | inl (inl empty) ↦ absurd (nonempty empty)
        | inl (inr before) ↦ inl before
        | inr other ↦ inr (unfilled, nonempty, other.0)
      ]

  module _ (empty : stop.word ≡ Empty stop.position.lap) (new : FileLog) where
    one_is : one ≡ told turn.0 (LoadSlot stop.position.slot (Empty stop.position.lap))
    one_is = turn.3 ∙ ap (λ word. told turn.0 (LoadSlot stop.position.slot word)) empty

    abbrev missing : List Event
    missing = StoreEntry bucket Nowhere ∷ MissSlot stop.position.slot (Empty stop.position.lap)
        ∷ StoreEntry bucket (In stop.position.slot size) ∷ []

    abbrev filling : List Event
    filling = StoreFlag bucket (SentTo stop.position.slot stop.position.lap)
        ∷ ExchangeSlot stop.position.slot (Empty stop.position.lap) (Message stop.position.lap bucket)
        ∷ StoreEntry bucket (In stop.position.slot size) ∷ []

    -- another party has filled the slot
    module _ (fill : (process : ℕ) → IsFill process one stop.position.slot stop.position.lap bucket size false new) where
      pub try_missed : (process : ℕ) → SendsBy 1 process old queue bucket size Overtaken new
      try_missed process = (
        stop.position.slot ∷ [],
        subst (λ log. Attempts queue bucket size old (stop.position.slot ∷ []) 1 log)
            (sym ((fill 0).1 ∙ ap (λ (log : FileLog). record log {
              events = StoreEntry bucket Nowhere ∷ MissSlot stop.position.slot (Empty stop.position.lap)
                  ∷ StoreEntry bucket (In stop.position.slot size) ∷ log.events;
            }) one_is))
            (missed [] 0 turn.0 stop.position sought_before turn.2),
        subst (λ (p : ℕ). Makes process old (Next process ∷ Post process p stop.position.slot bucket size ∷ []) new) one_party
            (walk_on process old one new Outside Outside Outside []
            (Next process ∷ Post process one.party stop.position.slot bucket size ∷ []) (looks_make old process one looked)
            (fill process).0),
        subst (λ log. is_clear (known_of log bucket) ≡ true) (sym (fill 0).1)
            (rw (test_same bucket bucket refl) (clear_again (known_of one bucket) (In stop.position.slot size) clear_one)),
      )

      pub missed_tail : KnowsTail queue new.events stop.position
      missed_tail = tail_later queue one.events new.events stop.position (moment_gets one missing new (fill 0).1) knows_one

      pub missed_obeys : AllObey queue.depth old → AllObey queue.depth new
      missed_obeys obey = subst (λ (log : FileLog). AllObey queue.depth log) (sym (fill 0).1)
          (λ number. (tt, (tt, (tt, looks_obey old queue.depth one looked obey number))))

      pub missed_others : KnowsOthers old bucket new
      missed_others other apart = subst (λ log. unseen (known_of log other) ≡ unseen (known_of old other)) (sym (fill 0).1)
          (rw (ne_eqb bucket other (λ at. apart (sym at))) (same other))

      pub missed_grows : Grows old new
      missed_grows =
          let before = looks_gets old one looked in
          (missing ++ before.0, gets_on old one new before.0 missing before.1 (fill 0).1)

    -- the sender has filled the slot
    module _ (positive : 0 < queue.depth)
        (fill : (process : ℕ) → IsFill process one stop.position.slot stop.position.lap bucket size true new) where
      pub try_sent : (process : ℕ) → SendsBy 1 process old queue bucket size (Sent stop.position.slot) new
      try_sent process = (
        [],
        0,
        stop.position.lap,
        one,
        sought [] 0 old one untried looked,
        omega arith,
        turn.2.0.0,
        knows_one.1,
        (fill 0).1,
        subst (λ (p : ℕ). Makes process old (Next process ∷ Fill process stop.position.lap
            ∷ Post process p stop.position.slot bucket size ∷ []) new) one_party
            (walk_on process old one new Outside Outside Outside []
            (Next process ∷ Fill process stop.position.lap ∷ Post process one.party stop.position.slot bucket size ∷ [])
            (looks_make old process one looked) (fill process).0),
        subst (λ log. known_of log bucket ≡ Unknown) (sym (fill 0).1) (rw (test_same bucket bucket refl) refl),
      )

      pub sent_tail : KnowsTail queue new.events (position_after queue stop.position)
      sent_tail = after_filled queue positive new.events stop.position (Message stop.position.lap bucket) turn.2.0 look (inl refl)
        where
          look : Look new.events stop.position.slot (Message stop.position.lap bucket)
          look = subst (λ (log : FileLog). Look log.events stop.position.slot (Message stop.position.lap bucket)) (sym (fill 0).1)
              (record {
                event = ExchangeSlot stop.position.slot (Empty stop.position.lap) (Message stop.position.lap bucket);
                before = StoreEntry bucket (In stop.position.slot size) ∷ one.events;
                past = earlier (StoreFlag bucket (SentTo stop.position.slot stop.position.lap))
                    (ExchangeSlot stop.position.slot (Empty stop.position.lap) (Message stop.position.lap bucket)
                    ∷ StoreEntry bucket (In stop.position.slot size) ∷ one.events) now;
                shows = (refl, refl);
              })

      pub sent_obeys : AllObey queue.depth old → AllObey queue.depth new
      sent_obeys obey = subst (λ (log : FileLog). AllObey queue.depth log) (sym (fill 0).1)
          (λ number. (tt, ((λ its. can number its), (tt, looks_obey old queue.depth one looked obey number))))
        where
          can : (number : ℕ) → stop.position.slot / queue.depth ≡ number →
              CanFill (record { scene = one.scene; number = number; depth = queue.depth })
              (StoreEntry bucket (In stop.position.slot size) ∷ one.events) stop.position.slot stop.position.lap
          can number its =
              let at : queue.number ≡ number = sym turn.2.0.0 ∙ its in
              let here : queue.scene ≡ one.scene = scene ∙ sym one_scene in
              subst (λ (n : ℕ). CanFill (record { scene = one.scene; number = n; depth = queue.depth })
              (StoreEntry bucket (In stop.position.slot size) ∷ one.events) stop.position.slot stop.position.lap) at
              (subst (λ (s : FileScene). CanFill (record { scene = s; number = queue.number; depth = queue.depth })
              (StoreEntry bucket (In stop.position.slot size) ∷ one.events) stop.position.slot stop.position.lap) here
              (tail_later queue one.events (StoreEntry bucket (In stop.position.slot size) ∷ one.events) stop.position
              (earlier (StoreEntry bucket (In stop.position.slot size)) one.events now) knows_one).1)

      pub sent_others : KnowsOthers old bucket new
      sent_others other apart = subst (λ log. unseen (known_of log other) ≡ unseen (known_of old other)) (sym (fill 0).1)
          (rw (ne_eqb bucket other (λ at. apart (sym at))) (seen_away (known_of one other) _ ∙ same other))

      pub sent_grows : Grows old new
      sent_grows =
          let before = looks_gets old one looked in
          (filling ++ before.0, gets_on old one new before.0 filling before.1 (fill 0).1)

-- MANY TRIES

module _ (queue : FileQueue) (bucket size : ℕ) (old middle : FileLog) (first : List ℕ) (count : ℕ)
    (before : Attempts queue bucket size old first count middle) where
  pub attempts_on : (tried : List ℕ) (more : ℕ) (new : FileLog) → Attempts queue bucket size middle tried more new →
      Attempts queue bucket size old (tried ++ first) (more + count) new
  attempts_on _ _ _ untried =
      let none : count ≡ 0 + count = omega arith in subst (λ (n : ℕ). Attempts queue bucket size old first n middle) none before
  attempts_on _ _ _ (sought tried more log new rest since) =
      sought (tried ++ first) (more + count) log new (attempts_on tried more log rest) since
  attempts_on _ _ _ (missed tried more log position rest knows) =
      let one : (more + count) + 1 ≡ (more + 1) + count = omega arith in
      subst (λ (n : ℕ). Attempts queue bucket size old (position.slot ∷ (tried ++ first)) n (record log {
        events = StoreEntry bucket Nowhere ∷ MissSlot position.slot (Empty position.lap)
            ∷ StoreEntry bucket (In position.slot size) ∷ LoadSlot position.slot (Empty position.lap) ∷ log.events;
      })) one
      (missed (tried ++ first) (more + count) log position (attempts_on tried more log rest) knows)
  attempts_on _ _ _ (passed tried more log start from new to rest since knows last passes) =
      let one : (more + count) + 1 ≡ (more + 1) + count = omega arith in
      subst (λ (n : ℕ). Attempts queue bucket size old (tried ++ first) n new) one
      (passed (tried ++ first) (more + count) log start from new to (attempts_on tried more log rest) since knows last passes)

steps_on : (process party bucket size : ℕ) (tried first : List ℕ) →
    attempts process party bucket size (tried ++ first)
    ≡ attempts process party bucket size tried ++ attempts process party bucket size first
steps_on process party bucket size [] first = refl
steps_on process party bucket size (slot ∷ tried) first =
    ap (λ steps. Next process ∷ Post process party slot bucket size ∷ steps) (steps_on process party bucket size tried first)

module _ (queue : FileQueue) (bucket size : ℕ) (old middle new : FileLog) (grown : Grows old middle) (count : ℕ)
    (process : ℕ) (before : SendsBy count process old queue bucket size Overtaken middle) where
  party : middle.party ≡ old.party
  party = ap (λ (log : FileLog). log.party) grown.1

  since : IsMoment old.events middle.events
  since = moment_gets old grown.0 middle grown.1

  makes_on : (tried : List ℕ) (steps : ℕ → List FileStep) →
      Makes process middle (steps middle.party ++ attempts process middle.party bucket size tried) new →
      Makes process old (steps old.party ++ attempts process old.party bucket size (tried ++ before.0)) new
  makes_on tried steps made =
      subst (λ taken. Makes process old taken new)
      (append_assoc (steps old.party) (attempts process old.party bucket size tried) (attempts process old.party bucket size before.0)
      ∙ ap (λ taken. steps old.party ++ taken) (sym (steps_on process old.party bucket size tried before.0)))
      (subst (λ (p : ℕ). Makes process old ((steps p ++ attempts process p bucket size tried)
      ++ attempts process old.party bucket size before.0) new) party
      (walk_on process old middle new Outside Outside Outside (attempts process old.party bucket size before.0)
      (steps middle.party ++ attempts process middle.party bucket size tried) before.2 made))

  full_since : (last : FileLog) (position : Position) (word : Slot) → IsFull middle queue last position word →
      IsFull old queue last position word
  full_since last position word (inl is) = inl is
  full_since last position word (inr (unfilled, nonempty, seen)) = inr (
    unfilled,
    nonempty,
    (
      seen.0,
      happens_since old.events middle.events last.events (LoadSlot (slot_before queue position.slot) seen.0) since seen.1,
      seen.2,
    ),
  )

  -- a try after so many
  pub sends_on : (most : ℕ) → count < most → (sending : Sending) → sending ≢ Overtaken →
      SendsBy 1 process middle queue bucket size sending new → SendsBy most process old queue bucket size sending new
  sends_on most less Overtaken not says = absurd (not refl)
  sends_on most less (Sent slot) not (tried, more, lap, last, seen, fewer, its, can, gets, made, unknown) = (
    tried ++ before.0,
    more + count,
    lap,
    last,
    attempts_on queue bucket size old middle before.0 count before.1 tried more last seen,
    omega (arith, less, fewer),
    its,
    can,
    gets,
    makes_on tried (λ p. Next process ∷ Fill process lap ∷ Post process p slot bucket size ∷ []) made,
    unknown,
  )
  sends_on most less Full not (tried, more, position, word, last, seen, fewer, knows, gets, full, made, still) = (
    tried ++ before.0,
    more + count,
    position,
    word,
    last,
    attempts_on queue bucket size old middle before.0 count before.1 tried more last seen,
    omega (arith, less, fewer),
    knows,
    gets,
    full_since last position word full,
    makes_on tried (λ p. []) made,
    still,
  )

  pub again_on : SendsBy 1 process middle queue bucket size Overtaken new →
      SendsBy (count + 1) process old queue bucket size Overtaken new
  again_on (tried, seen, made, still) = (
    tried ++ before.0,
    (let one : 1 + count ≡ count + 1 = omega arith in
        subst (λ (n : ℕ). Attempts queue bucket size old (tried ++ before.0) n new) one
        (attempts_on queue bucket size old middle before.0 count before.1 tried 1 new seen)),
    makes_on tried (λ p. []) made,
    still,
  )

-- a sender that hasn't tried yet
pub send_begins : (queue : FileQueue) (bucket size : ℕ) (old one : FileLog) → is_clear (known_of old bucket) ≡ true →
    Looks old one → KnowsSame old one → (process : ℕ) → SendsBy 0 process old queue bucket size Overtaken one
send_begins queue bucket size old one clear seen same process = (
  [],
  sought [] 0 old one untried seen,
  looks_make old process one seen,
  clear_same (known_of old bucket) (known_of one bucket) (same bucket) clear,
)

-- Where a sender is that has tried so many times.
pub record Tried (queue : FileQueue) (bucket size : ℕ) (old : FileLog) (count : ℕ) (tail : Position) (log : FileLog) : Type 0 where
  pub sends : (process : ℕ) → SendsBy count process old queue bucket size Overtaken log
  pub tail_known : KnowsTail queue log.events tail
  pub obeys : AllObey queue.depth old → AllObey queue.depth log
  pub others : KnowsOthers old bucket log
  pub grows : Grows old log

pub grows_on : (old middle new : FileLog) → Grows old middle → Grows middle new → Grows old new
grows_on old middle new one two = (two.0 ++ one.0, gets_on old middle new one.0 two.0 one.1 two.1)

pub others_on : (old middle new : FileLog) (bucket : ℕ) → KnowsOthers old bucket middle → KnowsOthers middle bucket new →
    KnowsOthers old bucket new
others_on old middle new bucket one two other apart = two other apart ∙ one other apart

-- a try with how the scene is written now
pub sends_as : (one other : FileScene) (queue : Queue) (process most : ℕ) (old : FileLog) (bucket size : ℕ) (sending : Sending)
    (new : FileLog) → one ≡ other → SendsBy most process old (queue_in one queue) bucket size sending new →
    SendsBy most process old (queue_in other queue) bucket size sending new
sends_as one other queue process most old bucket size sending new same says =
    subst (λ scene. SendsBy most process old (queue_in scene queue) bucket size sending new) same says

pub tail_as : (one other : FileScene) (queue : Queue) (events : List Event) (tail : Position) → one ≡ other →
    KnowsTail (queue_in one queue) events tail → KnowsTail (queue_in other queue) events tail
tail_as one other queue events tail same knows = subst (λ scene. KnowsTail (queue_in scene queue) events tail) same knows

pub tried_begins : (queue : FileQueue) (bucket size : ℕ) (old one : FileLog) (tail : Position) →
    is_clear (known_of old bucket) ≡ true → Looks old one → KnowsSame old one → KnowsTail queue one.events tail →
    Tried queue bucket size old 0 tail one
tried_begins queue bucket size old one tail clear seen same knows = record {
  sends = send_begins queue bucket size old one clear seen same;
  tail_known = knows;
  obeys = looks_obey old queue.depth one seen;
  others = λ other apart. same other;
  grows = looks_gets old one seen;
}

module _ (scene : FileScene) (queue : Queue) (bucket size : ℕ) (old middle : FileLog) (count : ℕ) (from : Position)
    (is_scene : scene ≡ old.scene) (tried : Tried (queue_in scene queue) bucket size old count from middle) where
  pub tried_scene : middle.scene ≡ scene
  tried_scene = ap (λ (log : FileLog). log.scene) tried.grows.1 ∙ sym is_scene

  pub tried_clear : is_clear (known_of middle bucket) ≡ true
  tried_clear = (tried.sends 0).3

  module _ (new : FileLog) (tail : Position) (knows : KnowsTail (queue_in middle.scene queue) new.events tail)
      (obeys : AllObey queue.depth middle → AllObey queue.depth new) (others : KnowsOthers middle bucket new)
      (grows : Grows middle new) where
    pub tail_then : KnowsTail (queue_in scene queue) new.events tail
    tail_then = tail_as middle.scene scene queue new.events tail tried_scene knows

    pub obeys_then : AllObey queue.depth old → AllObey queue.depth new
    obeys_then obey = obeys (tried.obeys obey)

    pub others_then : KnowsOthers old bucket new
    others_then = others_on old middle new bucket tried.others others

    pub grows_then : Grows old new
    grows_then = grows_on old middle new tried.grows grows

    pub tried_again : ((process : ℕ) → SendsBy 1 process middle (queue_in middle.scene queue) bucket size Overtaken new) →
        Tried (queue_in scene queue) bucket size old (count + 1) tail new
    tried_again sends = record {
      sends = λ process. again_on (queue_in scene queue) bucket size old middle new tried.grows count process (tried.sends process)
          (sends_as middle.scene scene queue process 1 middle bucket size Overtaken new tried_scene (sends process));
      tail_known = tail_then;
      obeys = obeys_then;
      others = others_then;
      grows = grows_then;
    }

  pub tried_ends : (new : FileLog) (sending : Sending) → sending ≢ Overtaken → count < 2 ^ 16 →
      ((process : ℕ) → SendsBy 1 process middle (queue_in middle.scene queue) bucket size sending new) →
      (process : ℕ) → SendsBy (2 ^ 16) process old (queue_in scene queue) bucket size sending new
  tried_ends new sending not less sends process =
      sends_on (queue_in scene queue) bucket size old middle new tried.grows count process (tried.sends process) (2 ^ 16) less sending not
      (sends_as middle.scene scene queue process 1 middle bucket size sending new tried_scene (sends process))
