-- Walks over the slots of a queue: which events they are, and what the party knows then.
use Rattle.bb_memory_file.proofs.FileLooks.{moment_on}
use Rattle.bb_memory_file.proofs.FileMessages.{seen_away}
use Rattle.bb_memory_file.proofs.FileQueueSlots.{after_its, before_after, first_its, lap_after, lap_still, slot_range}
use Rattle.bb_memory_file.specs.FileCalls.{Gets, Makes, unseen}
use Rattle.bb_memory_file.specs.FileCode.{ChangesNone, EmptySlot, Event, ExchangeFlag, ExchangeSlot, FileLog, LoadEntry, LoadFlag, LoadLife, LoadSlot, MissFlag, MissSlot, StoreEntry, StoreFlag, StoreLife, begins, known_of, looks as path_looks, told}
use Rattle.bb_memory_file.specs.FileLog.{IsLap, lap_in, seen_in}
use Rattle.bb_memory_file.specs.FileNames.{Outside, Slot}
use Rattle.bb_memory_file.specs.FileQueueCalls.{AllObey, Grows, Happens, IsLastFilled, IsOver, Looks, Loses, Passes, SeesLast, beaten, looks, moves_on, nothing, older, overtaken, searched, stays, unbeaten}
use Rattle.bb_memory_file.specs.FileQueueLooks.{EventObeys, IsPosition, KnowsHead, KnowsTail, Look, Position, Queue, position_after, position_on, queue_in}
use Rattle.bb_memory_file.specs.FileQueueSteps.{FindsTurn, IsTurn, KnowsSame, SeesBefore, Stop, StopsAt}
use Rattle.bb_memory_file_machine.specs.FileMachine.{FileScene}
use Rattle.bb_memory_file_machine.specs.FileQueues.{FileQueue, IsFilled, IsLater, IsMoment, IsSlotOf, IsWhole, earlier, lap_before, lap_said, now, slot_before}
use Rattle.std.proofs.Common.{Bool, List, [], ap, arith, false, inl, inr, refl, subst, sym, true, ℕ, ◌*◌, ◌+◌, ◌<◌, ◌∙◌, ◌∷◌, ◌≡◌, ◌≤◌}
use Rattle.std.proofs.lemmas.Bool.{eqb-false, eqb-true}
use Rattle.std.specs.Prelude.{suc, ◌==◌, ◌⊎◌}

-- MOMENTS

pub moment_trans : {X : Type 0} (one two three : List X) → IsMoment one two → IsMoment two three → IsMoment one three
moment_trans one two _ first now = first
moment_trans one two _ first (earlier item list past) = earlier item list (moment_trans one two list first past)

pub moment_gets : (old : FileLog) (events : List Event) (new : FileLog) → Gets old events new → IsMoment old.events new.events
moment_gets old events new gets = subst (λ (log : FileLog). IsMoment old.events log.events) (sym gets)
    (moment_on old.events old.events events now)

pub happens_now : (moment events : List Event) (event : Event) → IsMoment moment events → Happens moment (event ∷ events) event
happens_now moment events event since = record { before = events; since = since; until = now }

abbrev pub happens_on : (moment events later : List Event) (event : Event) → IsMoment events later → Happens moment events event →
    Happens moment later event
happens_on moment events later event past happened = record {
  before = happened.before;
  since = happened.since;
  until = moment_trans (event ∷ happened.before) events later happened.until past;
}

abbrev pub happens_since : (first moment events : List Event) (event : Event) → IsMoment first moment → Happens moment events event →
    Happens first events event
happens_since first moment events event past happened = record {
  before = happened.before;
  since = moment_trans first moment happened.before past happened.since;
  until = happened.until;
}

abbrev pub look_later : (events later : List Event) (slot : ℕ) (word : Slot) → IsMoment events later → Look events slot word →
    Look later slot word
look_later events later slot word past look = record {
  event = look.event;
  before = look.before;
  past = moment_trans (look.event ∷ look.before) events later look.past past;
  shows = look.shows;
}

abbrev pub look_now : (events : List Event) (slot : ℕ) (word : Slot) → Look (LoadSlot slot word ∷ events) slot word
look_now events slot word = record {
  event = LoadSlot slot word;
  before = events;
  past = now;
  shows = (refl, refl);
}

abbrev pub look_happened : (moment events : List Event) (slot : ℕ) (word : Slot) → Happens moment events (LoadSlot slot word) →
    Look events slot word
look_happened moment events slot word happened = record {
  event = LoadSlot slot word;
  before = happened.before;
  past = happened.until;
  shows = (refl, refl);
}

pub tail_later : (queue : FileQueue) (events later : List Event) (position : Position) → IsMoment events later →
    KnowsTail queue events position → KnowsTail queue later position
tail_later queue events later position past knows = (
  knows.0,
  record {
    word = knows.1.word;
    look = look_later events later (slot_before queue position.slot) knows.1.word past knows.1.look;
    filled = knows.1.filled;
  },
)

pub head_later : (queue : FileQueue) (events later : List Event) (position : Position) → IsMoment events later →
    KnowsHead queue events position → KnowsHead queue later position
head_later queue events later position past knows = (
  knows.0,
  (λ other its. let over = knows.1 other its in (over.0, look_later events later other over.0 past over.1, over.2)),
)

-- LOOKS

-- an event that changes no word obeys any rules
quiet_obeys : (party : ℕ) (queue : FileQueue) (events : List Event) (event : Event) → ChangesNone event →
    EventObeys party queue events event
quiet_obeys party queue events (LoadFlag bucket found) quiet = tt
quiet_obeys party queue events (ExchangeFlag bucket from to) quiet = absurd quiet
quiet_obeys party queue events (MissFlag bucket from) quiet = tt
quiet_obeys party queue events (StoreFlag bucket to) quiet = absurd quiet
quiet_obeys party queue events (LoadEntry bucket found) quiet = tt
quiet_obeys party queue events (StoreEntry bucket to) quiet = absurd quiet
quiet_obeys party queue events (LoadSlot slot found) quiet = tt
quiet_obeys party queue events (ExchangeSlot slot from to) quiet = absurd quiet
quiet_obeys party queue events (MissSlot slot from) quiet = tt
quiet_obeys party queue events (EmptySlot slot next) quiet = absurd quiet
quiet_obeys party queue events (LoadLife found) quiet = tt
quiet_obeys party queue events (StoreLife to) quiet = absurd quiet

module _ (old : FileLog) where
  pub looks_gets : (new : FileLog) → Looks old new → Grows old new
  looks_gets _ nothing = ([], refl)
  looks_gets _ (looks log event rest quiet) =
      let grown = looks_gets log rest in (event ∷ grown.0, ap (λ l. told l event) grown.1)

  pub looks_moment : (new : FileLog) → Looks old new → IsMoment old.events new.events
  looks_moment _ nothing = now
  looks_moment _ (looks log event rest quiet) = earlier event log.events (looks_moment log rest)

  pub looks_make : (process : ℕ) (new : FileLog) → Looks old new → Makes process old [] new
  looks_make process _ nothing = record { path = begins; scene = refl; party = refl }
  looks_make process _ (looks log event rest quiet) =
      let made = looks_make process log rest in
      record { path = path_looks log [] Outside event made.path quiet; scene = made.scene; party = made.party }

  pub looks_obey : (depth : ℕ) (new : FileLog) → Looks old new → AllObey depth old → AllObey depth new
  looks_obey depth _ nothing obey number = obey number
  looks_obey depth _ (looks log event rest quiet) obey number = (
    quiet_obeys log.party (record { scene = log.scene; number = number; depth = depth }) log.events event quiet,
    looks_obey depth log rest obey number,
  )

  pub looks_look : (new : FileLog) (event : Event) → ChangesNone event → new ≡ told old event → Looks old new
  looks_look new event quiet is = subst (λ log. Looks old log) (sym is) (looks old event nothing quiet)

  module _ (middle : FileLog) (first : Looks old middle) where
    pub looks_on : (new : FileLog) → Looks middle new → Looks old new
    looks_on _ nothing = first
    looks_on _ (looks log event rest quiet) = looks log event (looks_on log rest) quiet

    -- one look more
    pub looks_then : (new : FileLog) (event : Event) → ChangesNone event → new ≡ told middle event → Looks old new
    looks_then new event quiet is = subst (λ log. Looks old log) (sym is) (looks middle event first quiet)

pub same_scene : (old new : FileLog) → Looks old new → new.scene ≡ old.scene
same_scene old new looked = ap (λ (log : FileLog). log.scene) (looks_gets old new looked).1

pub same_party : (old new : FileLog) → Looks old new → new.party ≡ old.party
same_party old new looked = ap (λ (log : FileLog). log.party) (looks_gets old new looked).1

-- a look at a slot says nothing else of buckets
pub same_slot : (old new : FileLog) (slot : ℕ) (word : Slot) → new ≡ told old (LoadSlot slot word) → KnowsSame old new
same_slot old new slot word is bucket = subst (λ log. unseen (known_of log bucket) ≡ unseen (known_of old bucket)) (sym is)
    (seen_away (known_of old bucket) (seen_in bucket slot word))

pub same_on : (old middle new : FileLog) → KnowsSame old middle → KnowsSame middle new → KnowsSame old new
same_on old middle new one two bucket = two bucket ∙ one bucket

-- WALKS

module _ (test : ℕ → Slot → Type 0) (queue : FileQueue) (before : FileLog) (from : Position) where
  pub passes_look : (count : ℕ) (log : FileLog) (to : Position) → Passes test queue before from count log to → Looks before log
  passes_look _ _ _ stays = nothing
  passes_look _ _ _ (moves_on count log position word rest pass) =
      looks log (LoadSlot position.slot word) (passes_look count log position rest) tt

  pub passes_same : (count : ℕ) (log : FileLog) (to : Position) → Passes test queue before from count log to → KnowsSame before log
  passes_same _ _ _ stays bucket = refl
  passes_same _ _ _ (moves_on count log position word rest pass) bucket =
      seen_away (known_of log bucket) (seen_in bucket position.slot word) ∙ passes_same count log position rest bucket

  pub passes_to : (count : ℕ) (log : FileLog) (to : Position) → Passes test queue before from count log to →
      to ≡ position_on queue from count
  passes_to _ _ _ stays = refl
  passes_to _ _ _ (moves_on count log position word rest pass) =
      let one : count + 1 ≡ suc count = omega arith in
      ap (λ p. position_after queue p) (passes_to count log position rest) ∙ sym (ap (position_on queue from) one)

  -- a walk that has passed a slot has passed the first one
  first_by : (count : ℕ) (log : FileLog) (position : Position) (word : Slot) → Passes test queue before from count log position →
      test position.lap word → (none : Bool) → (count == 0) ≡ none →
      (0 < count → (past : Slot) × Happens before.events log.events (LoadSlot from.slot past) × test from.lap past) →
      (past : Slot) × Happens before.events (LoadSlot position.slot word ∷ log.events) (LoadSlot from.slot past)
      × test from.lap past
  first_by count log position word rest pass true e before_that =
      let at : position ≡ from = passes_to count log position rest ∙ ap (position_on queue from) (eqb-true count 0 e) in (
        word,
        subst (λ (p : Position). Happens before.events (LoadSlot position.slot word ∷ log.events) (LoadSlot p.slot word)) at
            (happens_now before.events log.events (LoadSlot position.slot word)
            (looks_moment before log (passes_look count log position rest))),
        subst (λ (p : Position). test p.lap word) at pass,
      )
  first_by count log position word rest pass false e before_that =
      let some = eqb-false count 0 e in
      let past = before_that (omega (arith, some)) in (
        past.0,
        happens_on before.events log.events (LoadSlot position.slot word ∷ log.events) (LoadSlot from.slot past.0)
            (earlier (LoadSlot position.slot word) log.events now) past.1,
        past.2,
      )

  pub passes_first : (count : ℕ) (log : FileLog) (to : Position) → Passes test queue before from count log to → 0 < count →
      (past : Slot) × Happens before.events log.events (LoadSlot from.slot past) × test from.lap past
  passes_first _ _ _ stays some = absurd (omega (arith, some))
  passes_first _ _ _ (moves_on count log position word rest pass) some =
      first_by count log position word rest pass (count == 0) refl (passes_first count log position rest)

  module _ (positive : 0 < queue.depth) where
    pub passes_its : IsPosition queue from → (count : ℕ) (log : FileLog) (to : Position) →
        Passes test queue before from count log to → IsPosition queue to
    passes_its its _ _ _ stays = its
    passes_its its _ _ _ (moves_on count log position word rest pass) =
        after_its queue positive position (passes_its its count log position rest)

module _ (queue : FileQueue) (positive : 0 < queue.depth) where
  -- a sender may fill the slot after one that is filled
  pub after_filled : (events : List Event) (position : Position) (word : Slot) → IsPosition queue position →
      Look events position.slot word → IsFilled position.lap word → KnowsTail queue events (position_after queue position)
  after_filled events position word its look filled = (
    after_its queue positive position its,
    record {
      word = word;
      look = subst (λ slot. Look events slot word) (sym (before_after queue positive position its)) look;
      filled = subst (λ lap. IsFilled lap word)
          (sym (ap (λ slot. lap_before (position_after queue position).lap (position_after queue position).slot slot)
          (before_after queue positive position its) ∙ lap_after queue positive position its)) filled;
    },
  )

  pub passes_tail : (before : FileLog) (from : Position) → KnowsTail queue before.events from →
      (count : ℕ) (log : FileLog) (to : Position) → Passes IsFilled queue before from count log to → KnowsTail queue log.events to
  passes_tail before from knows _ _ _ stays = knows
  passes_tail before from knows _ _ _ (moves_on count log position word rest filled) =
      after_filled (LoadSlot position.slot word ∷ log.events) position word (passes_tail before from knows count log position rest).0
      (look_now log.events position.slot word) filled

  -- the party has just seen that the slot before passes the test
  sees_by : (test : ℕ → Slot → Type 0) (first events : List Event) (position : Position) (word : Slot) → IsMoment first events →
      IsPosition queue position → test position.lap word →
      (last : Slot) × Happens first (LoadSlot position.slot word ∷ events)
      (LoadSlot (slot_before queue (position_after queue position).slot) last)
      × test (lap_before (position_after queue position).lap (position_after queue position).slot
      (slot_before queue (position_after queue position).slot)) last
  sees_by test first events position word since its pass = (
    word,
    subst (λ slot. Happens first (LoadSlot position.slot word ∷ events) (LoadSlot slot word))
        (sym (before_after queue positive position its))
        (happens_now first events (LoadSlot position.slot word) since),
    subst (λ lap. test lap word)
        (sym (ap (λ slot. lap_before (position_after queue position).lap (position_after queue position).slot slot)
        (before_after queue positive position its) ∙ lap_after queue positive position its)) pass,
  )

  pub sees_after : (first events : List Event) (position : Position) (word : Slot) → IsMoment first events →
      IsPosition queue position → IsFilled position.lap word →
      SeesBefore queue first (LoadSlot position.slot word ∷ events) (position_after queue position)
  sees_after = sees_by IsFilled

  pub sees_tail : (first events : List Event) (position : Position) → IsPosition queue position →
      SeesBefore queue first events position → KnowsTail queue events position
  sees_tail first events position its sees = (
    its,
    record {
      word = sees.0;
      look = look_happened first events (slot_before queue position.slot) sees.0 sees.1;
      filled = sees.2;
    },
  )

  pub passes_sees : (first : List Event) (before : FileLog) (from : Position) → IsMoment first before.events →
      IsPosition queue from → SeesBefore queue first before.events from →
      (count : ℕ) (log : FileLog) (to : Position) → Passes IsFilled queue before from count log to →
      SeesBefore queue first log.events to
  passes_sees first before from since its sees _ _ _ stays = sees
  passes_sees first before from since its sees _ _ _ (moves_on count log position word rest filled) =
      sees_after first log.events position word
      (moment_trans first before.events log.events since
      (looks_moment before log (passes_look IsFilled queue before from count log position rest)))
      (passes_its IsFilled queue before from positive its count log position rest) filled

  -- the party has found the first slot, whose last lap is this one
  pub finds_tail : (old new : FileLog) (slot lap : ℕ) (word : Slot) (position : Position) →
      slot ≡ queue.number * queue.depth → new ≡ told old (LoadSlot slot word) → IsLap lap → IsFilled lap word →
      IsLastFilled lap word → position ≡ position_after queue (record { slot = slot; lap = lap }) →
      SeesBefore queue old.events new.events position × IsPosition queue position
      × SeesLast queue old.events new.events position
  finds_tail old new slot lap word position at is small filled last after =
      let its : IsPosition queue (record { slot = slot; lap = lap }) =
      (subst (λ s. IsSlotOf queue s) (sym at) (first_its queue positive), small) in (
        subst (λ log. SeesBefore queue old.events log.events position) (sym is)
            (subst (λ p. SeesBefore queue old.events (LoadSlot slot word ∷ old.events) p) (sym after)
            (sees_after old.events old.events (record { slot = slot; lap = lap }) word now its filled)),
        subst (λ p. IsPosition queue p) (sym after) (after_its queue positive (record { slot = slot; lap = lap }) its),
        subst (λ log. SeesLast queue old.events log.events position) (sym is)
            (subst (λ p. SeesLast queue old.events (LoadSlot slot word ∷ old.events) p) (sym after)
            (sees_by IsLastFilled old.events old.events (record { slot = slot; lap = lap }) word now its last)),
      )

  -- the queue goes on after a slot that is over
  pub after_over : (events : List Event) (position : Position) (word : Slot) → KnowsHead queue events position →
      IsOver position.lap word → KnowsHead queue (LoadSlot position.slot word ∷ events) (position_after queue position)
  after_over events position word knows over = (
    after_its queue positive position knows.0,
    (λ other its. by_slot other its (other == position.slot) refl),
  )
    where
      by_slot : (other : ℕ) → IsSlotOf queue other → (same : Bool) → (other == position.slot) ≡ same →
          (found : Slot) × Look (LoadSlot position.slot word ∷ events) other found
          × IsLater (lap_before (position_after queue position).lap (position_after queue position).slot other) (lap_said found)
      by_slot other its true e =
          let at = eqb-true other position.slot e in (
            word,
            subst (λ slot. Look (LoadSlot position.slot word ∷ events) slot word) (sym at) (look_now events position.slot word),
            subst (λ lap. IsLater lap (lap_said word))
                (sym (ap (λ slot. lap_before (position_after queue position).lap (position_after queue position).slot slot) at
                ∙ lap_after queue positive position knows.0)) over,
          )
      by_slot other its false e =
          let known = knows.1 other its in (
            known.0,
            look_later events (LoadSlot position.slot word ∷ events) other known.0
                (earlier (LoadSlot position.slot word) events now) known.1,
            subst (λ lap. IsLater lap (lap_said known.0))
                (sym (lap_still queue positive position knows.0 other its (eqb-false other position.slot e))) known.2,
          )

  pub passes_head : (before : FileLog) (from : Position) → KnowsHead queue before.events from →
      (count : ℕ) (log : FileLog) (to : Position) → Passes IsOver queue before from count log to → KnowsHead queue log.events to
  passes_head before from knows _ _ _ stays = knows
  passes_head before from knows _ _ _ (moves_on count log position word rest over) =
      after_over log.events position word (passes_head before from knows count log position rest) over

-- the slots of the queue are slots of the file
pub its_below : (queue : FileQueue) → IsWhole queue → 0 < queue.depth → (slot : ℕ) → IsSlotOf queue slot → slot < queue.scene.slots
its_below queue whole positive slot its =
    let less = (slot_range queue positive slot its).1 in omega (arith, less, whole)

module _ (test : ℕ → Slot → Type 0) (queue : FileQueue) (positive : 0 < queue.depth) (whole : IsWhole queue) (old : FileLog)
    (scene : queue.scene ≡ old.scene) (from : Position) (its : IsPosition queue from) (count : ℕ) (log : FileLog) (to : Position)
    (passes : Passes test queue old from count log to) where
  -- the next slot is one of the file
  pub next_below : to.slot < log.scene.slots
  next_below = subst (λ (s : FileScene). to.slot < s.slots)
      (scene ∙ sym (same_scene old log (passes_look test queue old from count log to passes)))
      (its_below queue whole positive to.slot (passes_its test queue old from positive its count log to passes).0)

  pub next_its : IsPosition queue to
  next_its = passes_its test queue old from positive its count log to passes

  -- the slot passes, too
  pub passes_on : (new : FileLog) (word : Slot) (next : Position) → new ≡ told log (LoadSlot to.slot word) → test to.lap word →
      next ≡ position_after queue to → Passes test queue old from (count + 1) new next
  passes_on new word next is pass after = subst (λ log. Passes test queue old from (count + 1) log next) (sym is)
      (subst (λ p. Passes test queue old from (count + 1) (told log (LoadSlot to.slot word)) p) (sym after)
      (moves_on count log to word passes pass))

  -- the walk stops here
  pub stops_here : (new : FileLog) (word : Slot) → new ≡ told log (LoadSlot to.slot word) → IsLap (lap_in word) →
      count ≤ queue.depth → (¬ test to.lap word) ⊎ (count ≡ queue.depth) →
      StopsAt test queue old from (record { position = to; word = word }) new
  stops_here new word is lap most why = (count, log, most, passes, is, lap, why)

-- STOPS

module _ (test : ℕ → Slot → Type 0) (queue : FileQueue) (old : FileLog) (from : Position) (stop : Stop) (new : FileLog)
    (stops : StopsAt test queue old from stop new) where
  pub stops_its : 0 < queue.depth → IsPosition queue from → IsPosition queue stop.position
  stops_its positive its = passes_its test queue old from positive its stops.0 stops.1 stop.position stops.3

  pub stops_look : Looks old new
  stops_look = looks_then old stops.1 (passes_look test queue old from stops.0 stops.1 stop.position stops.3) new
      (LoadSlot stop.position.slot stop.word) tt stops.4

  pub stops_same : KnowsSame old new
  stops_same = same_on old stops.1 new (passes_same test queue old from stops.0 stops.1 stop.position stops.3)
      (same_slot stops.1 new stop.position.slot stop.word stops.4)

-- a walk that is the same but for how the scene is written
pub stops_as : (test : ℕ → Slot → Type 0) (one other : FileScene) (queue : Queue) (old : FileLog) (from : Position) (stop : Stop)
    (new : FileLog) → one ≡ other → StopsAt test (queue_in one queue) old from stop new →
    StopsAt test (queue_in other queue) old from stop new
stops_as test one other queue old from stop new same stops =
    subst (λ scene. StopsAt test (queue_in scene queue) old from stop new) same stops

-- TURNS

module _ (queue : FileQueue) (positive : 0 < queue.depth) (old : FileLog) (tail : Position)
    (knows : KnowsTail queue old.events tail) (stop : Stop) (new : FileLog) (stops : StopsAt IsFilled queue old tail stop new) where
  -- it is the sender's turn
  pub finds_turn : IsTurn stop.position.lap stop.word → FindsTurn queue old stop new
  finds_turn turn = (
    stops.1,
    passes_look IsFilled queue old tail stops.0 stops.1 stop.position stops.3,
    passes_tail queue positive old tail knows stops.0 stops.1 stop.position stops.3,
    stops.4,
    inl turn,
    stops.5,
  )

pub sees_since : (queue : FileQueue) (first moment events : List Event) (position : Position) → IsMoment first moment →
    SeesBefore queue moment events position → SeesBefore queue first events position
sees_since queue first moment events position past sees =
    (sees.0, happens_since first moment events (LoadSlot (slot_before queue position.slot) sees.0) past sees.1, sees.2)

pub last_since : (queue : FileQueue) (first moment events : List Event) (position : Position) → IsMoment first moment →
    SeesLast queue moment events position → SeesLast queue first events position
last_since queue first moment events position past sees =
    (sees.0, happens_since first moment events (LoadSlot (slot_before queue position.slot) sees.0) past sees.1, sees.2)

-- the sender has begun anew
pub finds_anew : (queue : FileQueue) (positive : 0 < queue.depth) (old middle : FileLog) (tail : Position) (stop : Stop) (new : FileLog) →
    Looks old middle → IsPosition queue tail → SeesBefore queue old.events middle.events tail →
    SeesLast queue old.events middle.events tail → StopsAt IsFilled queue middle tail stop new → FindsTurn queue old stop new
finds_anew queue positive old middle tail stop new first its sees last stops =
    let knows = sees_tail queue positive old.events middle.events tail its sees in (
      stops.1,
      looks_on old middle first stops.1 (passes_look IsFilled queue middle tail stops.0 stops.1 stop.position stops.3),
      passes_tail queue positive middle tail knows stops.0 stops.1 stop.position stops.3,
      stops.4,
      inr (
        passes_sees queue positive old.events middle tail (looks_moment old middle first) its sees stops.0 stops.1 stop.position
            stops.3,
        (λ filled. elim stops.6 [
          | inl not ↦ absurd (not filled)
          | inr all ↦ (
            middle,
            tail,
            first,
            knows,
            last,
            subst (λ count. Passes IsFilled queue middle tail (count + 1) new (position_after queue stop.position)) all
                (subst (λ log. Passes IsFilled queue middle tail (stops.0 + 1) log (position_after queue stop.position))
                (sym stops.4) (moves_on stops.0 stops.1 stop.position stop.word stops.3 filled)),
          )
        ]),
      ),
      stops.5,
    )

-- LOST RACES

module _ (queue : FileQueue) (old : FileLog) where
  pub loses_look : (count : ℕ) (new : FileLog) → Loses queue old count new → Looks old new
  loses_look _ _ unbeaten = nothing
  loses_look _ _ (searched count log new rest since) = looks_on old log (loses_look count log rest) new since
  loses_look _ _ (overtaken count log before from first new to rest since seen lap knows passes) =
      looks_on old before (looks_on old log (loses_look count log rest) before since) new
      (passes_look IsOver queue before from (queue.depth + 1) new to passes)
  loses_look _ _ (beaten count log before slot lap bucket rest since its sent) =
      looks before _ (looks_on old log (loses_look count log rest) before since) tt
  loses_look _ _ (older count log new middle head more less bucket other rest since fewer most pass sent also) =
      looks_on old log (loses_look count log rest) new since
