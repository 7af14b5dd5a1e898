-- If each process obeys the rules of a queue by what it has seen itself, and by looks that are recent, the
-- acts of the run obey them.
use Rattle.bb_memory_file.proofs.FileKnows.{known_kept, may_be_after}
use Rattle.bb_memory_file.proofs.FileRunMoments.{Knowing, Lives, MadeAt, contains_later, events_moment, events_session, has_locked, knowing, last_made, lives_before, made_at, made_in_order, own_moment}
use Rattle.bb_memory_file.proofs.FileRunSteps.{log_of, own_mine, session}
use Rattle.bb_memory_file.specs.FileCode.{EmptySlot, Event, ExchangeFlag, ExchangeSlot, FileLog, Finds, Has, Holds, IsKnown, IsStep, LoadEntry, LoadFlag, LoadLife, LoadSlot, MayBe, MissFlag, MissSlot, StoreEntry, StoreFlag, StoreLife, Unknown, known_of, left_by}
use Rattle.bb_memory_file.specs.FileLog.{Known, is_held, known_by}
use Rattle.bb_memory_file.specs.FileNames.{DetachedBy, Empty, FileFlag, FileStep, Free, HeldBy, Message, Place, Refused, SentTo, Slot, Take}
use Rattle.bb_memory_file.specs.FileQueueLives.{AreRecent, EventRelies, FillRelies, IsRecent, LookTest, LooksAreRecent, PassRelies, ProcessesObey, TakeRelies, events_in, events_of}
use Rattle.bb_memory_file.specs.FileQueueLooks.{CanFill, CanPass, CanTake, EventObeys, EventsObey, Look, Shows, ShowsUnsent}
use Rattle.bb_memory_file.specs.FileQueueLooks as looks
use Rattle.bb_memory_file.specs.FileQueueRuns.{ActObeys, ActsObey}
use Rattle.bb_memory_file.specs.FileRuns.{Act, AreTrue, Dies, Frees, IsRun, Locks, Operates, Unlocks, actor, own, words_after}
use Rattle.bb_memory_file_machine.proofs.FileEffects.{one_value, set_cases, stays_apart}
use Rattle.bb_memory_file_machine.proofs.FileInvariant.{Sound}
use Rattle.bb_memory_file_machine.proofs.FileKinds.{Kind, allocates, attaches, detaches, gives, kind_of, puts_back, receives, recovers, refuses, sends, settles, settles_sent}
use Rattle.bb_memory_file_machine.proofs.FileTests.{flag_missing}
use Rattle.bb_memory_file_machine.proofs.QueueHistories.{moment_of}
use Rattle.bb_memory_file_machine.specs.FileLaws.{IsFlag, IsHolder, IsSlot}
use Rattle.bb_memory_file_machine.specs.FileMachine.{FileMove, FileWords, move_at, with_flag, with_slot}
use Rattle.bb_memory_file_machine.specs.FileQueues.{FileQueue, HasSeen, IsMoment, IsSlotOf, MayEmpty, MayFill, MayPass, MayTake, earlier, fills, lap_before, next_lap, now, slot_before}
use Rattle.bb_memory_file_machine.specs.FileQueues as queues
use Rattle.bb_memory_lists.proofs.ListEntries.{contains-behind}
use Rattle.bb_memory_lists.proofs.SliceGets.{slice_get-set, slice_get-set_same}
use Rattle.std.proofs.Common.{List, Some, [], ap, inl, inr, refl, subst, sym, true, ℕ, ◌<◌, ◌∙◌, ◌∷◌, ◌≡◌, ◌≢◌}
use Rattle.std.specs.Prelude.{Contains, slice_get, slice_set}

-- STORES OF FLAGS

-- a bucket that was sent isn't held after another flag was written
never_held : (flags : List FileFlag) (other bucket : ℕ) (to : FileFlag) (slot lap number : ℕ) → ¬ (to ≡ HeldBy number) →
    slice_get flags bucket ≡ Some (SentTo slot lap) → ¬ (slice_get (slice_set flags other to) bucket ≡ Some (HeldBy number))
never_held flags other bucket to slot lap number unheld was held =
    elim (slice_get-set flags other bucket to (HeldBy number) held) [
      | inl before ↦ let same = one_value flags bucket (SentTo slot lap) (HeldBy number) was before in absurd (cc)
      | inr this ↦ unheld this.1
    ]

-- a step by which a party gets a bucket that is sent is a take
takes_sent : (words : FileWords) (place : Place) (step : FileStep) (move : FileMove) (bucket slot lap number : ℕ) →
    Kind words place step move → IsFlag words bucket (SentTo slot lap) → IsFlag move.words bucket (HeldBy number) →
    (process : ℕ) × (party : ℕ) × (at : ℕ) × (found : ℕ) × (step ≡ Take process party at bucket found)
takes_sent words place step move bucket slot lap number (receives process party at other found own is) was held =
    elim (set_cases words.flags other bucket (HeldBy party) (SentTo at found) (HeldBy number) is held) [
      | inl before ↦ let same = one_value words.flags bucket (SentTo slot lap) (HeldBy number) was before.1 in absurd (cc)
      | inr this ↦ (process, party, at, found, ap (λ (b : ℕ). Take process party at b found) this.0)
    ]
takes_sent words place step move bucket slot lap number (allocates process party other own is) was held =
    let after = stays_apart words.flags other bucket (HeldBy party) Free (SentTo slot lap) is was (λ same. absurd (cc)) in
    let same = one_value (slice_set words.flags other (HeldBy party)) bucket (SentTo slot lap) (HeldBy number) after held in
    absurd (cc)
takes_sent words place step move bucket slot lap number (attaches process party other from own is) was held =
    let after = stays_apart words.flags other bucket (HeldBy party) (DetachedBy from) (SentTo slot lap) is was
    (λ same. absurd (cc)) in
    let same = one_value (slice_set words.flags other (HeldBy party)) bucket (SentTo slot lap) (HeldBy number) after held in
    absurd (cc)
takes_sent words place step move bucket slot lap number (recovers process party other is) was held =
    let after = stays_apart words.flags other bucket (HeldBy party) (DetachedBy party) (SentTo slot lap) is was
    (λ same. absurd (cc)) in
    let same = one_value (slice_set words.flags other (HeldBy party)) bucket (SentTo slot lap) (HeldBy number) after held in
    absurd (cc)
takes_sent words place step move bucket slot lap number (gives process party other own mine clear) was held =
    absurd (never_held words.flags other bucket Free slot lap number (λ same. absurd (cc)) was held)
takes_sent words place step move bucket slot lap number (detaches process party other own mine clear) was held =
    absurd (never_held words.flags other bucket (DetachedBy party) slot lap number (λ same. absurd (cc)) was held)
takes_sent words place step move bucket slot lap number (sends process party at other found) was held =
    absurd (never_held words.flags other bucket (SentTo at found) slot lap number (λ same. absurd (cc)) was held)
takes_sent words place step move bucket slot lap number (puts_back process party at other found own mine has) was held =
    absurd (never_held words.flags other bucket (SentTo at found) slot lap number (λ same. absurd (cc)) was held)
takes_sent words place step move bucket slot lap number (settles process party other mine clear) was held =
    absurd (never_held words.flags other bucket Free slot lap number (λ same. absurd (cc)) was held)
takes_sent words place step move bucket slot lap number (settles_sent process party other at found mine has) was held =
    absurd (never_held words.flags other bucket (SentTo at found) slot lap number (λ same. absurd (cc)) was held)
takes_sent words place step move bucket slot lap number _ was held =
    let same = one_value words.flags bucket (SentTo slot lap) (HeldBy number) was held in absurd (cc)

-- a take that is allowed finds that the bucket is sent
sent_to : (words : FileWords) (place : Place) (step : FileStep) (move : FileMove) (process party slot bucket lap : ℕ) →
    Kind words place step move → step ≡ Take process party slot bucket lap → move.outcome ≢ Refused →
    IsFlag words bucket (SentTo slot lap)
sent_to words place step move process party slot bucket lap (receives actor number at other found own is) step_is allowed =
    let slots : at ≡ slot = cc in
    let buckets : other ≡ bucket = cc in
    let laps : found ≡ lap = cc in
    ap (slice_get words.flags) (sym buckets) ∙ is ∙ ap (λ (s : ℕ). Some (SentTo s found)) slots
    ∙ ap (λ (l : ℕ). Some (SentTo slot l)) laps
sent_to words place step move process party slot bucket lap (refuses at taken) step_is allowed = absurd (allowed refl)
sent_to words place step move process party slot bucket lap _ step_is allowed = absurd (cc)

-- no step of a party stores the flag of a bucket that is sent, so that the party holds the bucket
never_stored : (log : FileLog) (process : ℕ) (words : FileWords) (here : Place) (bucket slot lap number : ℕ) (step : FileStep)
    (there : Place) → Sound words → MayBe log process words →
    IsStep log process here (StoreFlag bucket (HeldBy number)) step there → ¬ IsFlag words bucket (SentTo slot lap)
never_stored log process words here bucket slot lap number step there sound may made is =
    let stored = made words may tt in
    let held : IsFlag (move_at words here step).words bucket (HeldBy number) =
    ap (λ (w : FileWords). slice_get w.flags bucket) stored.words
    ∙ slice_get-set_same words.flags bucket (HeldBy number) (SentTo slot lap) is in
    let take = takes_sent words here step (move_at words here step) bucket slot lap number (kind_of words here step) is held in
    let free : FileWords = with_flag words bucket Free in
    let after = may_be_after words log process (ExchangeFlag bucket (SentTo slot lap) Free) sound may is in
    let may_free : MayBe log process free = record {
      buckets = after.buckets;
      lock = after.lock;
      known = λ other.
          known_kept words free log.party other (known_of log other)
          (λ mine. stays_apart words.flags bucket other Free (SentTo slot lap) (HeldBy log.party) is mine (λ same. absurd (cc)))
          refl refl (may.known other);
      life = after.life;
    } in
    let again = made free may_free tt in
    let sent = sent_to free here step (move_at free here step) take.0 take.1 take.2 bucket take.3 (kind_of free here step)
    take.4 again.allowed in
    let same = one_value free.flags bucket (SentTo take.2 take.3) Free sent
    (slice_get-set_same words.flags bucket Free (SentTo slot lap) is) in
    absurd (cc)

-- LOOKS

-- by the event the party sees that the slot has this word, which it has afterwards
shown : (words : FileWords) (party slot : ℕ) (word : Slot) (event : Event) →
    ((next : ℕ) → event ≡ EmptySlot slot next → (old : Slot) × IsSlot words slot old) →
    Shows slot word event → Finds words party event → IsSlot (left_by words party event) slot word
shown words party slot word (LoadSlot other found) there shows is =
    ap (slice_get words.slots) (sym shows.0) ∙ is ∙ ap (λ (w : Slot). Some w) shows.1
shown words party slot word (ExchangeSlot other from to) there shows is =
    ap (slice_get (slice_set words.slots other to)) (sym shows.0) ∙ slice_get-set_same words.slots other to from is
    ∙ ap (λ (w : Slot). Some w) shows.1
shown words party slot word (EmptySlot other next) there shows is =
    let old = there next (ap (λ (s : ℕ). EmptySlot s next) shows.0) in
    ap (λ (s : ℕ). slice_get (slice_set words.slots s (Empty next)) slot) shows.0
    ∙ slice_get-set_same words.slots slot (Empty next) old.0 old.1 ∙ ap (λ (w : Slot). Some w) shows.1
shown words party slot word (LoadFlag bucket found) there shows is = absurd shows
shown words party slot word (ExchangeFlag bucket from to) there shows is = absurd shows
shown words party slot word (MissFlag bucket from) there shows is = absurd shows
shown words party slot word (StoreFlag bucket to) there shows is = absurd shows
shown words party slot word (LoadEntry bucket found) there shows is = absurd shows
shown words party slot word (StoreEntry bucket to) there shows is = absurd shows
shown words party slot word (MissSlot other from) there shows is = absurd shows
shown words party slot word (LoadLife found) there shows is = absurd shows
shown words party slot word (StoreLife to) there shows is = absurd shows

-- by the event the party sees that the bucket isn't sent there, and it isn't afterwards
shown_unsent : (words : FileWords) (party bucket slot lap : ℕ) (event : Event) → ShowsUnsent bucket slot lap event →
    Finds words party event → ¬ IsFlag (left_by words party event) bucket (SentTo slot lap)
shown_unsent words party bucket slot lap (LoadFlag other found) shows is sent =
    shows.1 (one_value words.flags bucket found (SentTo slot lap) (ap (slice_get words.flags) (sym shows.0) ∙ is) sent)
shown_unsent words party bucket slot lap (MissFlag other from) shows is sent =
    flag_missing words other from is
    (ap (slice_get words.flags) shows.0 ∙ sent ∙ ap (λ (f : FileFlag). Some f) (sym shows.1))
shown_unsent words party bucket slot lap (ExchangeFlag other from to) shows is sent = absurd shows
shown_unsent words party bucket slot lap (StoreFlag other to) shows is sent = absurd shows
shown_unsent words party bucket slot lap (LoadEntry other found) shows is sent = absurd shows
shown_unsent words party bucket slot lap (StoreEntry other to) shows is sent = absurd shows
shown_unsent words party bucket slot lap (LoadSlot at found) shows is sent = absurd shows
shown_unsent words party bucket slot lap (ExchangeSlot at from to) shows is sent = absurd shows
shown_unsent words party bucket slot lap (MissSlot at from) shows is sent = absurd shows
shown_unsent words party bucket slot lap (EmptySlot at next) shows is sent = absurd shows
shown_unsent words party bucket slot lap (LoadLife found) shows is sent = absurd shows
shown_unsent words party bucket slot lap (StoreLife to) shows is sent = absurd shows

-- a party that holds a bucket by its events holds it
holds_it : (words : FileWords) (party bucket : ℕ) (known : Known) → IsKnown words party bucket known → is_held known ≡ true →
    IsHolder words bucket party
holds_it words party bucket Unknown so is = absurd (cc)
holds_it words party bucket (Holds entry seen) so is = so.0

-- of the events that obey the rules, one of them, and those before it
module _ (party : ℕ) (queue : FileQueue) where
  obeys_then : (event : Event) (before events : List Event) → IsMoment (event ∷ before) events → EventsObey party queue events →
      EventObeys party queue before event
  obeys_then event before _ now obey = obey.0
  obeys_then event before _ (earlier last events past) obey = obeys_then event before events past obey.1

-- what an event relies on, once it obeys the rules
abbrev Relying : (party : ℕ) (queue : FileQueue) (all : List Act) (process : ℕ) (events : List Event) (event : Event) → Type 0
Relying party queue all process events event =
    (obeys : EventObeys party queue events event)
    × EventRelies party queue events event (IsRecent queue.scene all process events) obeys

relying_then : (party : ℕ) (queue : FileQueue) (all : List Act) (process : ℕ) (event : Event)
    (before events : List Event) → IsMoment (event ∷ before) events → (obey : EventsObey party queue events) →
    LooksAreRecent party queue all process events obey →
    Relying party queue all process before event × EventsObey party queue before
relying_then party queue all process event before _ now obey rely = ((obey.0, rely.0), obey.1)
relying_then party queue all process event before _ (earlier last events past) obey rely =
    relying_then party queue all process event before events past obey.1 rely.1

-- what a process in a session has seen
module _ (queue : FileQueue) (all acts : List Act) (process party : ℕ) (events : List Event)
    (below : process < queue.scene.processes) (true_acts : AreTrue queue.scene acts) (lives : Lives queue.scene acts)
    (mine : own process acts ≡ session process party events) (past : IsMoment acts all)
    (obey : EventsObey party queue events) where
  abbrev Recently : LookTest
  Recently = IsRecent queue.scene all process events

  -- the moment of an event
  abbrev at_event : (event : Event) (before : List Event) → IsMoment (event ∷ before) events →
      MadeAt queue.scene process party event before acts
  at_event event before past = made_at queue.scene process party event before events acts true_acts lives mine past

  -- a slot that the party has emptied had a message
  emptied : (event : Event) (before : List Event) (is : IsMoment (event ∷ before) events)
      (at : MadeAt queue.scene process party event before acts) (slot next : ℕ) → event ≡ EmptySlot slot next →
      (old : Slot) × IsSlot (words_after queue.scene at.moment) slot old
  emptied event before is at slot next same =
      let obeys : EventObeys party queue before (EmptySlot slot next) =
      subst (λ (e : Event). EventObeys party queue before e) same (obeys_then party queue event before events is obey) in
      let knows = knowing queue.scene process party before at.moment below at.true.2 at.lives at.session in
      let so : IsKnown (words_after queue.scene at.moment) party obeys.0 (Holds obeys.2 (Has slot obeys.1)) =
      subst (λ (k : Known). IsKnown (words_after queue.scene at.moment) party obeys.0 k) obeys.3 (knows.may.known obeys.0) in
      (Message obeys.1 obeys.0, so.2)

  -- a look at a slot
  abbrev sees : (slot : ℕ) (word : Slot) (look : Look events slot word) → Recently slot (look.event ∷ look.before) →
      HasSeen (words_after queue.scene) acts slot word
  sees slot word look recent =
      let at = at_event look.event look.before look.past in
      record {
        moment = Operates process party look.event ∷ at.moment;
        past = at.past;
        seen = shown (words_after queue.scene at.moment) party slot word look.event
            (λ next same. emptied look.event look.before look.past at slot next same) look.shows at.true.1;
        recent = recent (Operates process party look.event ∷ at.moment) acts at.past past
            (ap (λ (l : List Act). events_in l) (own_mine (Operates process party look.event) at.moment)
            ∙ ap (λ (l : List Act). look.event ∷ events_in l) at.session
            ∙ ap (λ (l : List Event). look.event ∷ l) (events_session process party look.before))
            (ap (λ (l : List Act). events_in l) mine ∙ events_session process party events);
      }

  may_fill : (slot lap : ℕ) (can : CanFill queue events slot lap) → FillRelies Recently can →
      MayFill (words_after queue.scene) queue acts slot lap
  may_fill slot lap can recent =
      record { word = can.word; look = sees (slot_before queue slot) can.word can.look recent; filled = can.filled }

  may_pass : (event : Event) (before : List Event) (is : IsMoment (event ∷ before) events) (slot lap : ℕ)
      (can : CanPass party events (event ∷ before) slot lap) → PassRelies Recently can →
      MayPass (words_after queue.scene) acts (Operates process party event ∷ (at_event event before is).moment) slot lap
  may_pass event before is slot lap (looks.over word look later) recent =
      queues.over word (sees slot word look recent) later
  may_pass event before is slot lap (looks.unsent bucket look second then_before since_look since_take until shows) recent =
      let at = at_event second then_before until in
      queues.unsent bucket (sees slot (Message lap bucket) look recent) (Operates process party second ∷ at.moment)
      (made_in_order queue.scene process party look.event second look.before then_before acts
      (at_event look.event look.before look.past) at since_look)
      (made_in_order queue.scene process party event second before then_before acts (at_event event before is) at since_take)
      at.past (shown_unsent (words_after queue.scene at.moment) party bucket slot lap second shows at.true.1)
  may_pass event before is slot lap (looks.held bucket look is_held) recent =
      let knows = knowing queue.scene process party events acts below true_acts lives mine in
      let holder = holds_it (words_after queue.scene acts) party bucket (known_by party bucket events) (knows.may.known bucket)
      is_held in
      queues.unsent bucket (sees slot (Message lap bucket) look recent) acts (at_event look.event look.before look.past).past
      (at_event event before is).past now
      (λ sent. let same = one_value (words_after queue.scene acts).flags bucket (HeldBy party) (SentTo slot lap) holder sent in
      absurd (cc))

  may_take : (slot bucket lap : ℕ) (can : CanTake party queue events slot bucket lap) → TakeRelies Recently can →
      MayTake (words_after queue.scene) queue acts slot bucket lap
  may_take slot bucket lap can recent = record {
    look = sees slot (Message lap bucket) can.look recent.0;
    others = λ other its apart. may_pass can.look.event can.look.before can.look.past other (lap_before lap slot other)
        (can.others other its apart) (recent.1 other its apart);
  }

-- ACTS

-- a slot that stays isn't filled
no_fill : (words later : FileWords) (slot lap found bucket : ℕ) → later.slots ≡ words.slots → IsSlot words slot (Empty lap) →
    ¬ IsSlot later slot (Message found bucket)
no_fill words later slot lap found bucket same was is =
    let e = one_value words.slots slot (Empty lap) (Message found bucket) was
    (ap (λ (l : List Slot). slice_get l slot) (sym same) ∙ is) in
    absurd (cc)

-- a slot that stays isn't emptied
no_empty : (words later : FileWords) (slot lap bucket next : ℕ) → later.slots ≡ words.slots →
    IsSlot words slot (Message lap bucket) → ¬ IsSlot later slot (Empty next)
no_empty words later slot lap bucket next same was is =
    let e = one_value words.slots slot (Message lap bucket) (Empty next) was
    (ap (λ (l : List Slot). slice_get l slot) (sym same) ∙ is) in
    absurd (cc)

-- a bucket whose flag stays isn't taken
no_take : (words later : FileWords) (bucket slot lap party : ℕ) → later.flags ≡ words.flags →
    IsFlag words bucket (SentTo slot lap) → ¬ IsFlag later bucket (HeldBy party)
no_take words later bucket slot lap party same was is =
    let e = one_value words.flags bucket (SentTo slot lap) (HeldBy party) was
    (ap (λ (l : List FileFlag). slice_get l bucket) (sym same) ∙ is) in
    absurd (cc)

-- an act that changes no flag and no slot obeys the rules
quiet : (queue : FileQueue) (acts : List Act) (act : Act) →
    (words_after queue.scene (act ∷ acts)).slots ≡ (words_after queue.scene acts).slots →
    (words_after queue.scene (act ∷ acts)).flags ≡ (words_after queue.scene acts).flags → ActObeys queue acts act
quiet queue acts act slots flags =
    let words : FileWords = words_after queue.scene acts in
    let later : FileWords = words_after queue.scene (act ∷ acts) in
    record {
      fill = λ slot lap found bucket its was is. absurd (no_fill words later slot lap found bucket slots was is);
      take = λ slot bucket lap party its was is. absurd (no_take words later bucket slot lap party flags was is);
      empty = λ slot lap bucket next its was is. absurd (no_empty words later slot lap bucket next slots was is);
    }

module _ (queue : FileQueue) (all : List Act) (obey : ProcessesObey queue all) (recent : AreRecent queue all obey) where
  module _ (acts : List Act) (process party : ℕ) (events : List Event) (below : process < queue.scene.processes)
      (true_acts : AreTrue queue.scene acts) (lives : Lives queue.scene acts)
      (mine : own process acts ≡ session process party events) where
    abbrev before : FileWords
    before = words_after queue.scene acts

    abbrev after : Event → FileWords
    after event = left_by before party event

    -- what an event relies on
    relying : (event : Event) → IsMoment (Operates process party event ∷ acts) all →
        Relying party queue all process events event × EventsObey party queue events
    relying event past =
        let act : Act = Operates process party event in
        let has : Contains all (Locks process party) = contains_later (act ∷ acts) all (Locks process party) past
        (contains-behind act (Locks process party) acts (has_locked process party events acts mine)) in
        relying_then party queue all process event events (events_of process all)
        (subst (λ (l : List Event). IsMoment l (events_of process all))
        (ap (λ (l : List Act). events_in l) (own_mine act acts) ∙ ap (λ (l : List Act). event ∷ events_in l) mine
        ∙ ap (λ (l : List Event). event ∷ l) (events_session process party events))
        (events_moment (own process (act ∷ acts)) (own process all) (own_moment process (act ∷ acts) all past)))
        (obey process party has) (recent process party has)

    knows : Knowing queue.scene process party events before
    knows = knowing queue.scene process party events acts below true_acts lives mine

    fills_slot : (other slot lap found bucket : ℕ) (from to : Slot) →
        IsMoment (Operates process party (ExchangeSlot other from to) ∷ acts) all → IsSlot before other from → IsSlotOf queue slot →
        IsSlot before slot (Empty lap) →
        IsSlot (with_slot before other to) slot (Message found bucket) → MayFill (words_after queue.scene) queue acts slot lap
    fills_slot other slot lap found bucket from to past there its was is =
        elim (set_cases before.slots other slot to from (Message found bucket) there is) [
          | inl stays ↦ absurd (no_fill before before slot lap found bucket refl was stays.1)
          | inr this ↦
              let empty : from ≡ Empty lap = one_value before.slots slot from (Empty lap)
              (ap (slice_get before.slots) (sym this.0) ∙ there) was in
              let same : ExchangeSlot other from to ≡ ExchangeSlot slot (Empty lap) (Message found bucket) =
              ap (λ (s : ℕ). ExchangeSlot s from to) this.0 ∙ ap (λ (w : Slot). ExchangeSlot slot w to) empty
              ∙ ap (λ (w : Slot). ExchangeSlot slot (Empty lap) w) this.1 in
              let event : Event = ExchangeSlot other from to in
              let all_relied = relying event past in
              let relied = subst (λ (e : Event). Relying party queue all process events e) same all_relied.0 in
              may_fill queue all acts process party events below true_acts lives mine
              (moment_of acts (Operates process party event ∷ acts) all (earlier (Operates process party event) acts now) past)
              all_relied.1 slot lap (relied.0 its) (relied.1 its)
        ]

    empties_slot : (other slot lap bucket next : ℕ) (from to : Slot) →
        IsMoment (Operates process party (ExchangeSlot other from to) ∷ acts) all → IsSlot before other from → IsSlotOf queue slot →
        IsSlot before slot (Message lap bucket) →
        IsSlot (with_slot before other to) slot (Empty next) → MayEmpty before slot next
    empties_slot other slot lap bucket next from to past there its was is =
        elim (set_cases before.slots other slot to from (Empty next) there is) [
          | inl stays ↦ absurd (no_empty before before slot lap bucket next refl was stays.1)
          | inr this ↦
              let filled : from ≡ Message lap bucket = one_value before.slots slot from (Message lap bucket)
              (ap (slice_get before.slots) (sym this.0) ∙ there) was in
              let same : ExchangeSlot other from to ≡ ExchangeSlot slot (Message lap bucket) (Empty next) =
              ap (λ (s : ℕ). ExchangeSlot s from to) this.0 ∙ ap (λ (w : Slot). ExchangeSlot slot w to) filled
              ∙ ap (λ (w : Slot). ExchangeSlot slot (Message lap bucket) w) this.1 in
              let relied = subst (λ (e : Event). Relying party queue all process events e) same
              (relying (ExchangeSlot other from to) past).0 in
              λ found held has.
              let words = one_value before.slots slot (Message lap bucket) (Message found held) was has in
              let laps : lap ≡ found = cc in
              relied.0 its ∙ ap (λ (l : ℕ). next_lap l) laps
        ]

    takes_bucket : (other slot bucket lap number : ℕ) (from to : FileFlag) →
        IsMoment (Operates process party (ExchangeFlag other from to) ∷ acts) all → IsFlag before other from → IsSlotOf queue slot →
        IsFlag before bucket (SentTo slot lap) →
        IsFlag (with_flag before other to) bucket (HeldBy number) → MayTake (words_after queue.scene) queue acts slot bucket lap
    takes_bucket other slot bucket lap number from to past there its was is =
        elim (set_cases before.flags other bucket to from (HeldBy number) there is) [
          | inl stays ↦ absurd (no_take before before bucket slot lap number refl was stays.1)
          | inr this ↦
              let sent : from ≡ SentTo slot lap = one_value before.flags bucket from (SentTo slot lap)
              (ap (slice_get before.flags) (sym this.0) ∙ there) was in
              let same : ExchangeFlag other from to ≡ ExchangeFlag bucket (SentTo slot lap) (HeldBy number) =
              ap (λ (b : ℕ). ExchangeFlag b from to) this.0 ∙ ap (λ (f : FileFlag). ExchangeFlag bucket f to) sent
              ∙ ap (λ (f : FileFlag). ExchangeFlag bucket (SentTo slot lap) f) this.1 in
              let event : Event = ExchangeFlag other from to in
              let all_relied = relying event past in
              let relied = subst (λ (e : Event). Relying party queue all process events e) same all_relied.0 in
              may_take queue all acts process party events below true_acts lives mine
              (moment_of acts (Operates process party event ∷ acts) all (earlier (Operates process party event) acts now) past)
              all_relied.1 slot bucket lap (relied.0 its) (relied.1 its)
        ]

    stores_flag : (other slot bucket lap number : ℕ) (to : FileFlag) (here there : Place) (step : FileStep) →
        IsStep (log_of queue.scene party events) process here (StoreFlag other to) step there →
        IsFlag before bucket (SentTo slot lap) → ¬ IsFlag (with_flag before other to) bucket (HeldBy number)
    stores_flag other slot bucket lap number to here there step made was is =
        elim (slice_get-set before.flags other bucket to (HeldBy number) is) [
          | inl stays ↦ no_take before before bucket slot lap number refl was stays
          | inr this ↦
              let same : StoreFlag other to ≡ StoreFlag bucket (HeldBy number) =
              ap (λ (b : ℕ). StoreFlag b to) (sym this.0) ∙ ap (λ (f : FileFlag). StoreFlag bucket f) this.1 in
              never_stored (log_of queue.scene party events) process before here bucket slot lap number step there knows.sound
              knows.may
              (subst (λ (e : Event). IsStep (log_of queue.scene party events) process here e step there) same made) was
        ]

    empties_own : (other slot lap bucket goes_on next : ℕ) →
        IsMoment (Operates process party (EmptySlot other goes_on) ∷ acts) all →
        IsSlot before slot (Message lap bucket) → IsSlot (with_slot before other (Empty goes_on)) slot (Empty next) →
        MayEmpty before slot next
    empties_own other slot lap bucket goes_on next past was is =
        elim (slice_get-set before.slots other slot (Empty goes_on) (Empty next) is) [
          | inl stays ↦ absurd (no_empty before before slot lap bucket next refl was stays)
          | inr this ↦
              let relied = (relying (EmptySlot other goes_on) past).0.0 in
              let so : IsKnown before party relied.0 (Holds relied.2 (Has other relied.1)) =
              subst (λ (k : Known). IsKnown before party relied.0 k) relied.3 (knows.may.known relied.0) in
              let nexts : goes_on ≡ next = let words = this.1 in cc in
              λ found held has.
              let words = one_value before.slots slot (Message relied.1 relied.0) (Message found held)
              (ap (slice_get before.slots) this.0 ∙ so.2) has in
              let laps : relied.1 ≡ found = cc in
              sym nexts ∙ relied.4 ∙ ap (λ (l : ℕ). next_lap l) laps
        ]

    no_fill_by : (other slot lap goes_on found bucket : ℕ) → IsSlot before slot (Empty lap) →
        ¬ IsSlot (with_slot before other (Empty goes_on)) slot (Message found bucket)
    no_fill_by other slot lap goes_on found bucket was is =
        elim (slice_get-set before.slots other slot (Empty goes_on) (Message found bucket) is) [
          | inl stays ↦ no_fill before before slot lap found bucket refl was stays
          | inr this ↦ let words = this.1 in absurd (cc)
        ]

  -- an event that changes a flag or a slot obeys the rules
  event_obeys : (acts : List Act) (process party : ℕ) (event : Event) → IsMoment (Operates process party event ∷ acts) all →
      AreTrue queue.scene (Operates process party event ∷ acts) → Lives queue.scene (Operates process party event ∷ acts) →
      ActObeys queue acts (Operates process party event)
  event_obeys acts process party (ExchangeFlag other from to) past true_acts lives =
      let event : Event = ExchangeFlag other from to in
      let words : FileWords = words_after queue.scene acts in
      let made = last_made queue.scene process party event acts (λ none. none) lives in
      record {
        fill = λ slot lap found bucket its was is. absurd (no_fill words words slot lap found bucket refl was is);
        take = λ slot bucket lap number its was is.
            takes_bucket acts process party made.events true_acts.0 true_acts.2
            (lives_before queue.scene (Operates process party event) acts lives) made.session other slot bucket lap number
            from to past true_acts.1 its was is;
        empty = λ slot lap bucket next its was is. absurd (no_empty words words slot lap bucket next refl was is);
      }
  event_obeys acts process party (StoreFlag other to) past true_acts lives =
      let event : Event = StoreFlag other to in
      let words : FileWords = words_after queue.scene acts in
      let made = last_made queue.scene process party event acts (λ none. none) lives in
      record {
        fill = λ slot lap found bucket its was is. absurd (no_fill words words slot lap found bucket refl was is);
        take = λ slot bucket lap number its was is.
            absurd (stores_flag acts process party made.events true_acts.0 true_acts.2
            (lives_before queue.scene (Operates process party event) acts lives) made.session other slot bucket lap number to
            made.here made.there made.step made.made was is);
        empty = λ slot lap bucket next its was is. absurd (no_empty words words slot lap bucket next refl was is);
      }
  event_obeys acts process party (ExchangeSlot other from to) past true_acts lives =
      let event : Event = ExchangeSlot other from to in
      let words : FileWords = words_after queue.scene acts in
      let made = last_made queue.scene process party event acts (λ none. none) lives in
      let shorter = lives_before queue.scene (Operates process party event) acts lives in
      record {
        fill = λ slot lap found bucket its was is.
            fills_slot acts process party made.events true_acts.0 true_acts.2 shorter made.session other slot lap found bucket
            from to past true_acts.1 its was is;
        take = λ slot bucket lap number its was is. absurd (no_take words words bucket slot lap number refl was is);
        empty = λ slot lap bucket next its was is.
            empties_slot acts process party made.events true_acts.0 true_acts.2 shorter made.session other slot lap bucket next
            from to past true_acts.1 its was is;
      }
  event_obeys acts process party (EmptySlot other goes_on) past true_acts lives =
      let event : Event = EmptySlot other goes_on in
      let words : FileWords = words_after queue.scene acts in
      let made = last_made queue.scene process party event acts (λ none. none) lives in
      let shorter = lives_before queue.scene (Operates process party event) acts lives in
      record {
        fill = λ slot lap found bucket its was is.
            absurd (no_fill_by acts process party made.events true_acts.0 true_acts.2 shorter made.session other slot lap goes_on
            found bucket was is);
        take = λ slot bucket lap number its was is. absurd (no_take words words bucket slot lap number refl was is);
        empty = λ slot lap bucket next its was is.
            empties_own acts process party made.events true_acts.0 true_acts.2 shorter made.session other slot lap bucket goes_on
            next past was is;
      }
  event_obeys acts process party (StoreEntry bucket to) past true_acts lives =
      quiet queue acts (Operates process party (StoreEntry bucket to)) refl refl
  event_obeys acts process party (StoreLife to) past true_acts lives =
      quiet queue acts (Operates process party (StoreLife to)) refl refl
  event_obeys acts process party (LoadFlag bucket found) past true_acts lives =
      quiet queue acts (Operates process party (LoadFlag bucket found)) refl refl
  event_obeys acts process party (MissFlag bucket from) past true_acts lives =
      quiet queue acts (Operates process party (MissFlag bucket from)) refl refl
  event_obeys acts process party (LoadEntry bucket found) past true_acts lives =
      quiet queue acts (Operates process party (LoadEntry bucket found)) refl refl
  event_obeys acts process party (LoadSlot slot found) past true_acts lives =
      quiet queue acts (Operates process party (LoadSlot slot found)) refl refl
  event_obeys acts process party (MissSlot slot from) past true_acts lives =
      quiet queue acts (Operates process party (MissSlot slot from)) refl refl
  event_obeys acts process party (LoadLife found) past true_acts lives =
      quiet queue acts (Operates process party (LoadLife found)) refl refl

  act_obeys : (act : Act) (acts : List Act) → IsMoment (act ∷ acts) all → AreTrue queue.scene (act ∷ acts) →
      Lives queue.scene (act ∷ acts) → ActObeys queue acts act
  act_obeys (Operates process party event) acts past true_acts lives = event_obeys acts process party event past true_acts lives
  act_obeys (Locks process party) acts past true_acts lives = quiet queue acts (Locks process party) refl refl
  act_obeys (Unlocks process party) acts past true_acts lives = quiet queue acts (Unlocks process party) refl refl
  act_obeys (Dies process) acts past true_acts lives = quiet queue acts (Dies process) refl refl
  act_obeys (Frees process party) acts past true_acts lives = quiet queue acts (Frees process party) refl refl

  acts_obey : (acts : List Act) → IsMoment acts all → AreTrue queue.scene acts → Lives queue.scene acts → ActsObey queue acts
  acts_obey [] past true_acts lives = tt
  acts_obey (act ∷ acts) past true_acts lives = (
    act_obeys act acts past true_acts lives,
    acts_obey acts (moment_of acts (act ∷ acts) all (earlier act acts now) past) true_acts.2
        (lives_before queue.scene act acts lives),
  )

-- the acts of a run obey the rules of a queue if its processes do by recent looks
pub lives_obey : (queue : FileQueue) (acts : List Act) (taken : ℕ → List FileStep) (places : ℕ → Place) →
    IsRun queue.scene acts taken places → (obey : ProcessesObey queue acts) → AreRecent queue acts obey → ActsObey queue acts
lives_obey queue acts taken places run obey recent =
    acts_obey queue acts obey recent acts now run.true
    (λ process. record { taken = taken process; here = places process; life = run.lives process })
