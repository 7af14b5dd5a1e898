-- Receivers: walks over the messages of a queue, and what one of them takes.
use Rattle.bb_memory_file.proofs.FileQueueNotes.{can_since, noted_same, passed_can, passed_later, passed_since}
use Rattle.bb_memory_file.proofs.FileQueueSlots.{after_its, lap_after, lap_still}
use Rattle.bb_memory_file.proofs.FileQueueWalks.{happens_now, happens_on, happens_since, head_later, its_below, look_happened, look_later, look_now, looks_gets, looks_make, looks_moment, looks_on, looks_then, loses_look, moment_trans, same_party, same_scene, same_slot}
use Rattle.bb_memory_file.specs.FileCalls.{IsReceive, Received}
use Rattle.bb_memory_file.specs.FileCalls.received as received
use Rattle.bb_memory_file.specs.FileCode.{ExchangeFlag, FileLog, LoadEntry, LoadFlag, LoadSlot, MissFlag, StoreFlag, told}
use Rattle.bb_memory_file.specs.FileLog.{IsLap}
use Rattle.bb_memory_file.specs.FileNames.{Empty, HeldBy, In, Message, SentTo, Slot}
use Rattle.bb_memory_file.specs.FileNotes.{AreNoted}
use Rattle.bb_memory_file.specs.FileNotes.taken as taken
use Rattle.bb_memory_file.specs.FileQueueCalls.{AllObey, Grows, Happens, IsOver, IsReceipt, IsStray, IsWrong, Looks, Loses, NoneSent, Note, Taken, Unheld, back, beaten, nothing, older, stray, unbeaten}
use Rattle.bb_memory_file.specs.FileQueueLooks.{CanPass, CanTake, IsPosition, KnowsHead, Look, Position, Queue, over, position_after, position_on, queue_in}
use Rattle.bb_memory_file.specs.FileQueueSteps.{FindsOldest, HasBegun, LooksAt, Passed, PassesOn, Stop, Walks, was_over}
use Rattle.bb_memory_file.specs.FileQueueSteps.look as look
use Rattle.bb_memory_file.specs.FileQueueSteps.oldest as oldest
use Rattle.bb_memory_file.specs.FileQueueSteps.walked as walked
use Rattle.bb_memory_file_machine.specs.FileMachine.{FileScene}
use Rattle.bb_memory_file_machine.specs.FileQueues.{FileQueue, IsLater, IsMoment, IsSlotOf, IsWhole, earlier, lap_before, lap_said, now}
use Rattle.std.proofs.Common.{Bool, List, Some, [], ap, arith, false, inl, inr, refl, subst, sym, true, ℕ, ◌+◌, ◌/◌, ◌<◌, ◌∙◌, ◌∷◌, ◌≡◌, ◌≢◌, ◌≤◌, ◌⊎◌}
use Rattle.std.proofs.lemmas.Bool.{eqb-false, eqb-true}
use Rattle.std.specs.Prelude.{slice_get, suc, zero, ◌==◌, ◌^◌}

-- WALKS

-- The receiver has passed so many messages from the head on.
pub record Walking (queue : FileQueue) (notes : List Note) (old : FileLog) (head : Position) (count : ℕ) (position : Position)
    (log : FileLog) : Type 0 where
  pub seen : Looks old log
  pub noted : AreNoted log notes
  pub at : position ≡ position_on queue head count
  pub its : IsPosition queue position
  pub passed : (less : ℕ) → less < count →
      Passed notes log.events old.events (position_on queue head less).slot (position_on queue head less).lap

pub walking_begins : (queue : FileQueue) (notes : List Note) (old : FileLog) (head : Position) → AreNoted old notes →
    IsPosition queue head → Walking queue notes old head 0 head old
walking_begins queue notes old head noted its = record {
  seen = nothing;
  noted = noted;
  at = refl;
  its = its;
  passed = λ less below. absurd (omega (arith, below));
}

module _ (queue : FileQueue) (notes : List Note) (old : FileLog) (head : Position) (count : ℕ) (position : Position) (log : FileLog)
    (walking : Walking queue notes old head count position log) where
  pub walking_below : IsWhole queue → 0 < queue.depth → queue.scene ≡ old.scene → position.slot < log.scene.slots
  walking_below whole positive scene =
      subst (λ (s : FileScene). position.slot < s.slots) (scene ∙ sym (same_scene old log walking.seen))
      (its_below queue whole positive position.slot walking.its.0)

  pub walking_ends : PassesOn old.party queue head count old.events log.events
  walking_ends less below =
      subst (λ (p : ℕ). CanPass p log.events old.events (position_on queue head less).slot (position_on queue head less).lap)
      (same_party old log walking.seen)
      (passed_can log notes old.events (position_on queue head less).slot (position_on queue head less).lap walking.noted
      (walking.passed less below))

  module _ (one : FileLog) (word : Slot) (is : one ≡ told log (LoadSlot position.slot word)) where
    one_seen : Looks old one
    one_seen = looks_then old log walking.seen one (LoadSlot position.slot word) tt is

    one_past : IsMoment log.events one.events
    one_past = subst (λ (l : FileLog). IsMoment log.events l.events) (sym is)
        (earlier (LoadSlot position.slot word) log.events now)

    pub one_noted : AreNoted one notes
    one_noted = noted_same log one notes (ap (λ (l : FileLog). l.scene) is) (same_slot log one position.slot word is) walking.noted

    pub one_look : Look one.events position.slot word
    one_look = subst (λ (l : FileLog). Look l.events position.slot word) (sym is) (look_now log.events position.slot word)

    one_happened : Happens old.events one.events (LoadSlot position.slot word)
    one_happened = subst (λ (l : FileLog). Happens old.events l.events (LoadSlot position.slot word)) (sym is)
        (happens_now old.events log.events (LoadSlot position.slot word) (looks_moment old log walking.seen))

    module _ (new : FileLog) (since : Looks one new) (noted : AreNoted new notes) where
      new_seen : Looks old new
      new_seen = looks_on old one one_seen new since

      new_past : IsMoment log.events new.events
      new_past = moment_trans log.events one.events new.events one_past (looks_moment one new since)

      pub at_new : Happens old.events new.events (LoadSlot (position_on queue head count).slot word)
      at_new = subst (λ p. Happens old.events new.events (LoadSlot p.slot word)) walking.at
          (happens_on old.events one.events new.events (LoadSlot position.slot word) (looks_moment one new since) one_happened)

      pub seen_new : Looks old new
      seen_new = new_seen

      -- the receiver passes this message, too
      pub walking_on : 0 < queue.depth → (next : Position) → next ≡ position_after queue position →
          Passed notes new.events old.events position.slot position.lap → Walking queue notes old head (count + 1) next new
      walking_on positive next after passed =
          let one' : suc count ≡ count + 1 = omega arith in
          record {
            seen = new_seen;
            noted = noted;
            at = after ∙ ap (λ p. position_after queue p) walking.at ∙ ap (position_on queue head) one';
            its = subst (λ p. IsPosition queue p) (sym after) (after_its queue positive position walking.its);
            passed = λ less below. by_step less below (less == count) refl;
          }
        where
          by_step : (less : ℕ) → less < count + 1 → (here : Bool) → (less == count) ≡ here →
              Passed notes new.events old.events (position_on queue head less).slot (position_on queue head less).lap
          by_step less below true e =
              subst (λ n. Passed notes new.events old.events (position_on queue head n).slot (position_on queue head n).lap)
              (sym (eqb-true less count e))
              (subst (λ (p : Position). Passed notes new.events old.events p.slot p.lap) walking.at passed)
          by_step less below false e =
              let apart = eqb-false less count e in
              passed_later notes log.events new.events old.events (position_on queue head less).slot
              (position_on queue head less).lap new_past (walking.passed less (omega (arith, below, apart)))

      passes_new : PassesOn old.party queue head count old.events new.events
      passes_new less below =
          subst (λ (p : ℕ). CanPass p new.events old.events (position_on queue head less).slot (position_on queue head less).lap)
          (same_party old new new_seen)
          (passed_can new notes old.events (position_on queue head less).slot (position_on queue head less).lap noted
          (passed_later notes log.events new.events old.events (position_on queue head less).slot
          (position_on queue head less).lap new_past (walking.passed less below)))

      -- it passes the message, since a look at the message says so
      pub passed_look : Passed notes new.events one.events position.slot position.lap →
          Passed notes new.events old.events position.slot position.lap
      passed_look passed =
          passed_since notes new.events old.events one.events position.slot position.lap (looks_moment old one one_seen) passed

      pub passed_over : IsOver position.lap word → Passed notes new.events old.events position.slot position.lap
      passed_over later =
          was_over word (look_later one.events new.events position.slot word (looks_moment one new since) one_look) later

      module _ (slots : ℕ) (less : count < slots) where
        pub walk_sent : (bucket : ℕ) → LooksAt notes one position word (look.Sent bucket) new →
            Walks old.party queue notes old head slots (walked.Sent position bucket count) new
        walk_sent bucket (message, unheld, told') = (
          less,
          walking.at,
          unheld,
          look_later one.events new.events position.slot (Message position.lap bucket) (looks_moment one new since)
              (subst (λ w. Look one.events position.slot w) message one_look),
          subst (λ (l : FileLog). Happens old.events l.events (LoadFlag bucket (SentTo position.slot position.lap))) (sym told')
              (happens_now old.events one.events (LoadFlag bucket (SentTo position.slot position.lap))
              (looks_moment old one one_seen)),
          passes_new,
        )

        pub walk_empty : LooksAt notes one position word look.Empty new →
            Walks old.party queue notes old head slots walked.End new
        walk_empty empty = (
          count,
          less,
          passes_new,
          subst (λ w. Happens old.events new.events (LoadSlot (position_on queue head count).slot w))
              (empty ∙ ap (λ (p : Position). Empty p.lap) walking.at) at_new,
        )

        pub walk_wrong : (¬ IsOver position.lap word) → LooksAt notes one position word look.Wrong new →
            Walks old.party queue notes old head slots walked.Wrong new
        walk_wrong not (inl apart) = (
          count,
          less,
          word,
          at_new,
          inl (
            subst (λ (p : Position). lap_said word ≢ p.lap) walking.at apart,
            subst (λ (p : Position). ¬ IsOver p.lap word) walking.at not,
          ),
        )
        walk_wrong not (inr (bucket, message, strays)) = (
          count,
          less,
          word,
          at_new,
          inr (bucket, message ∙ ap (λ (p : Position). Message p.lap bucket) walking.at, strays),
        )

-- TAKES

-- the receiver may take the oldest message
pub head_can_take : (queue : FileQueue) (log : FileLog) (head : Position) (bucket : ℕ) → KnowsHead queue log.events head →
    Look log.events head.slot (Message head.lap bucket) → CanTake log.party queue log.events head.slot bucket head.lap
head_can_take queue log head bucket knows seen = record {
  look = seen;
  others = λ other its apart. let known = knows.1 other its in over known.0 known.1 known.2;
}

module _ (queue : FileQueue) (one : FileLog) (scene : queue.scene ≡ one.scene) (slot lap bucket size : ℕ) (its : IsSlotOf queue slot)
    (can : CanTake one.party queue one.events slot bucket lap) where
  can_number : (number : ℕ) → slot / queue.depth ≡ number →
      CanTake one.party (record { scene = one.scene; number = number; depth = queue.depth }) one.events slot bucket lap
  can_number number there = subst (λ (n : ℕ). CanTake one.party (record { scene = one.scene; number = n; depth = queue.depth })
      one.events slot bucket lap) (sym its ∙ there)
      (subst (λ (s : FileScene). CanTake one.party (record { scene = s; number = queue.number; depth = queue.depth })
      one.events slot bucket lap) scene can)

  -- a take obeys the rules
  pub take_obeys : (answer : Received) (new : FileLog) → IsReceive 0 one slot lap bucket size answer new → AllObey queue.depth one →
      AllObey queue.depth new
  take_obeys received.NotSent new did obey = subst (λ (log : FileLog). AllObey queue.depth log) (sym did.1)
      (λ number. (tt, obey number))
  take_obeys received.Wrong new did obey = subst (λ (log : FileLog). AllObey queue.depth log) (sym did.3)
      (λ number. (tt, (tt, ((λ there. can_number number there), obey number))))
  take_obeys (received.Message length) new did obey = subst (λ (log : FileLog). AllObey queue.depth log) (sym did.2)
      (λ number. (tt, ((λ there. can_number number there), obey number)))

pub receive_grows : (one : FileLog) (slot lap bucket size : ℕ) (answer : Received) (new : FileLog) →
    IsReceive 0 one slot lap bucket size answer new → Grows one new
receive_grows one slot lap bucket size received.NotSent new did = (MissFlag bucket (SentTo slot lap) ∷ [], did.1)
receive_grows one slot lap bucket size received.Wrong new did = (
  StoreFlag bucket (SentTo slot lap) ∷ LoadEntry bucket did.0 ∷ ExchangeFlag bucket (SentTo slot lap) (HeldBy one.party) ∷ [],
  did.3,
)
receive_grows one slot lap bucket size (received.Message length) new did =
    (LoadEntry bucket (In slot length) ∷ ExchangeFlag bucket (SentTo slot lap) (HeldBy one.party) ∷ [], did.2)

-- RECEIPTS

positions_its : (queue : FileQueue) → 0 < queue.depth → (head : Position) → IsPosition queue head → (count : ℕ) →
    IsPosition queue (position_on queue head count)
positions_its queue positive head its zero = its
positions_its queue positive head its (suc count) =
    after_its queue positive (position_on queue head count) (positions_its queue positive head its count)

module _ (queue : FileQueue) (notes : List Note) (size : ℕ) (begun : FileLog) where
  -- the receiver has taken a message
  pub receipt_message : (one : FileLog) (slot lap bucket length : ℕ) (new : FileLog) → Looks begun one → IsSlotOf queue slot →
      slice_get notes bucket ≡ Some Unheld → CanTake one.party queue one.events slot bucket lap →
      ((process : ℕ) → IsReceive process one slot lap bucket size (received.Message length) new) →
      (process : ℕ) → IsReceipt process begun notes queue size (taken.Message bucket length) new
  receipt_message one slot lap bucket length new seen its unheld can did process =
      (slot, lap, one, looks_gets begun one seen, looks_make begun process one seen, its, unheld, can, did process)

  pub receipt_unfit : (one : FileLog) (slot lap bucket : ℕ) (new : FileLog) → Looks begun one → IsSlotOf queue slot →
      ((process : ℕ) → IsReceive process one slot lap bucket size received.Wrong new) →
      (process : ℕ) → IsReceipt process begun notes queue size taken.Wrong new
  receipt_unfit one slot lap bucket new seen its did process =
      inr (slot, lap, bucket, one, looks_gets begun one seen, looks_make begun process one seen, its, did process)

  pub receipt_wrong : (new : FileLog) → Looks begun new → IsWrong notes queue begun.events new.events →
      (process : ℕ) → IsReceipt process begun notes queue size taken.Wrong new
  receipt_wrong new seen wrong process = inl (looks_make begun process new seen, wrong)

  pub receipt_lost : (new : FileLog) → Loses queue begun (2 ^ 16) new →
      (process : ℕ) → IsReceipt process begun notes queue size taken.NotSent new
  receipt_lost new lost process = (looks_make begun process new (loses_look queue begun (2 ^ 16) new lost), inr lost)

  pub receipt_empty : (stop : Stop) (new : FileLog) (lap : ℕ) → FindsOldest queue begun (oldest.At stop) new → stop.word ≡ Empty lap →
      (process : ℕ) → IsReceipt process begun notes queue size taken.Empty new
  receipt_empty stop new lap (before, seen, knows, is, at) empty process = (
    stop.position,
    before,
    looks_gets begun before seen,
    knows,
    is ∙ ap (λ word. told before (LoadSlot stop.position.slot word)) (empty ∙ ap (λ l. Empty l) (sym (ap lap_said empty) ∙ at)),
    looks_make begun process new (looks_then begun before seen new (LoadSlot stop.position.slot stop.word) tt is),
  )

-- a receiver that has come to the oldest message, and has looked further
module _ (queue : FileQueue) (notes : List Note) (begun : FileLog) (head : Position) (old : FileLog)
    (has : HasBegun queue begun head old) where
  module _ (new : FileLog) (since : Looks old new) where
    pub begun_seen : Looks begun new
    begun_seen = looks_on begun old has.0 new since

    pub new_after : IsMoment old.events new.events
    new_after = looks_moment old new since

    abbrev pub begun_on : HasBegun queue begun head new
    begun_on = (
      begun_seen,
      head_later queue old.events new.events head new_after has.1,
      (has.2.0, happens_on begun.events old.events new.events (LoadSlot head.slot (Message head.lap has.2.0)) new_after has.2.1),
    )

    -- from a later moment on
    module _ (last : FileLog) (further : Looks new last) where
      last_after : IsMoment new.events last.events
      last_after = looks_moment new last further

      last_seen : Looks begun last
      last_seen = looks_on begun new begun_seen last further

      none_sent : (count : ℕ) → count ≤ queue.depth → PassesOn new.party queue head count new.events last.events →
          ((count ≡ queue.depth) ⊎ Happens new.events last.events
          (LoadSlot (position_on queue head count).slot (Empty (position_on queue head count).lap))) →
          NoneSent begun.party queue begun.events last.events
      none_sent count most passes end = record {
        head = head;
        bucket = has.2.0;
        first = head_later queue new.events last.events head last_after begun_on.1;
        message = happens_on begun.events new.events last.events (LoadSlot head.slot (Message head.lap has.2.0)) last_after begun_on.2.1;
        count = count;
        most = most;
        passed = λ less below.
            subst (λ (p : ℕ). CanPass p last.events begun.events (position_on queue head less).slot (position_on queue head less).lap)
            (same_party begun new begun_seen)
            (can_since new.party last.events begun.events new.events (position_on queue head less).slot
            (position_on queue head less).lap (looks_moment begun new begun_seen) (passes less below));
        end = elim end [
          | inl all ↦ inl all
          | inr seen ↦ inr (happens_since begun.events new.events last.events (LoadSlot (position_on queue head count).slot
              (Empty (position_on queue head count).lap)) (looks_moment begun new begun_seen) seen)
        ];
      }

      -- a walk that has found nothing
      pub walked_none : (size : ℕ) → Walks new.party queue notes new head queue.depth walked.Passed last →
          (process : ℕ) → IsReceipt process begun notes queue size taken.NotSent last
      walked_none size passes process =
          (looks_make begun process last last_seen, inl (none_sent queue.depth (omega arith) passes (inl refl)))

      pub walked_end : (size slots : ℕ) → slots ≤ queue.depth → Walks new.party queue notes new head slots walked.End last →
          (process : ℕ) → IsReceipt process begun notes queue size taken.NotSent last
      walked_end size slots most (count, less, passes, seen) process =
          (looks_make begun process last last_seen, inl (none_sent count (omega (arith, less, most)) passes (inr seen)))

      pub walked_wrong : (size slots : ℕ) → 0 < queue.depth → slots ≤ queue.depth →
          Walks new.party queue notes new head slots walked.Wrong last →
          (process : ℕ) → IsReceipt process begun notes queue size taken.Wrong last
      walked_wrong size slots positive most (count, less, word, seen, why) process = inl (
        looks_make begun process last last_seen,
        elim why [
          | inl gone ↦
              back head count (Message head.lap has.2.0) word new.events (omega (arith, less, most)) begun_on.1 begun_on.2.1 refl
              last_after seen gone.0 gone.1
          | inr (bucket, message, is) ↦
              stray (position_on queue head count).slot (position_on queue head count).lap bucket
              (positions_its queue positive head has.1.0 count).0
              (subst (λ w. Happens begun.events last.events (LoadSlot (position_on queue head count).slot w)) message
              (happens_since begun.events new.events last.events (LoadSlot (position_on queue head count).slot word)
              (looks_moment begun new begun_seen) seen)) is
        ],
      )

-- THE FIRST MESSAGE THAT IS SENT

-- A message that comes before this position is one that the walk has come by, or comes before the head.
abbrev ComesBefore : FileQueue → Position → ℕ → ℕ → Type 0
ComesBefore queue head count other =
    ((less : ℕ) × (less < count) × ((position_on queue head less).slot ≡ other)
    × (lap_before (position_on queue head count).lap (position_on queue head count).slot other ≡ (position_on queue head less).lap))
    ⊎ (lap_before (position_on queue head count).lap (position_on queue head count).slot other
    ≡ lap_before head.lap head.slot other)

module _ (queue : FileQueue) (positive : 0 < queue.depth) (head : Position) (its : IsPosition queue head) where
  before_by : (count other : ℕ) → IsSlotOf queue other → (same : Bool) → (other == (position_on queue head count).slot) ≡ same →
      (other ≢ (position_on queue head count).slot → ComesBefore queue head count other) → ComesBefore queue head (suc count) other
  before_by count other others true e rest =
      let at = eqb-true other (position_on queue head count).slot e in
      inl (
        count,
        omega arith,
        sym at,
        ap (λ s. lap_before (position_on queue head (suc count)).lap (position_on queue head (suc count)).slot s) at
            ∙ lap_after queue positive (position_on queue head count) (positions_its queue positive head its count),
      )
  before_by count other others false e rest =
      let away = eqb-false other (position_on queue head count).slot e in
      let still = lap_still queue positive (position_on queue head count) (positions_its queue positive head its count) other others
      away in
      elim (rest away) [
        | inl known ↦ (let below = known.1 in inl (known.0, omega (arith, below), known.2, still ∙ known.3))
        | inr lap ↦ inr (still ∙ lap)
      ]

  before_position : (count other : ℕ) → IsSlotOf queue other → other ≢ (position_on queue head count).slot →
      ComesBefore queue head count other
  before_position zero other others apart = inr refl
  before_position (suc count) other others apart =
      before_by count other others (other == (position_on queue head count).slot) refl (before_position count other others)

module _ (queue : FileQueue) (positive : 0 < queue.depth) (notes : List Note) (old : FileLog) (head : Position)
    (knows : KnowsHead queue old.events head) (position : Position) (bucket count : ℕ) (one : FileLog) (first : Looks old one)
    (sent : Walks old.party queue notes old head queue.depth (walked.Sent position bucket count) one) (two : FileLog)
    (second : Looks one two) where
  two_seen : Looks old two
  two_seen = looks_on old one first two second

  pub sent_its : IsSlotOf queue position.slot
  sent_its = subst (λ (p : Position). IsSlotOf queue p.slot) (sym sent.1) (positions_its queue positive head knows.0 count).0

  pub sent_lap : IsLap position.lap
  sent_lap = subst (λ (p : Position). IsLap p.lap) (sym sent.1) (positions_its queue positive head knows.0 count).1

  pub sent_seen : Looks old two
  sent_seen = two_seen

  -- another party has taken the message
  pub sent_beaten : (new : FileLog) → new ≡ told two (MissFlag bucket (SentTo position.slot position.lap)) → Loses queue old 1 new
  sent_beaten new is = subst (λ log. Loses queue old 1 log) (sym is)
      (beaten 0 old two position.slot position.lap bucket unbeaten two_seen sent_its
      (happens_on old.events one.events two.events (LoadFlag bucket (SentTo position.slot position.lap)) (looks_moment one two second)
      sent.4))

  -- an older message is sent, too
  pub sent_older : (older_at : Position) (other less : ℕ) →
      Walks one.party queue notes one head count (walked.Sent older_at other less) two → Loses queue old 1 two
  sent_older older_at other less also =
      older 0 old two one.events head count less bucket other unbeaten two_seen also.0 sent.0 (sent.5 less also.0)
      (subst (λ (p : Position). Happens old.events one.events (LoadFlag bucket (SentTo p.slot p.lap))) sent.1 sent.4)
      (subst (λ (p : Position). Happens one.events two.events (LoadFlag other (SentTo p.slot p.lap))) also.1 also.4)

  abbrev sent_look : Look two.events position.slot (Message position.lap bucket)
  sent_look = look_later one.events two.events position.slot (Message position.lap bucket) (looks_moment one two second) sent.3

  -- the receiver may take the message, as no older one is sent
  pub sent_can : PassesOn one.party queue head count one.events two.events →
      CanTake two.party queue two.events position.slot bucket position.lap
  sent_can passes = record {
    look = sent_look;
    others = λ other its apart. elim (before_position queue positive head knows.0 count other its
        (λ at. apart (at ∙ sym (ap (λ (p : Position). p.slot) sent.1)))) [
          | inl (less, below, at, lap) ↦
              subst (λ l. CanPass two.party two.events (sent.3.event ∷ sent.3.before) other l)
              (sym (ap (λ (p : Position). lap_before p.lap p.slot other) sent.1 ∙ lap))
              (subst (λ s. CanPass two.party two.events (sent.3.event ∷ sent.3.before) s (position_on queue head less).lap) at
              (subst (λ (p : ℕ). CanPass p two.events (sent.3.event ∷ sent.3.before) (position_on queue head less).slot
              (position_on queue head less).lap) (sym (same_party one two second))
              (can_since one.party two.events (sent.3.event ∷ sent.3.before) one.events (position_on queue head less).slot
              (position_on queue head less).lap sent.3.past (passes less below))))
          | inr lap ↦
              let known = knows.1 other its in
              over known.0 (look_later old.events two.events other known.0 (looks_moment old two two_seen) known.1)
              (subst (λ l. IsLater l (lap_said known.0))
              (sym (ap (λ (p : Position). lap_before p.lap p.slot other) sent.1 ∙ lap)) known.2)
        ];
  }

-- THE SCENE

pub receipt_as : (one other : FileScene) (queue : Queue) (begun : FileLog) (notes : List Note) (size : ℕ) (answer : Taken)
    (new : FileLog) → one ≡ other →
    ((process : ℕ) → IsReceipt process begun notes (queue_in one queue) size answer new) →
    (process : ℕ) → IsReceipt process begun notes (queue_in other queue) size answer new
receipt_as one other queue begun notes size answer new same says process =
    subst (λ scene. IsReceipt process begun notes (queue_in scene queue) size answer new) same (says process)

pub loses_as : (one other : FileScene) (queue : Queue) (old : FileLog) (count : ℕ) (new : FileLog) → one ≡ other →
    Loses (queue_in one queue) old count new → Loses (queue_in other queue) old count new
loses_as one other queue old count new same lost = subst (λ scene. Loses (queue_in scene queue) old count new) same lost

-- THE OLDEST MESSAGE

module _ (queue : FileQueue) (begun : FileLog) (stop : Stop) (old : FileLog)
    (found : FindsOldest queue begun (oldest.At stop) old) where
  oldest_seen : Looks begun old
  oldest_seen = looks_then begun found.0 found.1 old (LoadSlot stop.position.slot stop.word) tt found.3

  pub seen_oldest : Looks begun old
  seen_oldest = oldest_seen

  oldest_past : IsMoment found.0.events old.events
  oldest_past = subst (λ (l : FileLog). IsMoment found.0.events l.events) (sym found.3)
      (earlier (LoadSlot stop.position.slot stop.word) found.0.events now)

  oldest_happened : Happens begun.events old.events (LoadSlot stop.position.slot stop.word)
  oldest_happened = subst (λ (l : FileLog). Happens begun.events l.events (LoadSlot stop.position.slot stop.word)) (sym found.3)
      (happens_now begun.events found.0.events (LoadSlot stop.position.slot stop.word) (looks_moment begun found.0 found.1))

  pub oldest_head : KnowsHead queue old.events stop.position
  oldest_head = head_later queue found.0.events old.events stop.position oldest_past found.2

  pub oldest_look : Look old.events stop.position.slot stop.word
  oldest_look = look_happened begun.events old.events stop.position.slot stop.word oldest_happened

  module _ (lap bucket : ℕ) (is : stop.word ≡ Message lap bucket) where
    pub oldest_message : stop.word ≡ Message stop.position.lap bucket
    oldest_message = is ∙ ap (λ l. Message l bucket) (sym (ap lap_said is) ∙ found.4)

    message_happened : Happens begun.events old.events (LoadSlot stop.position.slot (Message stop.position.lap bucket))
    message_happened = subst (λ w. Happens begun.events old.events (LoadSlot stop.position.slot w)) oldest_message oldest_happened

    pub oldest_begun : HasBegun queue begun stop.position old
    oldest_begun = (oldest_seen, oldest_head, (bucket, message_happened))

    pub oldest_stray : (notes : List Note) (size : ℕ) → IsStray (slice_get notes bucket) →
        (process : ℕ) → IsReceipt process begun notes queue size taken.Wrong old
    oldest_stray notes size strays = receipt_wrong queue notes size begun old oldest_seen
        (stray stop.position.slot stop.position.lap bucket found.2.0.0 message_happened strays)

-- the message at the head, as a load found it
pub head_message : (word : Slot) (lap bucket at : ℕ) → word ≡ Message lap bucket → lap_said word ≡ at → word ≡ Message at bucket
head_message word lap bucket at is same = is ∙ ap (λ l. Message l bucket) (sym (ap lap_said is) ∙ same)
