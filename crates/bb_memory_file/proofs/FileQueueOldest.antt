-- Where a receiver finds that a queue begins.
use Rattle.bb_memory_file.proofs.FileQueueWalks.{happens_now, happens_since, looks_moment, looks_on, loses_look, passes_first, passes_head, passes_look, passes_to, same_scene, stops_look}
use Rattle.bb_memory_file.specs.FileCode.{Event, FileLog, LoadSlot, MissFlag, told}
use Rattle.bb_memory_file.specs.FileNames.{Message, SentTo, Slot}
use Rattle.bb_memory_file.specs.FileQueueCalls.{Happens, IsOver, IsWrong, Looks, Loses, Note, Passes, back, beaten, far, moves_on, older, overtaken, round, searched, stray, unbeaten}
use Rattle.bb_memory_file.specs.FileQueueLooks.{KnowsHead, Position, Queue, position_after, position_on, queue_in}
use Rattle.bb_memory_file.specs.FileQueueSteps.{FindsHead, FindsOldest, Oldest, Stop, StopsAt}
use Rattle.bb_memory_file.specs.FileQueueSteps.oldest as oldest
use Rattle.bb_memory_file_machine.specs.FileMachine.{FileScene}
use Rattle.bb_memory_file_machine.specs.FileQueues.{FileQueue, IsMoment, lap_said, now}
use Rattle.std.proofs.Common.{Bool, List, None, Option, Some, ap, arith, false, inl, inr, refl, subst, sym, true, ℕ, ◌+◌, ◌<◌, ◌∙◌, ◌≡◌, ◌≢◌}
use Rattle.std.proofs.lemmas.Bool.{ltb-false, ltb-true}
use Rattle.std.specs.Prelude.{nat_lt, ◌^◌}

-- SINCE AN EARLIER MOMENT

pub wrong_since : (notes : List Note) (queue : FileQueue) (first moment events : List Event) → IsMoment first moment →
    IsWrong notes queue moment events → IsWrong notes queue first events
wrong_since notes queue first moment events past (back head count one word before most knows seen is since later apart not) =
    back head count one word before most knows (happens_since first moment before (LoadSlot head.slot one) past seen) is since later
    apart not
wrong_since notes queue first moment events past (round head over word before its seen is later apart not) =
    round head over word before its (happens_since first moment before (LoadSlot head.slot over) past seen) is later apart not
wrong_since notes queue first moment events past (stray slot lap bucket its seen is) =
    stray slot lap bucket its (happens_since first moment events (LoadSlot slot (Message lap bucket)) past seen) is
wrong_since notes queue first moment events past (far slot other one two its others seen also is) =
    far slot other one two its others (happens_since first moment events (LoadSlot slot one) past seen)
    (happens_since first moment events (LoadSlot other two) past also) is

module _ (queue : FileQueue) (old middle : FileLog) (count : ℕ) (before : Loses queue old count middle) where
  pub loses_on : (more : ℕ) (new : FileLog) → Loses queue middle more new → Loses queue old (more + count) new
  loses_on _ _ unbeaten = let none : count ≡ 0 + count = omega arith in subst (λ (n : ℕ). Loses queue old n middle) none before
  loses_on _ _ (searched more log new rest since) = searched (more + count) log new (loses_on more log rest) since
  loses_on _ _ (overtaken more log start from first new to rest since seen lap knows passes) =
      let one : (more + count) + 1 ≡ (more + 1) + count = omega arith in
      subst (λ (n : ℕ). Loses queue old n new) one
      (overtaken (more + count) log start from first new to (loses_on more log rest) since seen lap knows passes)
  loses_on _ _ (beaten more log last slot lap bucket rest since its sent) =
      let one : (more + count) + 1 ≡ (more + 1) + count = omega arith in
      subst (λ (n : ℕ). Loses queue old n (told last (MissFlag bucket (SentTo slot lap)))) one
      (beaten (more + count) log last slot lap bucket (loses_on more log rest) since its sent)
  loses_on _ _ (older more log new between head high low bucket other rest since fewer most pass sent also) =
      let one : (more + count) + 1 ≡ (more + 1) + count = omega arith in
      subst (λ (n : ℕ). Loses queue old n new) one
      (older (more + count) log new between head high low bucket other (loses_on more log rest) since fewer most pass sent also)

pub oldest_since : (queue : FileQueue) (old one : FileLog) (found : Oldest) (new : FileLog) → Looks old one →
    FindsOldest queue one found new → FindsOldest queue old found new
oldest_since queue old one (oldest.At stop) new seen (before, since, knows, is, lap) =
    (before, looks_on old one seen before since, knows, is, lap)
oldest_since queue old one oldest.Wrong new seen (since, wrong) = (
  looks_on old one seen new since,
  (λ notes. wrong_since notes queue old.events one.events new.events (looks_moment old one seen) (wrong notes)),
)
oldest_since queue old one oldest.Overtaken new seen lost =
    let all : 2 ^ 16 + 0 ≡ 2 ^ 16 = omega arith in
    subst (λ (n : ℕ). Loses queue old n new) all (loses_on queue old one 0 (searched 0 old one unbeaten seen) (2 ^ 16) new lost)

-- THE SCENE

pub found_head_as : (one other : FileScene) (queue : Queue) (old : FileLog) (found : Option Position) (new : FileLog) → one ≡ other →
    FindsHead (queue_in one queue) old found new → FindsHead (queue_in other queue) old found new
found_head_as one other queue old found new same finds = subst (λ scene. FindsHead (queue_in scene queue) old found new) same finds

pub found_oldest_as : (one other : FileScene) (queue : Queue) (old : FileLog) (found : Oldest) (new : FileLog) → one ≡ other →
    FindsOldest (queue_in one queue) old found new → FindsOldest (queue_in other queue) old found new
found_oldest_as one other queue old found new same finds = subst (λ scene. FindsOldest (queue_in scene queue) old found new) same finds

-- A WALK FROM THE HEAD

module _ (queue : FileQueue) (positive : 0 < queue.depth) (old : FileLog) (head : Position) (knows : KnowsHead queue old.events head)
    (stop : Stop) (new : FileLog) (stops : StopsAt IsOver queue old head stop new) where
  pub head_at : lap_said stop.word ≡ stop.position.lap → FindsOldest queue old (oldest.At stop) new
  head_at lap = (
    stops.1,
    passes_look IsOver queue old head stops.0 stops.1 stop.position stops.3,
    passes_head queue positive old head knows stops.0 stops.1 stop.position stops.3,
    stops.4,
    lap,
  )

  walked : Looks old stops.1
  walked = passes_look IsOver queue old head stops.0 stops.1 stop.position stops.3

  -- the slot went back
  pub head_back : (first : Slot) (begun : List Event) → IsMoment begun old.events →
      Happens begun old.events (LoadSlot head.slot first) → lap_said first ≡ head.lap →
      lap_said stop.word ≢ stop.position.lap → ¬ IsOver stop.position.lap stop.word →
      (notes : List Note) → IsWrong notes queue begun new.events
  head_back first begun since seen lap apart not notes = by_count (nat_lt stops.0 queue.depth) refl
    where
      at : stop.position ≡ position_on queue head stops.0
      at = passes_to IsOver queue old head stops.0 stops.1 stop.position stops.3

      found : (moment : List Event) → IsMoment moment stops.1.events →
          Happens moment new.events (LoadSlot stop.position.slot stop.word)
      found moment past = subst (λ (l : FileLog). Happens moment l.events (LoadSlot stop.position.slot stop.word)) (sym stops.4)
          (happens_now moment stops.1.events (LoadSlot stop.position.slot stop.word) past)

      by_count : (less : Bool) → nat_lt stops.0 queue.depth ≡ less → IsWrong notes queue begun new.events
      by_count true e =
          back head stops.0 first stop.word old.events (ltb-true stops.0 queue.depth e) knows seen lap
          (looks_moment old new (stops_look IsOver queue old head stop new stops))
          (subst (λ (p : Position). Happens old.events new.events (LoadSlot p.slot stop.word)) at
          (found old.events (looks_moment old stops.1 walked)))
          (subst (λ (p : Position). lap_said stop.word ≢ p.lap) at apart)
          (subst (λ (p : Position). ¬ IsOver p.lap stop.word) at not)
      by_count false e =
          let beyond = ltb-false stops.0 queue.depth e in
          let most = stops.2 in
          let all : stops.0 ≡ queue.depth = omega (arith, beyond, most) in
          let there = at ∙ ap (position_on queue head) all in
          let past = passes_first IsOver queue old head stops.0 stops.1 stop.position stops.3 (omega (arith, positive, beyond)) in
          round head past.0 stop.word stops.1.events knows.0.0
          (happens_since begun old.events stops.1.events (LoadSlot head.slot past.0) since past.1) past.2
          (subst (λ (p : Position). Happens stops.1.events new.events (LoadSlot p.slot stop.word)) there (found stops.1.events now))
          (subst (λ (p : Position). lap_said stop.word ≢ p.lap) there apart)
          (subst (λ (p : Position). ¬ IsOver p.lap stop.word) there not)

  -- each message was over
  pub head_round : (begun middle : FileLog) (count : ℕ) (first : Slot) → Loses queue begun count middle → Looks middle old →
      Happens middle.events old.events (LoadSlot head.slot first) → lap_said first ≡ head.lap →
      IsOver stop.position.lap stop.word → Loses queue begun (count + 1) new
  head_round begun middle count first lost since seen lap over = elim stops.6 [
    | inl not ↦ absurd (not over)
    | inr all ↦
        overtaken count middle old head first new (position_after queue stop.position) lost since seen lap knows
        (subst (λ n. Passes IsOver queue old head (n + 1) new (position_after queue stop.position)) all
        (subst (λ log. Passes IsOver queue old head (stops.0 + 1) log (position_after queue stop.position)) (sym stops.4)
        (moves_on stops.0 stops.1 stop.position stop.word stops.3 over)))
  ]

-- ANEW

module _ (queue : FileQueue) (old middle : FileLog) (count : ℕ) (lost : Loses queue old count middle) (one : FileLog)
    (since : Looks middle one) where
  anew_seen : Looks old one
  anew_seen = looks_on old middle (loses_look queue old count middle lost) one since

  pub anew_scene : one.scene ≡ old.scene
  anew_scene = same_scene old one anew_seen

  pub anew_far : FindsHead queue middle None one → FindsOldest queue old oldest.Wrong one
  anew_far wrong = (
    anew_seen,
    (λ notes. wrong_since notes queue old.events middle.events one.events
        (looks_moment old middle (loses_look queue old count middle lost)) (wrong notes)),
  )

  module _ (positive : 0 < queue.depth) (head : Position) (found : FindsHead queue middle (Some head) one) (stop : Stop)
      (new : FileLog) (stops : StopsAt IsOver queue one head stop new) where
    pub anew_at : lap_said stop.word ≡ stop.position.lap → FindsOldest queue old (oldest.At stop) new
    anew_at lap =
        oldest_since queue old one (oldest.At stop) new anew_seen (head_at queue positive one head found.0 stop new stops lap)

    pub anew_back : lap_said stop.word ≢ stop.position.lap → ¬ IsOver stop.position.lap stop.word →
        FindsOldest queue old oldest.Wrong new
    anew_back apart not = (
      looks_on old one anew_seen new (stops_look IsOver queue one head stop new stops),
      head_back queue positive one head found.0 stop new stops found.1.0 old.events (looks_moment old one anew_seen)
          (happens_since old.events middle.events one.events (LoadSlot head.slot found.1.0)
          (looks_moment old middle (loses_look queue old count middle lost)) found.1.1) found.1.2 apart not,
    )

    pub anew_again : IsOver stop.position.lap stop.word → Loses queue old (count + 1) new
    anew_again over =
        head_round queue positive one head found.0 stop new stops old middle count found.1.0 lost since found.1.1 found.1.2 over
