-- If the acts of a run obey the rules of a queue, so do the steps of the machine.
use Rattle.bb_memory_file.proofs.FileRunMoments.{moment_length}
use Rattle.bb_memory_file.proofs.FileRunTheorem.{is_machines}
use Rattle.bb_memory_file.specs.FileNames.{Done, Empty, FileStep, Fill, HeldBy, Message, Place, Sending, SentTo, Slot, Take}
use Rattle.bb_memory_file.specs.FileQueueRuns.{ActsObey}
use Rattle.bb_memory_file.specs.FileRuns.{Act, Follows, IsMachines, IsRun, looks_on, moves_on, opens, steps_on, words_after}
use Rattle.bb_memory_file_machine.proofs.QueueCounts.{never_filling, replaced}
use Rattle.bb_memory_file_machine.proofs.QueueHistories.{SlotChange, change_after, empties_one, fills_one, holds_after, keeps, posting_of, received_after, take_of}
use Rattle.bb_memory_file_machine.specs.FileLaws.{IsFlag, IsSlot}
use Rattle.bb_memory_file_machine.specs.FileMachine.{FileScene, FileWords}
use Rattle.bb_memory_file_machine.specs.FileQueues.{FileQueue, HasSeen, History, IsMoment, IsSlotOf, MayEmpty, MayFill, MayPass, MayTake, Obey, StepObeys, earlier, fills, is_filling, lap_before, now, outcome_after, over, queue_rules, slot_before, unsent, words_at}
use Rattle.bb_memory_file_machine.specs.declared.steps.file.FileOutcome.TheVariants.{OnSlot, Receives}
use Rattle.std.proofs.Common.{Bool, List, Some, ap, arith, false, refl, reverse, sym, ℕ, ◌+◌, ◌∙◌, ◌∷◌, ◌≡◌}
use Rattle.std.specs.Prelude.{if◌then◌else◌, slice_get}

-- MOMENTS

module _ (scene : FileScene) where
  follows_words : (acts : List Act) (history : History) → Follows scene acts history →
      words_at scene history ≡ words_after scene acts
  follows_words _ _ opens = refl
  follows_words _ _ (looks_on act acts history follows same) = follows_words acts history follows ∙ sym same
  follows_words _ _ (steps_on act acts history step follows same) = same
  follows_words _ _ (moves_on acts history step follows same) = same

  -- the moment of a history at which a run has done these acts
  record HasMoment (history : History) (acts : List Act) : Type 0 where
    moment : History
    past : IsMoment moment history
    follows : Follows scene acts moment

  abbrev moment_at : (moment acts : List Act) (history : History) → Follows scene acts history → IsMoment moment acts →
      HasMoment history moment
  moment_at moment acts history follows now = record { moment = history; past = now; follows = follows }
  moment_at moment _ _ (looks_on act acts history follows same) (earlier first rest past) =
      moment_at moment acts history follows past
  moment_at moment _ _ (steps_on act acts history step follows same) (earlier first rest past) =
      let found = moment_at moment acts history follows past in
      record { moment = found.moment; past = earlier step history found.past; follows = found.follows }
  moment_at moment _ _ (moves_on acts history step follows same) (earlier first rest past) =
      let found = moment_at moment (first ∷ rest) history follows (earlier first rest past) in
      record { moment = found.moment; past = earlier step history found.past; follows = found.follows }

  -- of two moments of a run, the earlier one comes earlier in the history
  in_order : (moment second acts : List Act) (history : History) (follows : Follows scene acts history)
      (past : IsMoment moment acts) (until : IsMoment second acts) → IsMoment moment second →
      IsMoment (moment_at moment acts history follows past).moment (moment_at second acts history follows until).moment
  in_order moment _ acts history follows past now before = (moment_at moment acts history follows past).past
  in_order _ second _ history follows now (earlier act acts until) before =
      let one = moment_length (act ∷ acts) second before in
      let two = moment_length second acts until in absurd (omega (arith, one, two))
  in_order moment second _ _ (looks_on act acts history follows same) (earlier one rest past) (earlier two others until) before =
      in_order moment second acts history follows past until before
  in_order moment second _ _ (steps_on act acts history step follows same) (earlier one rest past) (earlier two others until)
      before = in_order moment second acts history follows past until before
  in_order moment second _ _ (moves_on acts history step follows same) (earlier one rest past) (earlier two others until) before =
      in_order moment second (one ∷ rest) history follows (earlier one rest past) (earlier one rest until) before

  -- COUNTS

  count_if : (n m : ℕ) (b c : Bool) → n ≡ m → b ≡ c → (if b then n + 1 else n) ≡ (if c then m + 1 else m)
  count_if n m b c counts tests =
      ap (λ (k : ℕ). if b then k + 1 else k) counts ∙ ap (λ (t : Bool). if t then m + 1 else m) tests

  fills_follow : (acts : List Act) (history : History) → Follows scene acts history → (slot : ℕ) →
      fills (words_after scene) slot acts ≡ fills (words_at scene) slot history
  fills_follow _ _ opens slot = refl
  fills_follow _ _ (looks_on act acts history follows same) slot =
      let quiet : is_filling (slice_get (words_after scene acts).slots slot) (slice_get (words_after scene (act ∷ acts)).slots slot)
      ≡ false =
      ap (λ (w : FileWords). is_filling (slice_get (words_after scene acts).slots slot) (slice_get w.slots slot)) same
      ∙ never_filling (slice_get (words_after scene acts).slots slot) in
      ap (λ (b : Bool). if b then fills (words_after scene) slot acts + 1 else fills (words_after scene) slot acts) quiet
      ∙ fills_follow acts history follows slot
  fills_follow _ _ (steps_on act acts history step follows same) slot =
      let before = follows_words acts history follows in
      count_if (fills (words_after scene) slot acts) (fills (words_at scene) slot history)
      (is_filling (slice_get (words_after scene acts).slots slot) (slice_get (words_after scene (act ∷ acts)).slots slot))
      (is_filling (slice_get (words_at scene history).slots slot) (slice_get (words_at scene (step ∷ history)).slots slot))
      (fills_follow acts history follows slot)
      (ap (λ (w : FileWords). is_filling (slice_get w.slots slot) (slice_get (words_after scene (act ∷ acts)).slots slot))
      (sym before)
      ∙ ap (λ (w : FileWords). is_filling (slice_get (words_at scene history).slots slot) (slice_get w.slots slot)) (sym same))
  fills_follow _ _ (moves_on acts history step follows same) slot =
      let before = follows_words acts history follows in
      let quiet : is_filling (slice_get (words_at scene history).slots slot)
      (slice_get (words_at scene (step ∷ history)).slots slot) ≡ false =
      ap (λ (w : FileWords). is_filling (slice_get (words_at scene history).slots slot) (slice_get w.slots slot))
      (same ∙ sym before) ∙ never_filling (slice_get (words_at scene history).slots slot) in
      fills_follow acts history follows slot
      ∙ sym (ap (λ (b : Bool). if b then fills (words_at scene) slot history + 1 else fills (words_at scene) slot history) quiet)

  -- WHAT A PROCESS HAS SEEN

  module _ (acts : List Act) (history : History) (follows : Follows scene acts history) where
    abbrev at_moment : (moment : List Act) → IsMoment moment acts → HasMoment history moment
    at_moment moment past = moment_at moment acts history follows past

    slot_follow : (moment : List Act) (past : IsMoment moment acts) (slot : ℕ) (word : Slot) →
        IsSlot (words_after scene moment) slot word → IsSlot (words_at scene (at_moment moment past).moment) slot word
    slot_follow moment past slot word is =
        let found = at_moment moment past in
        ap (λ (w : FileWords). slice_get w.slots slot) (follows_words moment found.moment found.follows) ∙ is

    abbrev seen_follow : (slot : ℕ) (word : Slot) → HasSeen (words_after scene) acts slot word →
        HasSeen (words_at scene) history slot word
    seen_follow slot word look = record {
      moment = (at_moment look.moment look.past).moment;
      past = (at_moment look.moment look.past).past;
      seen = slot_follow look.moment look.past slot word look.seen;
      recent =
          let found = at_moment look.moment look.past in
          let one = fills_follow acts history follows slot in
          let two = fills_follow look.moment found.moment found.follows slot in
          let recent = look.recent in omega (arith, one, two, recent);
    }

    pass_follow : (moment : List Act) (past : IsMoment moment acts) (slot lap : ℕ) →
        MayPass (words_after scene) acts moment slot lap →
        MayPass (words_at scene) history (at_moment moment past).moment slot lap
    pass_follow moment past slot lap (over word look later) = over word (seen_follow slot word look) later
    pass_follow moment past slot lap (unsent bucket look second since_look since_take until not_sent) =
        let found = at_moment second until in
        unsent bucket (seen_follow slot (Message lap bucket) look) (at_moment second until).moment
        (in_order look.moment second acts history follows look.past until since_look)
        (in_order moment second acts history follows past until since_take) (at_moment second until).past
        (λ sent. not_sent
        (ap (λ (w : FileWords). slice_get w.flags bucket) (sym (follows_words second found.moment found.follows)) ∙ sent))

    fill_follow : (queue : FileQueue) (slot lap : ℕ) → MayFill (words_after scene) queue acts slot lap →
        MayFill (words_at scene) queue history slot lap
    fill_follow queue slot lap may = record {
      word = may.word;
      look = seen_follow (slot_before queue slot) may.word may.look;
      filled = may.filled;
    }

    take_follow : (queue : FileQueue) (slot bucket lap : ℕ) → MayTake (words_after scene) queue acts slot bucket lap →
        MayTake (words_at scene) queue history slot bucket lap
    take_follow queue slot bucket lap may = record {
      look = seen_follow slot (Message lap bucket) may.look;
      others = λ other its apart.
          pass_follow may.look.moment may.look.past other (lap_before lap slot other) (may.others other its apart);
    }

-- STEPS

module _ (queue : FileQueue) where
  -- what a step does to the words, if it has to obey a rule
  module _ (history : History) (step : FileStep)
      (fill : (slot lap found bucket : ℕ) → IsSlotOf queue slot → IsSlot (words_at queue.scene history) slot (Empty lap) →
      IsSlot (words_at queue.scene (step ∷ history)) slot (Message found bucket) →
      MayFill (words_at queue.scene) queue history slot lap)
      (take : (slot bucket lap party : ℕ) → IsSlotOf queue slot → IsFlag (words_at queue.scene history) bucket (SentTo slot lap) →
      IsFlag (words_at queue.scene (step ∷ history)) bucket (HeldBy party) →
      MayTake (words_at queue.scene) queue history slot bucket lap)
      (empty : (slot lap bucket next : ℕ) → IsSlotOf queue slot → IsSlot (words_at queue.scene history) slot (Message lap bucket) →
      IsSlot (words_at queue.scene (step ∷ history)) slot (Empty next) → MayEmpty (words_at queue.scene history) slot next)
    where
      fill_by : (process lap slot : ℕ) → step ≡ Fill process lap → IsSlotOf queue slot →
          outcome_after queue.scene history step ≡ OnSlot slot → MayFill (words_at queue.scene) queue history slot lap
      fill_by process lap slot step_is its said =
          let posting = posting_of queue.scene history step process slot lap step_is said in
          fill slot lap lap posting.bucket its posting.empty
          ((holds_after queue.scene (step ∷ history)).each process (Sending posting.party slot posting.bucket lap) posting.sending).2

      take_by : (process party slot bucket lap : ℕ) → step ≡ Take process party slot bucket lap → IsSlotOf queue slot →
          outcome_after queue.scene history step ≡ Receives slot bucket party →
          MayTake (words_at queue.scene) queue history slot bucket lap
      take_by process party slot bucket lap step_is its said =
          let receipt = received_after queue.scene history step slot bucket party said in
          let found = take_of queue.scene history step slot bucket party said in
          let steps = sym step_is ∙ found.2 in
          let laps : lap ≡ found.1 = cc in
          take slot bucket lap party its (found.3 ∙ ap (λ (l : ℕ). Some (SentTo slot l)) (sym laps)) receipt.holder

      empty_of : (process party slot bucket next : ℕ) → step ≡ Done process party slot bucket next → IsSlotOf queue slot →
          outcome_after queue.scene history step ≡ OnSlot slot →
          SlotChange (words_at queue.scene history) step (outcome_after queue.scene history step)
          (words_at queue.scene (step ∷ history)).slots → MayEmpty (words_at queue.scene history) slot next
      empty_of process party slot bucket next step_is its said (keeps slots other) = absurd (other slot said)
      empty_of process party slot bucket next step_is its said (fills_one actor at other lap fill_is outcome was slots) =
          let steps = sym step_is ∙ fill_is in absurd (cc)
      empty_of process party slot bucket next step_is its said (empties_one actor number at other lap then_next done_is outcome was held slots) =
          let steps = sym step_is ∙ done_is in
          let same : at ≡ slot = cc in
          let nexts : then_next ≡ next = cc in
          let there = replaced queue.scene history step at (Message lap other) (Empty then_next) was slots in
          empty slot lap other next its (ap (slice_get (words_at queue.scene history).slots) (sym same) ∙ was)
          (ap (slice_get (words_at queue.scene (step ∷ history)).slots) (sym same) ∙ there
          ∙ ap (λ (n : ℕ). Some (Empty n)) nexts)

  step_obeys : (history : History) (step : FileStep) →
      ((slot lap found bucket : ℕ) → IsSlotOf queue slot → IsSlot (words_at queue.scene history) slot (Empty lap) →
      IsSlot (words_at queue.scene (step ∷ history)) slot (Message found bucket) →
      MayFill (words_at queue.scene) queue history slot lap) →
      ((slot bucket lap party : ℕ) → IsSlotOf queue slot → IsFlag (words_at queue.scene history) bucket (SentTo slot lap) →
      IsFlag (words_at queue.scene (step ∷ history)) bucket (HeldBy party) →
      MayTake (words_at queue.scene) queue history slot bucket lap) →
      ((slot lap bucket next : ℕ) → IsSlotOf queue slot → IsSlot (words_at queue.scene history) slot (Message lap bucket) →
      IsSlot (words_at queue.scene (step ∷ history)) slot (Empty next) → MayEmpty (words_at queue.scene history) slot next) →
      StepObeys queue_rules queue history step
  step_obeys history (Fill process lap) fill take empty = λ slot its said.
      fill_by history (Fill process lap) fill take empty process lap slot refl its said
  step_obeys history (Take process party slot bucket lap) fill take empty = λ its said.
      take_by history (Take process party slot bucket lap) fill take empty process party slot bucket lap refl its said
  step_obeys history (Done process party slot bucket next) fill take empty = λ its said.
      empty_of history (Done process party slot bucket next) fill take empty process party slot bucket next refl its said
      (change_after queue.scene history (Done process party slot bucket next))
  step_obeys history step fill take empty = tt

  -- ALL STEPS

  obey_follow : (acts : List Act) (history : History) → Follows queue.scene acts history → ActsObey queue acts →
      Obey queue_rules queue history
  obey_follow _ _ opens obey = tt
  obey_follow _ _ (looks_on act acts history follows same) obey = obey_follow acts history follows obey.1
  obey_follow _ _ (steps_on act acts history step follows same) obey =
      let before = follows_words queue.scene acts history follows in (
        step_obeys history step
            (λ slot lap found bucket its was is. fill_follow queue.scene acts history follows queue slot lap
            (obey.0.fill slot lap found bucket its (ap (λ (w : FileWords). slice_get w.slots slot) (sym before) ∙ was)
            (ap (λ (w : FileWords). slice_get w.slots slot) (sym same) ∙ is)))
            (λ slot bucket lap party its was is. take_follow queue.scene acts history follows queue slot bucket lap
            (obey.0.take slot bucket lap party its (ap (λ (w : FileWords). slice_get w.flags bucket) (sym before) ∙ was)
            (ap (λ (w : FileWords). slice_get w.flags bucket) (sym same) ∙ is)))
            (λ slot lap bucket next its was is found other too.
            obey.0.empty slot lap bucket next its (ap (λ (w : FileWords). slice_get w.slots slot) (sym before) ∙ was)
            (ap (λ (w : FileWords). slice_get w.slots slot) (sym same) ∙ is) found other
            (ap (λ (w : FileWords). slice_get w.slots slot) (sym before) ∙ too)),
        obey_follow acts history follows obey.1,
      )
  obey_follow _ _ (moves_on acts history step follows same) obey =
      let quiet : words_at queue.scene (step ∷ history) ≡ words_at queue.scene history =
      same ∙ sym (follows_words queue.scene acts history follows) in (
        step_obeys history step
            (λ slot lap found bucket its was is.
            let words = sym was ∙ ap (λ (w : FileWords). slice_get w.slots slot) (sym quiet) ∙ is in absurd (cc))
            (λ slot bucket lap party its was is.
            let flags = sym was ∙ ap (λ (w : FileWords). slice_get w.flags bucket) (sym quiet) ∙ is in absurd (cc))
            (λ slot lap bucket next its was is.
            let words = sym was ∙ ap (λ (w : FileWords). slice_get w.slots slot) (sym quiet) ∙ is in absurd (cc)),
        obey_follow acts history follows obey,
      )

pub run_obeys : (queue : FileQueue) (acts : List Act) (taken : ℕ → List FileStep) (places : ℕ → Place) →
    IsRun queue.scene acts taken places → ActsObey queue acts →
    (machines : IsMachines queue.scene acts taken places) × Obey queue_rules queue (reverse machines.steps)
run_obeys queue acts taken places run obey =
    let machines = is_machines queue.scene acts taken places run in
    (machines, obey_follow queue acts (reverse machines.steps) machines.follows obey)
