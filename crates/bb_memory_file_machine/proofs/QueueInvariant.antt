-- What holds for a queue after each history in which the steps on its slots obey its rules.
use Rattle.bb_memory_file_machine.proofs.QueueCounts.{fills_grow}
use Rattle.bb_memory_file_machine.proofs.QueueLaps.{Bounds, Fits, due_above, due_at, due_below, fewer_rounds, filled_then, follows_before, round_after, rounds_most}
use Rattle.bb_memory_file_machine.specs.FileLaws.{IsSlot}
use Rattle.bb_memory_file_machine.specs.FileMachine.{Empty, Message, Slot}
use Rattle.bb_memory_file_machine.specs.FileQueues.{AreInOrder, FileQueue, HasSeen, History, IsFilled, IsMoment, IsSlotOf, MayFill, Posted, fills, lap_before, lap_of, messages, posts, slot_before, slot_of, state_after, words_at}
use Rattle.bb_memory_lists.proofs.ListEntries.{contains-none}
use Rattle.bb_memory_lists.proofs.SliceGets.{slice_get-replicated}
use Rattle.std.proofs.Common.{Bool, Contains, [], ap, arith, div-add-mod', false, inl, inr, refl, subst, sym, true, ℕ, ◌%◌, ◌*◌, ◌+◌, ◌-◌, ◌/◌, ◌<◌, ◌∙◌, ◌≡◌, ◌≢◌, ◌≤◌}
use Rattle.std.proofs.lemmas.Bool.{eqb-false, eqb-true}
use Rattle.std.proofs.lemmas.Nat.{div-mul-add, mod-mul-add, mod_below}
use Rattle.std.specs.Prelude.{if◌then◌else◌, ◌==◌, ◌^◌, ◌⊎◌}

module _ (queue : FileQueue) (positive : 0 < queue.depth) where
  -- SLOTS

  pub slot_in_queue : (ticket : ℕ) → IsSlotOf queue (slot_of queue ticket)
  slot_in_queue ticket = div-mul-add queue.number queue.depth (ticket % queue.depth) (mod_below ticket queue.depth positive)

  pub slot_in_turn : (ticket : ℕ) → slot_of queue ticket % queue.depth ≡ ticket % queue.depth
  slot_in_turn ticket = mod-mul-add queue.number queue.depth (ticket % queue.depth) (mod_below ticket queue.depth positive)

  pub slot_parts : (slot : ℕ) → IsSlotOf queue slot → queue.number * queue.depth + slot % queue.depth ≡ slot
  slot_parts slot its =
      ap (λ (n : ℕ). n * queue.depth + slot % queue.depth) (sym its) ∙ div-add-mod' slot queue.depth

  -- slots of the queue with the same turn are the same
  pub same_slot : (slot other : ℕ) → IsSlotOf queue slot → IsSlotOf queue other →
      slot % queue.depth ≡ other % queue.depth → slot ≡ other
  same_slot slot other its others same =
      sym (slot_parts slot its) ∙ ap (λ (n : ℕ). queue.number * queue.depth + n) same ∙ slot_parts other others

  -- the slot of a ticket, and how often the slot was filled before
  pub slot_of_turn : (slot many ticket : ℕ) → IsSlotOf queue slot → ticket ≡ many * queue.depth + slot % queue.depth →
      (slot_of queue ticket ≡ slot) × (ticket / queue.depth ≡ many)
  slot_of_turn slot many ticket its turns =
      let below = mod_below slot queue.depth positive in (
        ap (λ (n : ℕ). queue.number * queue.depth + n % queue.depth) turns
            ∙ ap (λ (n : ℕ). queue.number * queue.depth + n) (mod-mul-add many queue.depth (slot % queue.depth) below)
            ∙ slot_parts slot its,
        ap (λ (n : ℕ). n / queue.depth) turns ∙ div-mul-add many queue.depth (slot % queue.depth) below,
      )

  -- THE INVARIANT

  -- the ticket of the message that fills the slot next
  abbrev pub turn : ℕ → History → ℕ
  turn slot history = fills (words_at queue.scene) slot history * queue.depth + slot % queue.depth

  pub record IsPlaced (history : History) (posted : Posted) : Type 0 where
    pub word : IsSlot (state_after queue.scene history).words (slot_of queue posted.ticket)
        (Message (lap_of queue posted.ticket) posted.bucket)
    pub count : fills (words_at queue.scene) (slot_of queue posted.ticket) history ≡ posted.ticket / queue.depth + 1

  pub record IsListed (history : History) (slot bucket : ℕ) : Type 0 where
    pub posted : Posted
    pub there : Contains (messages queue history) posted
    pub its_bucket : posted.bucket ≡ bucket
    pub its_slot : slot_of queue posted.ticket ≡ slot

  pub record IsQueue (history : History) : Type 0 where
    pub most : (slot : ℕ) → IsSlotOf queue slot → posts queue history ≤ turn slot history
    pub least : (slot : ℕ) → IsSlotOf queue slot → turn slot history < posts queue history + queue.depth
    pub words : (slot : ℕ) → IsSlotOf queue slot → (word : Slot) → IsSlot (state_after queue.scene history).words slot word →
        Fits word (fills (words_at queue.scene) slot history)
    pub order : AreInOrder 0 (messages queue history) (posts queue history)
    pub placed : (posted : Posted) → Contains (messages queue history) posted → IsPlaced history posted
    pub listed : (slot lap bucket : ℕ) → IsSlotOf queue slot →
        IsSlot (state_after queue.scene history).words slot (Message lap bucket) → IsListed history slot bucket

  pub at_opening : IsQueue []
  at_opening = record {
    most = λ slot its. omega arith;
    least = λ slot its. let below = mod_below slot queue.depth positive in omega (arith, below);
    words = λ slot its word is.
        let same = slice_get-replicated queue.scene.slots slot (Empty 0) word is in subst (λ (w : Slot). Fits w 0) same refl;
    order = omega arith;
    placed = λ posted has. absurd (contains-none posted has);
    listed = λ slot lap bucket its is.
        let same = slice_get-replicated queue.scene.slots slot (Empty 0) (Message lap bucket) is in absurd (cc);
  }

  -- TURNS

  -- the slots of a queue are filled in turn: by how often one was filled, how often another was
  module _ (history : History) (holds : IsQueue history) (slot other : ℕ) (its : IsSlotOf queue slot) (others : IsSlotOf queue other)
    where
      abbrev many : ℕ
      many = fills (words_at queue.scene) slot history

      abbrev too : ℕ
      too = fills (words_at queue.scene) other history

      turn_below : other % queue.depth < slot % queue.depth → (many ≤ too) × (too ≤ many + 1)
      turn_below less =
          let most = holds.most slot its in
          let least = holds.least slot its in
          let most_too = holds.most other others in
          let least_too = holds.least other others in
          let below = mod_below slot queue.depth positive in (
            fewer_rounds many too queue.depth (omega (arith, round_after too queue.depth, most, least, most_too, least_too, less, below)),
            fewer_rounds too (many + 1) queue.depth
                (omega (arith, round_after (many + 1) queue.depth, round_after many queue.depth, most, least, most_too, least_too, less, below)),
          )

      turn_above : slot % queue.depth ≤ other % queue.depth → (too ≤ many) × (many ≤ too + 1)
      turn_above less =
          let most = holds.most slot its in
          let least = holds.least slot its in
          let most_too = holds.most other others in
          let least_too = holds.least other others in
          let below = mod_below other queue.depth positive in (
            fewer_rounds too many queue.depth (omega (arith, round_after many queue.depth, most, least, most_too, least_too, less, below)),
            fewer_rounds many (too + 1) queue.depth
                (omega (arith, round_after (too + 1) queue.depth, round_after too queue.depth, most, least, most_too, least_too, less, below)),
          )

  -- of two slots of the queue, the one with the earlier turn comes first
  pub less_in_turn : (slot other : ℕ) → IsSlotOf queue slot → IsSlotOf queue other → other < slot →
      other % queue.depth < slot % queue.depth
  less_in_turn slot other its others less =
      let one = slot_parts slot its in
      let two = slot_parts other others in omega (arith, one, two, less)

  pub most_in_turn : (slot other : ℕ) → IsSlotOf queue slot → IsSlotOf queue other → slot ≤ other →
      slot % queue.depth ≤ other % queue.depth
  most_in_turn slot other its others less =
      let one = slot_parts slot its in
      let two = slot_parts other others in omega (arith, one, two, less)

  -- THE SLOT BEFORE

  pub record IsBefore (slot before : ℕ) : Type 0 where
    pub its : IsSlotOf queue before
    pub turns : ((before < slot) × (before % queue.depth + 1 ≡ slot % queue.depth))
        ⊎ ((slot ≤ before) × (slot % queue.depth ≡ 0) × (before % queue.depth + 1 ≡ queue.depth))

  before_zero : (slot : ℕ) → IsSlotOf queue slot → slot % queue.depth ≡ 0 → IsBefore slot (slot + queue.depth - 1)
  before_zero slot its zero =
      let depth = queue.depth in
      let parts = slot_parts slot its in
      let place : slot + queue.depth - 1 ≡ queue.number * queue.depth + (queue.depth - 1) = omega (arith, parts, zero, positive) in
      let below : queue.depth - 1 < queue.depth = omega (arith, positive) in
      let turns : (slot + queue.depth - 1) % queue.depth ≡ queue.depth - 1 =
      ap (λ (n : ℕ). n % queue.depth) place ∙ mod-mul-add queue.number queue.depth (queue.depth - 1) below in
      record {
        its = ap (λ (n : ℕ). n / queue.depth) place ∙ div-mul-add queue.number queue.depth (queue.depth - 1) below;
        turns = inr (omega (arith, positive), zero, omega (arith, turns, positive));
      }

  before_more : (slot : ℕ) → IsSlotOf queue slot → slot % queue.depth ≢ 0 → IsBefore slot (slot - 1)
  before_more slot its more =
      let parts = slot_parts slot its in
      let inside = mod_below slot queue.depth positive in
      let place : slot - 1 ≡ queue.number * queue.depth + (slot % queue.depth - 1) = omega (arith, parts, more) in
      let below : slot % queue.depth - 1 < queue.depth = omega (arith, inside, more) in
      let turns : (slot - 1) % queue.depth ≡ slot % queue.depth - 1 =
      ap (λ (n : ℕ). n % queue.depth) place ∙ mod-mul-add queue.number queue.depth (slot % queue.depth - 1) below in
      record {
        its = ap (λ (n : ℕ). n / queue.depth) place ∙ div-mul-add queue.number queue.depth (slot % queue.depth - 1) below;
        turns = inl (omega (arith, parts, more), omega (arith, turns, more));
      }

  before_if : (slot : ℕ) → IsSlotOf queue slot → (first : Bool) → (slot % queue.depth == 0) ≡ first →
      IsBefore slot (if first then slot + queue.depth - 1 else slot - 1)
  before_if slot its true test = before_zero slot its (eqb-true (slot % queue.depth) 0 test)
  before_if slot its false test = before_more slot its (eqb-false (slot % queue.depth) 0 test)

  pub before_of : (slot : ℕ) → IsSlotOf queue slot → IsBefore slot (slot_before queue slot)
  before_of slot its = before_if slot its (slot % queue.depth == 0) refl

  -- POSTS

  module _ (history : History) (holds : IsQueue history) (moments : (moment : History) → IsMoment moment history → IsQueue moment)
      (slot lap : ℕ) (its : IsSlotOf queue slot) (empty : IsSlot (state_after queue.scene history).words slot (Empty lap))
    where
      abbrev filled_so : ℕ
      filled_so = fills (words_at queue.scene) slot history

      lap_is : lap ≡ filled_so % 2 ^ 30
      lap_is = holds.words slot its (Empty lap) empty

      module _ (before : ℕ) (is_before : IsBefore slot before) (word : Slot) (look : HasSeen (words_at queue.scene) history before word)
          (is : IsFilled (lap_before lap slot before) word) where
        abbrev counted_then : ℕ
        counted_then = fills (words_at queue.scene) before look.moment

        abbrev counted_now : ℕ
        counted_now = fills (words_at queue.scene) before history

        bounds : (due : ℕ) → due ≡ due_at filled_so slot before → counted_now ≤ due + 1 → due ≤ counted_now + 1 →
            Bounds (lap_before lap slot before) due counted_then counted_now
        bounds due due_is most least = record {
          grown = fills_grow queue.scene before look.moment history look.past;
          recent = look.recent;
          most = most;
          least = least;
          follows = ap (λ (l : ℕ). (lap_before l slot before + 1) % 2 ^ 30) lap_is ∙ follows_before filled_so slot before
              ∙ ap (λ (n : ℕ). n % 2 ^ 30) (sym due_is);
        }

        was_filled : (due : ℕ) → due ≡ due_at filled_so slot before → counted_now ≤ due + 1 → due ≤ counted_now + 1 →
            due ≤ counted_now
        was_filled due due_is most least =
            let b = bounds due due_is most least in
            let since = filled_then (lap_before lap slot before) due counted_then counted_now b word
            ((moments look.moment look.past).words before is_before.its word look.seen) is in
            let grown = b.grown in omega (arith, since, grown)

        -- the next ticket is that of the slot
        next_is : posts queue history ≡ turn slot history
        next_is =
            let most = holds.most slot its in
            let least = holds.least slot its in
            let most_too = holds.most before is_before.its in
            let least_too = holds.least before is_before.its in
            elim is_before.turns [
              | inl (less, turns) ↦
                  let near = turn_below history holds slot before its is_before.its (omega (arith, turns)) in
                  let due = was_filled (filled_so + 1) (sym (due_below filled_so slot before less)) (omega (arith, near.1))
                  (omega (arith, near.0)) in
                  let rounds = rounds_most (filled_so + 1) counted_now queue.depth due in
                  let after = round_after filled_so queue.depth in
                  omega (arith, most, least, most_too, least_too, turns, rounds, after)
              | inr (less, zero, turns) ↦
                  let near = turn_above history holds slot before its is_before.its (omega (arith, zero)) in
                  let due = was_filled filled_so (sym (due_above filled_so slot before less)) (omega (arith, near.0))
                  (omega (arith, near.1)) in
                  let rounds = rounds_most filled_so counted_now queue.depth due in
                  omega (arith, most, least, most_too, least_too, turns, zero, rounds)
            ]

      pub next_ticket : MayFill (words_at queue.scene) queue history slot lap → posts queue history ≡ turn slot history
      next_ticket may = next_is (slot_before queue slot) (before_of slot its) may.word may.look may.filled
