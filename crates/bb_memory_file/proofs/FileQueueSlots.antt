-- The slots of a queue, the positions in it, and their laps, as numbers.
use Rattle.bb_memory_file.specs.FileQueueLooks.{IsPosition, Position, last_lap, position_after}
use Rattle.bb_memory_file_machine.specs.FileQueues.{FileQueue, IsLater, IsSlotOf, lap_before, next_lap, slot_before}
use Rattle.std.proofs.Common.{Bool, ap, arith, false, refl, subst, true, ℕ, ◌%◌, ◌*◌, ◌+◌, ◌-◌, ◌/◌, ◌<◌, ◌∙◌, ◌≡◌, ◌≢◌, ◌≤◌}
use Rattle.std.proofs.Math.Nat.{div-mul-le_self, lt-div-mul-add}
use Rattle.std.proofs.lemmas.Bool.{le-ltb, lt-ltb, ltb-false, ltb-true, ne_eqb}
use Rattle.std.proofs.lemmas.Nat.{div-mul-add, mod-mul-add}
use Rattle.std.specs.Prelude.{MatchBool, if◌then◌else◌, nat_lt, ◌^◌}

-- LAPS

pub later_by : (lap other : ℕ) → lap < 2 ^ 30 → other < 2 ^ 30 → 0 < (other + 2 ^ 30 - lap) % 2 ^ 30 →
    (other + 2 ^ 30 - lap) % 2 ^ 30 < 2 ^ 29 → IsLater lap other
later_by lap other small too more less = ((other + 2 ^ 30 - lap) % 2 ^ 30, more, less, omega arith)

pub later_is : (lap other : ℕ) → lap < 2 ^ 30 → IsLater lap other →
    (0 < (other + 2 ^ 30 - lap) % 2 ^ 30) × ((other + 2 ^ 30 - lap) % 2 ^ 30 < 2 ^ 29)
later_is lap other small (more, positive, half, is) = (omega arith, omega arith)

pub later_tested : (lap other : ℕ) → lap < 2 ^ 30 → other < 2 ^ 30 → 0 < (other + 2 ^ 30 - lap) % 2 ^ 30 → (test : Bool) →
    nat_lt ((other + 2 ^ 30 - lap) % 2 ^ 30) (2 ^ 29) ≡ test → MatchBool test (IsLater lap other) (¬ IsLater lap other)
later_tested lap other small too more true e =
    later_by lap other small too more (ltb-true ((other + 2 ^ 30 - lap) % 2 ^ 30) (2 ^ 29) e)
later_tested lap other small too more false e = λ later.
    let is = later_is lap other small later in
    let most = ltb-false ((other + 2 ^ 30 - lap) % 2 ^ 30) (2 ^ 29) e in
    let less = is.1 in absurd (omega (arith, most, less))

pub never_later : (lap : ℕ) → lap < 2 ^ 30 → ¬ IsLater lap lap
never_later lap small (more, positive, half, is) = absurd (omega (arith, small, positive, half, is))

pub last_apart : (lap : ℕ) → lap < 2 ^ 30 → last_lap lap ≢ lap
last_apart lap small is = absurd (omega (arith, small, is))

pub last_not_later : (lap : ℕ) → lap < 2 ^ 30 → ¬ IsLater lap (last_lap lap)
last_not_later lap small (more, positive, half, is) = absurd (omega (arith, small, positive, half, is))

pub last_next : (lap : ℕ) → lap < 2 ^ 30 → last_lap (next_lap lap) ≡ lap
last_next lap small = omega arith

-- SLOTS

pub below_end : (number depth : ℕ) → 0 < depth → (slot : ℕ) → slot / depth ≡ number → slot < number * depth + depth
below_end number depth positive slot its = subst (λ (n : ℕ). slot < n * depth + depth) its (lt-div-mul-add positive)

module _ (queue : FileQueue) (positive : 0 < queue.depth) where
  pub slot_range : (slot : ℕ) → IsSlotOf queue slot →
      (queue.number * queue.depth ≤ slot) × (slot < queue.number * queue.depth + queue.depth)
  slot_range slot its = (
    subst (λ (n : ℕ). n * queue.depth ≤ slot) its (div-mul-le_self slot queue.depth),
    subst (λ (n : ℕ). slot < n * queue.depth + queue.depth) its (lt-div-mul-add positive),
  )

  pub slot_in : (slot : ℕ) → queue.number * queue.depth ≤ slot → slot < queue.number * queue.depth + queue.depth →
      IsSlotOf queue slot
  slot_in slot least less =
      let rest : slot ≡ queue.number * queue.depth + (slot - queue.number * queue.depth) = omega (arith, least) in
      ap (λ (s : ℕ). s / queue.depth) rest
      ∙ div-mul-add queue.number queue.depth (slot - queue.number * queue.depth) (omega (arith, least, less))

  pub slot_part : (slot : ℕ) → IsSlotOf queue slot → slot % queue.depth ≡ slot - queue.number * queue.depth
  slot_part slot its =
      let range = slot_range slot its in
      let least = range.0 in
      let less = range.1 in
      let rest : slot ≡ queue.number * queue.depth + (slot - queue.number * queue.depth) = omega (arith, least) in
      ap (λ (s : ℕ). s % queue.depth) rest
      ∙ mod-mul-add queue.number queue.depth (slot - queue.number * queue.depth) (omega (arith, least, less))

  pub first_its : IsSlotOf queue (queue.number * queue.depth)
  first_its = slot_in (queue.number * queue.depth) (omega arith) (omega (arith, positive))

  -- POSITIONS

  module _ (position : Position) (its : IsPosition queue position) where
    -- the position is the queue's last one, or the next slot is one of the queue's, too
    pub ends_or_not : (P : Position → Type 0) →
        (position.slot + 1 < queue.number * queue.depth + queue.depth → P (record position { slot = position.slot + 1 })) →
        (position.slot + 1 ≡ queue.number * queue.depth + queue.depth →
        P (record { slot = queue.number * queue.depth; lap = next_lap position.lap })) → P (position_after queue position)
    ends_or_not P within ends = by_test (nat_lt (position.slot + 1) (queue.number * queue.depth + queue.depth)) refl
      where
        by_test : (test : Bool) → nat_lt (position.slot + 1) (queue.number * queue.depth + queue.depth) ≡ test →
            P (if test then record position { slot = position.slot + 1 }
            else record { slot = queue.number * queue.depth; lap = next_lap position.lap })
        by_test true e = within (ltb-true (position.slot + 1) (queue.number * queue.depth + queue.depth) e)
        by_test false e =
            let range = slot_range position.slot its.0 in
            let less = range.1 in
            let past = ltb-false (position.slot + 1) (queue.number * queue.depth + queue.depth) e in
            ends (omega (arith, less, past))

    pub after_its : IsPosition queue (position_after queue position)
    after_its = ends_or_not (λ p. IsPosition queue p)
        (λ within.
        let range = slot_range position.slot its.0 in
        let least = range.0 in (slot_in (position.slot + 1) (omega (arith, least)) within, its.1))
        (λ ends. (first_its, omega arith))

    -- the slot before the next position is this one
    pub before_after : slot_before queue (position_after queue position).slot ≡ position.slot
    before_after =
        let range = slot_range position.slot its.0 in
        let least = range.0 in
        ends_or_not (λ p. slot_before queue p.slot ≡ position.slot)
        (λ within.
        let part = slot_part (position.slot + 1) (slot_in (position.slot + 1) (omega (arith, least)) within) in
        let some : (position.slot + 1) % queue.depth ≢ 0 = λ none. absurd (omega (arith, least, part, none)) in
        rw (ne_eqb ((position.slot + 1) % queue.depth) 0 some) (omega arith))
        (λ ends.
        let part = slot_part (queue.number * queue.depth) first_its in
        let none : (queue.number * queue.depth) % queue.depth ≡ 0 = omega (arith, part) in rw none (omega (arith, ends, positive)))

    -- and that slot has the message of this position before it
    pub lap_after : lap_before (position_after queue position).lap (position_after queue position).slot position.slot ≡ position.lap
    lap_after =
        let range = slot_range position.slot its.0 in
        let least = range.0 in
        ends_or_not (λ p. lap_before p.lap p.slot position.slot ≡ position.lap)
        (λ within. rw (lt-ltb position.slot (position.slot + 1) (omega arith)) refl)
        (λ ends. rw (le-ltb position.slot (queue.number * queue.depth) least) (last_next position.lap its.1))

    -- each other slot has the same message before both positions
    pub lap_still : (other : ℕ) → IsSlotOf queue other → other ≢ position.slot →
        lap_before (position_after queue position).lap (position_after queue position).slot other
        ≡ lap_before position.lap position.slot other
    lap_still other others apart =
        let range = slot_range other others in
        let least = range.0 in
        let less = range.1 in
        ends_or_not (λ p. lap_before p.lap p.slot other ≡ lap_before position.lap position.slot other)
        (λ within. by_order (nat_lt other position.slot) refl)
        (λ ends. rw (le-ltb other (queue.number * queue.depth) least, lt-ltb other position.slot (omega (arith, less, ends, apart)))
        (last_next position.lap its.1))
      where
        by_order : (test : Bool) → nat_lt other position.slot ≡ test →
            lap_before position.lap (position.slot + 1) other ≡ lap_before position.lap position.slot other
        by_order true e =
            let below = ltb-true other position.slot e in
            rw (lt-ltb other position.slot below, lt-ltb other (position.slot + 1) (omega (arith, below))) refl
        by_order false e =
            let most = ltb-false other position.slot e in
            rw (le-ltb other position.slot most, le-ltb other (position.slot + 1) (omega (arith, most, apart))) refl
