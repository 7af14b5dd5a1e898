-- The laps of a queue's slots and the tickets of its messages, as numbers.
use Rattle.bb_memory_file_machine.specs.FileMachine.{Empty, Message, Slot}
use Rattle.bb_memory_file_machine.specs.FileQueues.{IsFilled, IsLater, lap_before, lap_said}
use Rattle.std.proofs.Common.{Bool, arith, false, inl, inr, refl, true, ℕ, ◌%◌, ◌*◌, ◌+◌, ◌-◌, ◌<◌, ◌≡◌, ◌≤◌}
use Rattle.std.proofs.Math.Nat.{lt_of_mul-lt-mul_right, mul-le-mul_right}
use Rattle.std.proofs.lemmas.Bool.{le-ltb, lt-ltb}
use Rattle.std.specs.Prelude.{if◌then◌else◌, nat_lt, ◌^◌}

-- WORDS

-- the word is that of a slot which was filled so many times
abbrev pub Fits : Slot → ℕ → Type 0
Fits (Empty lap) count = lap ≡ count % 2 ^ 30
Fits (Message lap bucket) count = (before : ℕ) × (count ≡ before + 1) × (lap ≡ before % 2 ^ 30)

-- LOOKS

-- A slot was filled `count` times when a process looked at it, and `now` times later on, and the laps
-- haven't come round since. `due` is how many times it was filled once it has a message at this lap, or
-- one more than `now`, or one less.
pub record Bounds (lap due count now : ℕ) : Type 0 where
  pub grown : count ≤ now
  pub recent : now < count + 2 ^ 29
  pub most : now ≤ due + 1
  pub least : due ≤ now + 1
  pub follows : (lap + 1) % 2 ^ 30 ≡ due % 2 ^ 30

module _ (lap due count now : ℕ) (b : Bounds lap due count now) where
  -- an empty slot at a later lap was filled at the lap
  later_empty : (found : ℕ) → found ≡ count % 2 ^ 30 → IsLater lap found → due ≤ count
  later_empty found fits (more, positive, half, is) =
      let grown = b.grown in
      let recent = b.recent in
      let most = b.most in
      let least = b.least in
      let follows = b.follows in omega (arith, fits, positive, half, is, grown, recent, most, least, follows)

  -- a slot with a message of a later lap was filled at the lap, and once more
  later_message : (found before : ℕ) → count ≡ before + 1 → found ≡ before % 2 ^ 30 → IsLater lap found → due < count
  later_message found before one fits (more, positive, half, is) =
      let grown = b.grown in
      let recent = b.recent in
      let most = b.most in
      let least = b.least in
      let follows = b.follows in omega (arith, one, fits, positive, half, is, grown, recent, most, least, follows)

  -- a slot with a message of the lap was filled so many times
  same_message : (found before : ℕ) → count ≡ before + 1 → found ≡ before % 2 ^ 30 → found ≡ lap → count ≡ due
  same_message found before one fits same =
      let grown = b.grown in
      let recent = b.recent in
      let most = b.most in
      let least = b.least in
      let follows = b.follows in omega (arith, one, fits, same, grown, recent, most, least, follows)

  pub filled_then : (word : Slot) → Fits word count → IsFilled lap word → due ≤ count
  filled_then (Empty found) fits later = later_empty found fits later
  filled_then (Message found bucket) (before, one, fits) filled = elim filled [
    | inl same ↦ let counts = same_message found before one fits same in omega (arith, counts)
    | inr later ↦ let more = later_message found before one fits later in omega (arith, more)
  ]

  pub message_then : (found bucket : ℕ) → Fits (Message found bucket) count → found ≡ lap → count ≡ due
  message_then found bucket (before, one, fits) same = same_message found before one fits same

  -- a slot at a later lap is empty if it was filled no more since
  pub over_then : (word : Slot) → Fits word count → IsLater lap (lap_said word) → now ≡ due →
      (due ≡ count) × ((found bucket : ℕ) → ¬ (word ≡ Message found bucket))
  over_then (Empty found) fits later same =
      let least : due ≤ count = later_empty found fits later in
      let grown = b.grown in (omega (arith, least, grown, same), (λ other bucket e. absurd (cc)))
  over_then (Message found bucket) (before, one, fits) later same =
      let more = later_message found before one fits later in
      let grown = b.grown in absurd (omega (arith, more, grown, same))

-- the lap before, and how many times the slot `other` was filled once it has the message of that lap
abbrev pub due_at : ℕ → ℕ → ℕ → ℕ
due_at before slot other = if nat_lt other slot then before + 1 else before

pub follows_below : (before : ℕ) → (before % 2 ^ 30 + 1) % 2 ^ 30 ≡ (before + 1) % 2 ^ 30
follows_below before = omega arith

follows_above : (before : ℕ) → ((before % 2 ^ 30 + (2 ^ 30 - 1)) % 2 ^ 30 + 1) % 2 ^ 30 ≡ before % 2 ^ 30
follows_above before = omega arith

follows_if : (below : Bool) (before : ℕ) →
    ((if below then before % 2 ^ 30 else (before % 2 ^ 30 + (2 ^ 30 - 1)) % 2 ^ 30) + 1) % 2 ^ 30
    ≡ (if below then before + 1 else before) % 2 ^ 30
follows_if true before = follows_below before
follows_if false before = follows_above before

pub follows_before : (before slot other : ℕ) →
    (lap_before (before % 2 ^ 30) slot other + 1) % 2 ^ 30 ≡ due_at before slot other % 2 ^ 30
follows_before before slot other = follows_if (nat_lt other slot) before

pub due_below : (before slot other : ℕ) → other < slot → due_at before slot other ≡ before + 1
due_below before slot other less = simp (lt-ltb other slot less) refl

pub due_above : (before slot other : ℕ) → slot ≤ other → due_at before slot other ≡ before
due_above before slot other most = simp (le-ltb other slot most) refl

-- TICKETS

-- fewer rounds, by the tickets
pub fewer_rounds : (a b depth : ℕ) → a * depth < (b + 1) * depth → a ≤ b
fewer_rounds a b depth less = let fewer = lt_of_mul-lt-mul_right depth {m = a} {n = b + 1} less in omega (arith, fewer)

pub round_after : (a depth : ℕ) → (a + 1) * depth ≡ a * depth + depth
round_after a depth = omega arith

pub rounds_most : (a b depth : ℕ) → a ≤ b → a * depth ≤ b * depth
rounds_most a b depth most = mul-le-mul_right depth most
