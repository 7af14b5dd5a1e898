-- Each effect keeps the words sound.
use Rattle.bb_memory_file_machine.proofs.FileEffects.{below_end, one_value, set_cases, stays_apart}
use Rattle.bb_memory_file_machine.proofs.FileInvariant.{Sound}
use Rattle.bb_memory_file_machine.specs.FileLaws.{Effect, IsEntry, IsFlag, IsHeld, IsHolder, IsIdle, IsIn, IsInSome, IsSlot, attaches, clears, counts, detaches, empties, enters, fills, frees_lock, gives_back, none, receives, sends, takes, takes_lock}
use Rattle.bb_memory_file_machine.specs.FileMachine.{DetachedBy, Empty, Entry, FileFlag, FileOutcome, FileWords, Free, HeldBy, In, Message, Nowhere, SentTo, with_entry, with_flag, with_lock, with_slot}
use Rattle.bb_memory_lists.proofs.SliceGets.{length-set_at, slice_get-set_apart, slice_get-set_at}
use Rattle.std.proofs.Common.{List, None, Option, Some, [], ap, arith, inl, inr, length, refl, suc, sym, zero, ℕ, ◌<◌, ◌∙◌, ◌∷◌, ◌≡◌, ◌≢◌}
use Rattle.std.proofs.lemmas.Bool.{cases_eq}
use Rattle.std.specs.Prelude.{slice_get, slice_set, ◌⊎◌}

-- the flag says that a party holds the bucket, or that the bucket is sent to this slot at this lap
abbrev SaysTaken : FileFlag → ℕ → ℕ → Type 0
SaysTaken flag slot lap = ((party : ℕ) × (flag ≡ HeldBy party)) ⊎ (flag ≡ SentTo slot lap)

-- the flag says that the bucket is free, or that a party has detached it by its number
abbrev SaysIdle : FileFlag → Type 0
SaysIdle flag = (flag ≡ Free) ⊎ ((party : ℕ) × (flag ≡ DetachedBy party))

-- FLAGS

module _ (words : FileWords) (bucket : ℕ) (old flag : FileFlag) (is : IsFlag words bucket old) where
  -- a bucket after another flag was written: the written one, or one whose flag is as before
  taken_after : (at slot lap : ℕ) → (bucket ≡ at → SaysTaken flag slot lap) →
      IsHeld words at ⊎ IsFlag words at (SentTo slot lap) →
      IsHeld (with_flag words bucket flag) at ⊎ IsFlag (with_flag words bucket flag) at (SentTo slot lap)
  taken_after at slot lap says before = elim (cases_eq bucket at) [
    | inl here ↦
        let now : IsFlag (with_flag words bucket flag) at flag = slice_get-set_at words.flags bucket at flag old here is in
        elim (says here) [
          | inl held ↦ inl (held.0, now ∙ ap Some held.1)
          | inr sent ↦ inr (now ∙ ap Some sent)
        ]
    | inr apart ↦
        let same = slice_get-set_apart words.flags bucket at flag apart in
        elim before [
          | inl held ↦ inl (held.0, same ∙ held.1)
          | inr sent ↦ inr (same ∙ sent)
        ]
  ]

  idle_before : (at : ℕ) → ¬ (bucket ≡ at) → IsIdle (with_flag words bucket flag) at → IsIdle words at
  idle_before at apart idle =
      let same = slice_get-set_apart words.flags bucket at flag apart in
      elim idle [
        | inl free ↦ inl (sym same ∙ free)
        | inr detached ↦ inr (detached.0, sym same ∙ detached.1)
      ]

  idle_here : (at : ℕ) → bucket ≡ at → IsIdle (with_flag words bucket flag) at → SaysIdle flag
  idle_here at here idle =
      let now : IsFlag (with_flag words bucket flag) at flag = slice_get-set_at words.flags bucket at flag old here is in
      elim idle [
        | inl free ↦ inl (one_value (slice_set words.flags bucket flag) at flag Free now free)
        | inr detached ↦
            inr (detached.0, one_value (slice_set words.flags bucket flag) at flag (DetachedBy detached.0) now detached.1)
      ]

  sound_flag : Sound words → ((slot lap : ℕ) → IsSlot words slot (Message lap bucket) → SaysTaken flag slot lap) →
      ((slot lap : ℕ) → flag ≡ SentTo slot lap → IsSlot words slot (Message lap bucket)) →
      (SaysIdle flag → IsEntry words bucket Nowhere) → Sound (with_flag words bucket flag)
  sound_flag sound says sent idle = record {
    same_entries = sound.same_entries ∙ sym (length-set_at words.flags bucket flag);
    same_lives = sound.same_lives;
    sent = λ at slot lap now. elim (set_cases words.flags bucket at flag old (SentTo slot lap) is now) [
      | inl before ↦ sound.sent at slot lap before.1
      | inr this ↦ sent slot lap this.1 ∙ ap (λ (b : ℕ). Some (Message lap b)) this.0
    ];
    taken = λ at slot lap has. taken_after at slot lap
        (λ here. says slot lap (has ∙ ap (λ (b : ℕ). Some (Message lap b)) (sym here))) (sound.taken at slot lap has);
    entered = sound.entered;
    nowhere = λ at now. elim (cases_eq bucket at) [
      | inl here ↦ ap (slice_get words.entries) (sym here) ∙ idle (idle_here at here now)
      | inr apart ↦ sound.nowhere at (idle_before at apart now)
    ];
  }

-- a bucket whose entry says that it is in no slot is in none
pub not_in_slot : (words : FileWords) (bucket : ℕ) → Sound words → IsEntry words bucket Nowhere → ¬ IsInSome words bucket
not_in_slot words bucket sound nowhere (slot, has) =
    let entered = sound.entered bucket slot has in
    let same = one_value words.entries bucket Nowhere (In slot entered.0) nowhere entered.1 in absurd (cc)

-- a bucket is in at most one slot
pub one_slot : (words : FileWords) (bucket slot other : ℕ) → Sound words → IsIn words bucket slot → IsIn words bucket other →
    slot ≡ other
one_slot words bucket slot other sound one two =
    let first = sound.entered bucket slot one in
    let second = sound.entered bucket other two in
    let same = one_value words.entries bucket (In slot first.0) (In other second.0) first.1 second.1 in cc

-- a position before the end has a value
pub there_below : {X : Type 0} (xs : List X) (i : ℕ) → i < length xs → (x : X) × (slice_get xs i ≡ Some x)
there_below [] i below = absurd (omega (arith, below))
there_below (x ∷ xs) zero below = (x, refl)
there_below (x ∷ xs) (suc i) below = there_below xs i (omega (arith, below))

-- a bucket that has a flag has an entry
pub entry_there : (words : FileWords) (bucket : ℕ) (flag : FileFlag) → Sound words → IsFlag words bucket flag →
    (entry : Entry) × IsEntry words bucket entry
entry_there words bucket flag sound is =
    let below = below_end words.flags bucket flag is in
    let same = sound.same_entries in
    there_below words.entries bucket (omega (arith, below, same))

-- a party comes to hold a bucket
sound_held : (words : FileWords) (party bucket : ℕ) (old : FileFlag) → Sound words → IsFlag words bucket old →
    Sound (with_flag words bucket (HeldBy party))
sound_held words party bucket old sound is = sound_flag words bucket old (HeldBy party) is sound
    (λ slot lap has. inl (party, refl)) (λ slot lap same. absurd (cc))
    (λ idle. elim idle [ inl free ↦ absurd (cc) | inr away ↦ absurd (let same = away.1 in cc) ])

-- a bucket in no slot is given back, or detached by its number
sound_idle : (words : FileWords) (party bucket : ℕ) (flag : FileFlag) → Sound words → IsHolder words bucket party →
    IsEntry words bucket Nowhere → ((slot lap : ℕ) → ¬ (flag ≡ SentTo slot lap)) → Sound (with_flag words bucket flag)
sound_idle words party bucket flag sound held nowhere unsent = sound_flag words bucket (HeldBy party) flag held sound
    (λ slot lap has. absurd (not_in_slot words bucket sound nowhere (slot, (lap, has))))
    (λ slot lap same. absurd (unsent slot lap same)) (λ idle. nowhere)

sound_sent : (words : FileWords) (party bucket slot lap : ℕ) → Sound words → IsHolder words bucket party →
    IsSlot words slot (Message lap bucket) → Sound (with_flag words bucket (SentTo slot lap))
sound_sent words party bucket slot lap sound held is = sound_flag words bucket (HeldBy party) (SentTo slot lap) held sound
    (λ other same has. inr (only other same has))
    (λ other same e. let slots : slot ≡ other = cc in let laps : lap ≡ same = cc in
    ap (slice_get words.slots) (sym slots) ∙ is ∙ ap (λ (l : ℕ). Some (Message l bucket)) laps)
    (λ idle. elim idle [ inl free ↦ absurd (cc) | inr away ↦ absurd (let same = away.1 in cc) ])
  where
    only : (other same : ℕ) → IsSlot words other (Message same bucket) → SentTo slot lap ≡ SentTo other same
    only other same has =
        let slots : slot ≡ other = one_slot words bucket slot other sound (lap, is) (same, has) in
        let one = one_value words.slots other (Message lap bucket) (Message same bucket)
        (ap (slice_get words.slots) (sym slots) ∙ is) has in
        let laps : lap ≡ same = cc in cc

-- ENTRIES

-- the entry of a bucket that a party holds, and that is in no slot, is replaced
sound_entry : (words : FileWords) (party bucket : ℕ) (entry : Entry) → Sound words → IsHolder words bucket party →
    ¬ IsInSome words bucket → Sound (with_entry words bucket entry)
sound_entry words party bucket entry sound held not_in = record {
  same_entries = length-set_at words.entries bucket entry ∙ sound.same_entries;
  same_lives = sound.same_lives;
  sent = sound.sent;
  taken = sound.taken;
  entered = λ at slot has.
      let apart : bucket ≢ at = λ same. not_in (slot, (has.0, has.1 ∙ ap (λ (b : ℕ). Some (Message has.0 b)) (sym same))) in
      let was = sound.entered at slot has in
      (was.0, slice_get-set_apart words.entries bucket at entry apart ∙ was.1);
  nowhere = λ at idle.
      let apart : bucket ≢ at = λ same. held_idle words party at (ap (slice_get words.flags) (sym same) ∙ held) idle in
      slice_get-set_apart words.entries bucket at entry apart ∙ sound.nowhere at idle;
}
  where
    held_idle : (words : FileWords) (party at : ℕ) → IsHolder words at party → ¬ IsIdle words at
    held_idle words party at held (inl free) = let same = one_value words.flags at (HeldBy party) Free held free in absurd (cc)
    held_idle words party at held (inr away) =
        let same = one_value words.flags at (HeldBy party) (DetachedBy away.0) held away.1 in absurd (cc)

-- SLOTS

sound_fill : (words : FileWords) (party slot bucket lap size : ℕ) → Sound words → IsHolder words bucket party →
    IsEntry words bucket (In slot size) → IsSlot words slot (Empty lap) → Sound (with_slot words slot (Message lap bucket))
sound_fill words party slot bucket lap size sound held entered empty = record {
  same_entries = sound.same_entries;
  same_lives = sound.same_lives;
  sent = λ at other same is.
      stays_apart words.slots slot other (Message lap bucket) (Empty lap) (Message same at) empty
      (sound.sent at other same is) (λ e. absurd (cc));
  taken = λ at other same now.
      elim (set_cases words.slots slot other (Message lap bucket) (Empty lap) (Message same at) empty now) [
        | inl before ↦ sound.taken at other same before.1
        | inr this ↦ let e = this.1 in let one : bucket ≡ at = cc in inl (party, ap (slice_get words.flags) (sym one) ∙ held)
      ];
  entered = λ at other now.
      elim (set_cases words.slots slot other (Message lap bucket) (Empty lap) (Message now.0 at) empty now.1) [
        | inl before ↦ sound.entered at other (now.0, before.1)
        | inr this ↦
            let e = this.1 in
            let one : bucket ≡ at = cc in
            (size, ap (slice_get words.entries) (sym one) ∙ entered ∙ ap (λ (s : ℕ). Some (In s size)) this.0)
      ];
  nowhere = sound.nowhere;
}

sound_empty : (words : FileWords) (party slot bucket lap next : ℕ) → Sound words → IsHolder words bucket party →
    IsSlot words slot (Message lap bucket) → Sound (with_slot words slot (Empty next))
sound_empty words party slot bucket lap next sound held is =
    let was : (at other same : ℕ) → IsSlot (with_slot words slot (Empty next)) other (Message same at) →
    IsSlot words other (Message same at) = λ at other same now.
    elim (set_cases words.slots slot other (Empty next) (Message lap bucket) (Message same at) is now) [
      | inl before ↦ before.1
      | inr this ↦ let e = this.1 in absurd (cc)
    ] in
    record {
      same_entries = sound.same_entries;
      same_lives = sound.same_lives;
      sent = λ at other same there.
          stays_apart words.slots slot other (Empty next) (Message lap bucket) (Message same at) is (sound.sent at other same there)
          (λ e. let one : bucket ≡ at = cc in
          let flags = one_value words.flags at (HeldBy party) (SentTo other same)
          (ap (slice_get words.flags) (sym one) ∙ held) there in absurd (cc));
      taken = λ at other same now. sound.taken at other same (was at other same now);
      entered = λ at other now. sound.entered at other (now.0, was at other now.0 now.1);
      nowhere = sound.nowhere;
    }

-- another lock, of as many
sound_lock : (words : FileWords) (party : ℕ) (lock : Option ℕ) → Sound words → Sound (with_lock words party lock)
sound_lock words party lock sound = record {
  same_entries = sound.same_entries;
  same_lives = sound.same_lives ∙ sym (length-set_at words.locks party lock);
  sent = sound.sent;
  taken = sound.taken;
  entered = sound.entered;
  nowhere = sound.nowhere;
}

pub sound_after : (words later : FileWords) (process : ℕ) (outcome : FileOutcome) → Effect words process outcome later →
    Sound words → Sound later
sound_after words later process outcome (none said quiet) sound = sound
sound_after words later process outcome (takes_lock party free) sound = sound_lock words party (Some process) sound
sound_after words later process outcome (frees_lock party own) sound = sound_lock words party None sound
sound_after words later process outcome (counts party life more own is less) sound = record {
  same_entries = sound.same_entries;
  same_lives = length-set_at words.lives party more ∙ sound.same_lives;
  sent = sound.sent;
  taken = sound.taken;
  entered = sound.entered;
  nowhere = sound.nowhere;
}
sound_after words later process outcome (takes party bucket own free) sound = sound_held words party bucket Free sound free
sound_after words later process outcome (gives_back party bucket own held nowhere) sound =
    sound_idle words party bucket Free sound held nowhere (λ slot lap same. absurd (cc))
sound_after words later process outcome (detaches party bucket own held nowhere) sound =
    sound_idle words party bucket (DetachedBy party) sound held nowhere (λ slot lap same. absurd (cc))
sound_after words later process outcome (attaches party bucket from own is) sound =
    sound_held words party bucket (DetachedBy from) sound is
sound_after words later process outcome (receives party bucket slot lap own is) sound =
    sound_held words party bucket (SentTo slot lap) sound is
sound_after words later process outcome (sends party bucket slot lap own held is) sound =
    sound_sent words party bucket slot lap sound held is
sound_after words later process outcome (enters party bucket slot size own held nowhere) sound =
    sound_entry words party bucket (In slot size) sound held (not_in_slot words bucket sound nowhere)
sound_after words later process outcome (clears party bucket own held not_in) sound =
    sound_entry words party bucket Nowhere sound held not_in
sound_after words later process outcome (fills party slot bucket lap size own held not_in entered empty) sound =
    sound_fill words party slot bucket lap size sound held entered empty
sound_after words later process outcome (empties party slot bucket lap next own held is) sound =
    sound_empty words party slot bucket lap next sound held is
