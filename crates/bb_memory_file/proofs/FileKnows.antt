-- What a party knows of the words of a file is so after each event of its own, and after each step of
-- another process.
use Rattle.bb_memory_file.specs.FileCode.{ChangesNone, Finds, IsEntryIf, IsKnown, IsLifeIf, IsSeen, MayBe, left_by}
use Rattle.bb_memory_file.specs.FileLog.{EmptySlot, Event, ExchangeFlag, ExchangeSlot, FileLog, Has, HasNot, Holds, Known, LoadEntry, LoadFlag, LoadLife, LoadSlot, MissFlag, MissSlot, Seen, StoreEntry, StoreFlag, StoreLife, Unknown, Unseen, held_still, known_of, learns, life_by, seen_in, taken_from, told}
use Rattle.bb_memory_file.specs.FileLog as log
use Rattle.bb_memory_file.specs.FileNames.{DetachedBy, Empty, Entry, FileFlag, FileStep, Free, HeldBy, Message, SentTo, Slot}
use Rattle.bb_memory_file_machine.proofs.FileEffects.{Rests, below_end, one_value, rests}
use Rattle.bb_memory_file_machine.proofs.FileInvariant.{Sound}
use Rattle.bb_memory_file_machine.proofs.FileSound.{entry_there, there_below}
use Rattle.bb_memory_file_machine.proofs.FileSteps.{holds_always}
use Rattle.bb_memory_file_machine.proofs.FileTheorem.{buckets_always, effect_in, own_life_always}
use Rattle.bb_memory_file_machine.specs.FileLaws.{IsEntry, IsFlag, IsHolder, IsIn, IsLife, IsLock, IsSlot}
use Rattle.bb_memory_file_machine.specs.FileMachine.{FileChange, FileScene, FileState, FileWords, file_after, file_step, opening_state, process_of, same_flag, with_entry, with_flag, with_life, with_slot}
use Rattle.bb_memory_file_machine.specs.FileMachine as machine
use Rattle.bb_memory_lists.proofs.SliceGets.{length-set_at, slice_get-set, slice_get-set_apart, slice_get-set_same}
use Rattle.std.proofs.Common.{Bool, List, None, Option, Some, [], ap, arith, false, inl, inr, length, refl, subst, sym, true, ℕ, ◌++◌, ◌∙◌, ◌∷◌, ◌≡◌, ◌≢◌}
use Rattle.std.proofs.lemmas.Bool.{eqb-false, eqb-true}
use Rattle.std.specs.Prelude.{if◌then◌else◌, slice_get, slice_set, ◌==◌}

-- a flag that the test finds to be that of a bucket of the party is that flag
held_flag : (party : ℕ) (flag : FileFlag) → same_flag flag (HeldBy party) ≡ true → flag ≡ HeldBy party
held_flag party Free is = absurd (cc)
held_flag party (HeldBy other) is = ap HeldBy (eqb-true other party is)
held_flag party (SentTo slot lap) is = absurd (cc)
held_flag party (DetachedBy other) is = absurd (cc)

-- WORDS THAT ARE KEPT

module _ (words later : FileWords) (party bucket : ℕ) where
  -- an entry that is known stays so while the bucket's entry stays
  entry_kept : (entry : Option Entry) → slice_get later.entries bucket ≡ slice_get words.entries bucket →
      IsEntryIf words bucket entry → IsEntryIf later bucket entry
  entry_kept None same is = tt
  entry_kept (Some entry) same is = same ∙ is

  -- what was seen of the bucket stays so while all slots stay
  seen_kept : (seen : Seen) → later.slots ≡ words.slots → IsSeen words bucket seen → IsSeen later bucket seen
  seen_kept Unseen same is = tt
  seen_kept (Has slot lap) same is = ap (λ (l : List Slot). slice_get l slot) same ∙ is
  seen_kept (HasNot slot) same is = λ now. is (now.0, ap (λ (l : List Slot). slice_get l slot) (sym same) ∙ now.1)

  -- what is known of the bucket stays so while the party keeps it, and its entry and all slots stay
  pub known_kept : (known : Known) → (IsHolder words bucket party → IsHolder later bucket party) →
      slice_get later.entries bucket ≡ slice_get words.entries bucket → later.slots ≡ words.slots →
      IsKnown words party bucket known → IsKnown later party bucket known
  known_kept Unknown kept entries slots so = tt
  known_kept (Holds entry seen) kept entries slots (held, is, has) =
      (kept held, entry_kept entry entries is, seen_kept seen slots has)

  -- what was seen of a bucket that the party holds stays so while other processes take steps
  seen_rests : (process : ℕ) (seen : Seen) → Rests words later party process → IsHolder words bucket party →
      IsSeen words bucket seen → IsSeen later bucket seen
  seen_rests process Unseen r held is = tt
  seen_rests process (Has slot lap) r held is = r.stays bucket slot lap held is
  seen_rests process (HasNot slot) r held is = λ now. is (now.0, r.filled bucket slot now.0 held now.1)

  -- what is known of the bucket stays so while other processes take steps
  pub known_rests : (process : ℕ) (known : Known) → Rests words later party process → IsKnown words party bucket known →
      IsKnown later party bucket known
  known_rests process Unknown r so = tt
  known_rests process (Holds entry seen) r (held, is, has) =
      (r.kept bucket held, entry_kept entry (r.entries bucket held) is, seen_rests process seen r held has)

-- AN EVENT OF THE PARTY

module _ (words : FileWords) (party bucket : ℕ) (sound : Sound words) where
  -- the flag of the bucket is found, and says whether the party holds it
  known_found : (found : FileFlag) (known : Known) (held : Bool) → same_flag found (HeldBy party) ≡ held →
      IsFlag words bucket found → IsKnown words party bucket known →
      IsKnown words party bucket (if held then held_still known else Unknown)
  known_found found known false e is so = tt
  known_found found Unknown true e is so = (is ∙ ap (λ (f : FileFlag). Some f) (held_flag party found e), tt, tt)
  known_found found (Holds entry seen) true e is so = so

  -- the party takes the bucket, whose flag said where it is
  known_taken : (from : FileFlag) (later : FileWords) → IsFlag words bucket from → IsHolder later bucket party →
      later.entries ≡ words.entries → later.slots ≡ words.slots → IsKnown later party bucket (taken_from from)
  known_taken Free later is held entries slots =
      (held, ap (λ (l : List Entry). slice_get l bucket) entries ∙ sound.nowhere bucket (inl is), tt)
  known_taken (DetachedBy other) later is held entries slots =
      (held, ap (λ (l : List Entry). slice_get l bucket) entries ∙ sound.nowhere bucket (inr (other, is)), tt)
  known_taken (SentTo slot lap) later is held entries slots =
      (held, tt, ap (λ (l : List Slot). slice_get l slot) slots ∙ sound.sent bucket slot lap is)
  known_taken (HeldBy other) later is held entries slots = (held, tt, tt)

  -- the flag of the bucket is exchanged
  known_exchanged : (from to : FileFlag) (held : Bool) → same_flag to (HeldBy party) ≡ held → IsFlag words bucket from →
      IsKnown (with_flag words bucket to) party bucket (if held then taken_from from else Unknown)
  known_exchanged from to false e is = tt
  known_exchanged from to true e is = known_taken from (with_flag words bucket to) is
      (slice_get-set_same words.flags bucket to from is ∙ ap (λ (f : FileFlag). Some f) (held_flag party to e)) refl refl

  -- the entry of the bucket is found
  known_entry : (found : Entry) (known : Known) → IsEntry words bucket found → IsKnown words party bucket known →
      IsKnown words party bucket (log.with_entry known found)
  known_entry found Unknown is so = tt
  known_entry found (Holds old seen) is (held, entry, has) = (held, is, has)

  -- the entry of the bucket is written
  known_entered : (to : Entry) (known : Known) → IsKnown words party bucket known →
      IsKnown (with_entry words bucket to) party bucket (log.with_entry known to)
  known_entered to Unknown so = tt
  known_entered to (Holds old seen) (held, entry, has) =
      let there = entry_there words bucket (HeldBy party) sound held in (
        held,
        slice_get-set_same words.entries bucket to there.0 there.1,
        seen_kept words (with_entry words bucket to) party bucket seen refl has,
      )

  -- a slot says that it has the bucket, or that it hasn't
  seen_there : (later : FileWords) (slot : ℕ) (found : Slot) → IsSlot later slot found →
      IsSeen later bucket (seen_in bucket slot found)
  seen_there later slot (Empty lap) is =
      λ now. let same = one_value later.slots slot (Empty lap) (Message now.0 bucket) is now.1 in absurd (cc)
  seen_there later slot (Message lap other) is = seen_has later slot lap other (other == bucket) refl is
    where
      seen_has : (later : FileWords) (slot lap other : ℕ) (same : Bool) → (other == bucket) ≡ same →
          IsSlot later slot (Message lap other) → IsSeen later bucket (if same then Has slot lap else HasNot slot)
      seen_has later slot lap other true e is = is ∙ ap (λ (b : ℕ). Some (Message lap b)) (eqb-true other bucket e)
      seen_has later slot lap other false e is =
          λ now.
          let same = one_value later.slots slot (Message lap other) (Message now.0 bucket) is now.1 in
          absurd (eqb-false other bucket e (cc))

  -- the party has seen a slot, after a write to slots only
  known_seen : (later : FileWords) (known : Known) (seen : Seen) → later.flags ≡ words.flags →
      later.entries ≡ words.entries → IsSeen later bucket seen → IsKnown words party bucket known →
      IsKnown later party bucket (log.with_seen known seen)
  known_seen later Unknown seen flags entries is so = tt
  known_seen later (Holds entry old) seen flags entries is (held, known, has) = (
    ap (λ (l : List FileFlag). slice_get l bucket) flags ∙ held,
    entry_kept words later party bucket entry (ap (λ (l : List Entry). slice_get l bucket) entries) known,
    is,
  )

  -- a slot that the party has emptied hasn't the bucket
  not_emptied : (slot next : ℕ) → ¬ IsIn (with_slot words slot (Empty next)) bucket slot
  not_emptied slot next (lap, now) = elim (slice_get-set words.slots slot slot (Empty next) (Message lap bucket) now) [
    | inl before ↦
        let after = one_value (slice_set words.slots slot (Empty next)) slot (Empty next) (Message lap bucket)
        (slice_get-set_same words.slots slot (Empty next) (Message lap bucket) before) now in absurd (cc)
    | inr this ↦ let same = this.1 in absurd (cc)
  ]

  -- the flag of another bucket is written
  known_apart : (other : ℕ) (to : FileFlag) (known : Known) → other ≢ bucket → IsKnown words party bucket known →
      IsKnown (with_flag words other to) party bucket known
  known_apart other to known apart so = known_kept words (with_flag words other to) party bucket known
      (λ held. slice_get-set_apart words.flags other bucket to apart ∙ held) refl refl so

  -- the entry of another bucket is written
  known_beside : (other : ℕ) (to : Entry) (known : Known) → other ≢ bucket → IsKnown words party bucket known →
      IsKnown (with_entry words other to) party bucket known
  known_beside other to known apart so = known_kept words (with_entry words other to) party bucket known
      (λ held. held) (slice_get-set_apart words.entries other bucket to apart) refl so

  -- EACH EVENT, ON THE BUCKET OR ON ANOTHER

  -- a flag is found
  after_load : (other : ℕ) (found : FileFlag) (known : Known) (same : Bool) → (other == bucket) ≡ same →
      IsFlag words other found → IsKnown words party bucket known →
      IsKnown words party bucket (if same then (if same_flag found (HeldBy party) then held_still known else Unknown) else known)
  after_load other found known true e is so =
      known_found found known (same_flag found (HeldBy party)) refl
      (ap (slice_get words.flags) (sym (eqb-true other bucket e)) ∙ is) so
  after_load other found known false e is so = so

  -- a flag is exchanged
  after_exchange : (other : ℕ) (from to : FileFlag) (known : Known) (same : Bool) → (other == bucket) ≡ same →
      IsFlag words other from → IsKnown words party bucket known → IsKnown (with_flag words other to) party bucket
      (if same then (if same_flag to (HeldBy party) then taken_from from else Unknown) else known)
  after_exchange other from to known true e is so =
      let at : other ≡ bucket = eqb-true other bucket e in
      subst (λ (b : ℕ). IsKnown (with_flag words b to) party bucket
      (if same_flag to (HeldBy party) then taken_from from else Unknown))
      (sym at)
      (known_exchanged from to (same_flag to (HeldBy party)) refl (ap (slice_get words.flags) (sym at) ∙ is))
  after_exchange other from to known false e is so = known_apart other to known (eqb-false other bucket e) so

  -- a flag is stored
  after_store : (other : ℕ) (to : FileFlag) (known : Known) (same : Bool) → (other == bucket) ≡ same →
      IsKnown words party bucket known → IsKnown (with_flag words other to) party bucket (if same then Unknown else known)
  after_store other to known true e so = tt
  after_store other to known false e so = known_apart other to known (eqb-false other bucket e) so

  -- an entry is found
  after_entry : (other : ℕ) (found : Entry) (known : Known) (same : Bool) → (other == bucket) ≡ same →
      IsEntry words other found → IsKnown words party bucket known →
      IsKnown words party bucket (if same then log.with_entry known found else known)
  after_entry other found known true e is so =
      known_entry found known (ap (slice_get words.entries) (sym (eqb-true other bucket e)) ∙ is) so
  after_entry other found known false e is so = so

  -- an entry is stored
  after_write : (other : ℕ) (to : Entry) (known : Known) (same : Bool) → (other == bucket) ≡ same →
      IsKnown words party bucket known →
      IsKnown (with_entry words other to) party bucket (if same then log.with_entry known to else known)
  after_write other to known true e so =
      subst (λ (b : ℕ). IsKnown (with_entry words b to) party bucket (log.with_entry known to)) (sym (eqb-true other bucket e))
      (known_entered to known so)
  after_write other to known false e so = known_beside other to known (eqb-false other bucket e) so

  -- what the party knows of a bucket is so after an event that finds what it found
  pub known_after : (event : Event) (known : Known) → Finds words party event → IsKnown words party bucket known →
      IsKnown (left_by words party event) party bucket (learns party bucket known event)
  known_after (LoadFlag other found) known is so = after_load other found known (other == bucket) refl is so
  known_after (ExchangeFlag other from to) known is so = after_exchange other from to known (other == bucket) refl is so
  known_after (MissFlag other from) known is so = so
  known_after (StoreFlag other to) known is so = after_store other to known (other == bucket) refl so
  known_after (LoadEntry other found) known is so = after_entry other found known (other == bucket) refl is so
  known_after (StoreEntry other to) known is so = after_write other to known (other == bucket) refl so
  known_after (LoadSlot slot found) known is so =
      known_seen words known (seen_in bucket slot found) refl refl (seen_there words slot found is) so
  known_after (ExchangeSlot slot from to) known is so =
      let later : FileWords = with_slot words slot to in
      known_seen later known (seen_in bucket slot to) refl refl
      (seen_there later slot to (slice_get-set_same words.slots slot to from is)) so
  known_after (MissSlot slot from) known is so = so
  known_after (EmptySlot slot next) known is so =
      known_seen (with_slot words slot (Empty next)) known (HasNot slot) refl refl (not_emptied slot next) so
  known_after (LoadLife found) known is so = so
  known_after (StoreLife to) known is so =
      known_kept words (with_life words party to) party bucket known (λ held. held) refl refl so

-- LOCKS, LIVES AND FIGURES

-- no event changes a lock
locks_left : (words : FileWords) (party : ℕ) (event : Event) → (left_by words party event).locks ≡ words.locks
locks_left words party (ExchangeFlag bucket from to) = refl
locks_left words party (StoreFlag bucket to) = refl
locks_left words party (StoreEntry bucket to) = refl
locks_left words party (ExchangeSlot slot from to) = refl
locks_left words party (EmptySlot slot next) = refl
locks_left words party (StoreLife to) = refl
locks_left words party _ = refl

-- no event changes how many buckets there are
flags_left : (words : FileWords) (party : ℕ) (event : Event) → length (left_by words party event).flags ≡ length words.flags
flags_left words party (ExchangeFlag bucket from to) = length-set_at words.flags bucket to
flags_left words party (StoreFlag bucket to) = length-set_at words.flags bucket to
flags_left words party (StoreEntry bucket to) = refl
flags_left words party (ExchangeSlot slot from to) = refl
flags_left words party (EmptySlot slot next) = refl
flags_left words party (StoreLife to) = refl
flags_left words party _ = refl

-- an event that changes no word leaves the words as they are
pub left_same : (words : FileWords) (party : ℕ) (event : Event) → ChangesNone event → left_by words party event ≡ words
left_same words party (ExchangeFlag bucket from to) none = absurd none
left_same words party (StoreFlag bucket to) none = absurd none
left_same words party (StoreEntry bucket to) none = absurd none
left_same words party (ExchangeSlot slot from to) none = absurd none
left_same words party (EmptySlot slot next) none = absurd none
left_same words party (StoreLife to) none = absurd none
left_same words party _ none = refl

-- a number with a lock has a life
life_there : (words : FileWords) (party process : ℕ) → Sound words → IsLock words party process →
    (life : ℕ) × IsLife words party life
life_there words party process sound lock =
    let below = below_end words.locks party (Some process) lock in
    let same = sound.same_lives in
    there_below words.lives party (omega (arith, below, same))

module _ (words : FileWords) (party process : ℕ) (sound : Sound words) (lock : IsLock words party process) (events : List Event)
    (life : IsLifeIf words party (life_by events)) where
  -- a life that is known stays so while all lives stay
  life_kept : (later : FileWords) (known : Option ℕ) → later.lives ≡ words.lives → IsLifeIf words party known →
      IsLifeIf later party known
  life_kept later None same is = tt
  life_kept later (Some found) same is = ap (λ (l : List ℕ). slice_get l party) same ∙ is

  -- what the party knows of its life is so after an event that finds what it found
  life_after : (event : Event) → Finds words party event → IsLifeIf (left_by words party event) party (life_by (event ∷ events))
  life_after (LoadLife found) is = is
  life_after (StoreLife to) is =
      let there = life_there words party process sound lock in slice_get-set_same words.lives party to there.0 there.1
  life_after (ExchangeFlag bucket from to) is = life_kept (with_flag words bucket to) (life_by events) refl life
  life_after (StoreFlag bucket to) is = life_kept (with_flag words bucket to) (life_by events) refl life
  life_after (StoreEntry bucket to) is = life_kept (with_entry words bucket to) (life_by events) refl life
  life_after (ExchangeSlot slot from to) is = life_kept (with_slot words slot to) (life_by events) refl life
  life_after (EmptySlot slot next) is = life_kept (with_slot words slot (Empty next)) (life_by events) refl life
  life_after _ is = life

-- THE WHOLE

-- After an event that finds what it found, the process may find the words that it leaves.
pub may_be_after : (words : FileWords) (known : FileLog) (process : ℕ) (event : Event) → Sound words → MayBe known process words →
    Finds words known.party event → MayBe (told known event) process (left_by words known.party event)
may_be_after words known process event sound may is = record {
  buckets = flags_left words known.party event ∙ may.buckets;
  lock = ap (λ (l : List (Option ℕ)). slice_get l known.party) (locks_left words known.party event) ∙ may.lock;
  known = λ bucket. known_after words known.party bucket sound event (known_of known bucket) is (may.known bucket);
  life = life_after words known.party process sound may.lock known.events may.life event is;
}

-- the state after one more step
pub after_one : (state : FileState) (steps : List FileStep) (step : FileStep) →
    file_after state (steps ++ step ∷ []) ≡ (file_step (file_after state steps) step).state
after_one state [] step = refl
after_one state (first ∷ steps) step = after_one (file_step state first).state steps step

-- the life of a party stays while other processes take steps
life_rests : (scene : FileScene) (steps : List FileStep) (step : FileStep) (party process : ℕ) (known : Option ℕ) →
    IsLock (machine.left_by scene steps).words party process → process_of step ≢ process →
    IsLifeIf (machine.left_by scene steps).words party known →
    IsLifeIf (file_step (machine.left_by scene steps) step).state.words party known
life_rests scene steps step party process None lock apart is = tt
life_rests scene steps step party process (Some life) lock apart is =
    own_life_always scene steps step process party life lock is apart

-- After a step of another process, the process may find the words that it leaves.
pub may_be_rests : (scene : FileScene) (steps : List FileStep) (step : FileStep) (known : FileLog) (process : ℕ) →
    process_of step ≢ process → MayBe known process (machine.left_by scene steps).words →
    MayBe known process (file_step (machine.left_by scene steps) step).state.words
may_be_rests scene steps step known process apart may =
    let state : FileState = machine.left_by scene steps in
    let change : FileChange = file_step state step in
    let r : Rests state.words change.state.words known.party process =
    rests state.words change.state.words (process_of step) change.outcome known.party process
    (effect_in state step (holds_always scene steps)) may.lock apart in
    record {
      buckets = sym (ap (λ (s : FileState). length s.words.flags) (after_one (opening_state scene) steps step))
          ∙ buckets_always scene (steps ++ step ∷ []) ∙ sym (buckets_always scene steps) ∙ may.buckets;
      lock = r.lock;
      known = λ bucket.
          known_rests state.words change.state.words known.party bucket process (known_of known bucket) r (may.known bucket);
      life = life_rests scene steps step known.party process (life_by known.events) may.lock apart may.life;
    }
