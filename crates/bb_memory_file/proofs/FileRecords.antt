-- Recorded operations are true acts, and what they leave is what steps of the machine leave.
use Rattle.bb_memory_file.proofs.FileRows.{events_are, looks_are}
use Rattle.bb_memory_file.proofs.FileRunTheorem.{is_machines}
use Rattle.bb_memory_file.specs.FileCode.{ChangesNone}
use Rattle.bb_memory_file.specs.FileFormat.{EntryOf, FlagOf, IsGeometry, LifeOf, Part, SlotOf, entry_at, event_of, event_on, flag_at, life_at, part_at, slot_at}
use Rattle.bb_memory_file.specs.FileNames.{FileStep, Outside, Place}
use Rattle.bb_memory_file.specs.FileOperations.{AreLooks, IsLook, looks_at_entry, looks_at_flag, looks_at_life, looks_at_slot}
use Rattle.bb_memory_file.specs.FileRecords.{AreBy, AreKept, AreLives, IsKept, IsMachinesRow, IsRecord, IsTold, Tells, act_by, acts_by, changes_lock, is_operation, nothing, operates, operations_in, party_by}
use Rattle.bb_memory_file.specs.FileRows.{IsEvent, Says}
use Rattle.bb_memory_file.specs.FileRuns.{Act, Dies, Frees, IsMachines, IsRun, IsTrue, Life, Locks, Operates, Unlocks, acted, actor, own, words_after}
use Rattle.bb_memory_file.specs.FileRuns as runs
use Rattle.bb_memory_file.specs.Recorded.{AllFound, Exchange, IsFoundIn, Load, Run, Store, WordEvent, of_hand, written}
use Rattle.bb_memory_file.specs.Recorded as row
use Rattle.bb_memory_file.specs.declared.geometry.FileGeometry.{FileGeometry}
use Rattle.bb_memory_file_machine.specs.FileMachine.{FileScene, FileWords, opening_state}
use Rattle.bb_memory_pool_machine.proofs.PoolSteps.{test_same}
use Rattle.std.proofs.Common.{Bool, List, None, Option, Some, [], ap, false, length, refl, subst, sym, true, ℕ, ◌∙◌, ◌∷◌, ◌≡◌}
use Rattle.std.proofs.lemmas.Bool.{eqb-true}
use Rattle.std.proofs.lemmas.List.{length-set}
use Rattle.std.specs.Prelude.{if◌then◌else◌, slice_set, ◌==◌}

-- THE LENGTH OF THE ROW

exchanged_length : (words : List ℕ) (word to : ℕ) (hit : Bool) →
    length (if hit then slice_set words word to else words) ≡ length words
exchanged_length words word to true = length-set words word to
exchanged_length words word to false = refl

written_length : (words : List ℕ) (operation : WordEvent) → length (written words operation) ≡ length words
written_length words (Load word found) = refl
written_length words (Exchange word from to found) = exchanged_length words word to (found == from)
written_length words (Store word to) = length-set words word to

run_length : (start : List ℕ) (run : Run) → length (row.words_after start run) ≡ length start
run_length start [] = refl
run_length start (entry ∷ run) = written_length (row.words_after start run) entry.1 ∙ run_length start run

-- ACTS ON LOCKS

lock_true : (words : FileWords) (act : Act) → is_operation act ≡ false → IsKept words act → IsTrue words act
lock_true words (Operates process party event) on kept = absurd (cc)
lock_true words (Locks process party) on kept = kept
lock_true words (Unlocks process party) on kept = tt
lock_true words (Dies process) on kept = tt
lock_true words (Frees process party) on kept = kept

lock_says : (geometry : FileGeometry) (now : List ℕ) (words : FileWords) (act : Act) → is_operation act ≡ false →
    Says geometry now words → Says geometry now (acted words act)
lock_says geometry now words (Operates process party event) on says = absurd (cc)
lock_says geometry now words (Locks process party) on says =
    record { flags = says.flags; lives = says.lives; entries = says.entries; slots = says.slots }
lock_says geometry now words (Unlocks process party) on says =
    record { flags = says.flags; lives = says.lives; entries = says.entries; slots = says.slots }
lock_says geometry now words (Dies process) on says = says
lock_says geometry now words (Frees process party) on says =
    record { flags = says.flags; lives = says.lives; entries = says.entries; slots = says.slots }

-- HANDS

-- what a hand has made was made when the last operation of the run wasn't
made_before : (geometry : FileGeometry) (party : Option ℕ) (operation : WordEvent) (operations : List WordEvent) (own' : Bool) →
    AreBy geometry party (if own' then operation ∷ operations else operations) → AreBy geometry party operations
made_before geometry (Some party) operation operations true made = (made.0, made.1.1)
made_before geometry None operation operations true made = made.1
made_before geometry party operation operations false made = made

-- the last operation of the run is one that its hand has made
made_last : (geometry : FileGeometry) (party : Option ℕ) (hand : ℕ) (operation : WordEvent) (operations : List WordEvent)
    (own' : Bool) → (hand == hand) ≡ own' → AreBy geometry party (if own' then operation ∷ operations else operations) →
    AreBy geometry party (operation ∷ operations)
made_last geometry party hand operation operations true test made = made
made_last geometry party hand operation operations false test made = let same = test_same hand hand refl in absurd (cc)

-- a hand's acts with one more operation
acts_more : (geometry : FileGeometry) (hand : ℕ) (party : Option ℕ) (operation : WordEvent) (operations : List WordEvent) →
    acts_by geometry hand party (operation ∷ operations)
    ≡ act_by geometry hand party operation ∷ acts_by geometry hand party operations
acts_more geometry hand (Some party) operation operations = refl
acts_more geometry hand None operation operations = refl

-- the acts of a hand with one more operation
operated : (geometry : FileGeometry) (parties : ℕ → Option ℕ) (hand by : ℕ) (operation : WordEvent) (operations : List WordEvent)
    (acts : List Act) (own' : Bool) → (by == hand) ≡ own' → operations_in acts ≡ acts_by geometry hand (parties hand) operations →
    operations_in (if own' then act_by geometry by (parties by) operation ∷ acts else acts)
    ≡ acts_by geometry hand (parties hand) (if own' then operation ∷ operations else operations)
operated geometry parties hand by operation operations acts true test before =
    ap (λ (h : ℕ). act_by geometry h (parties h) operation ∷ operations_in acts) (eqb-true by hand test)
    ∙ ap (λ (rest : List Act). act_by geometry hand (parties hand) operation ∷ rest) before
    ∙ sym (acts_more geometry hand (parties hand) operation operations)
operated geometry parties hand by operation operations acts false test before = before

-- the acts of a hand with one more act on a lock
locked : (act : Act) (acts : List Act) (own' : Bool) → is_operation act ≡ false →
    operations_in (if own' then act ∷ acts else acts) ≡ operations_in acts
locked act acts true on = rw on refl
locked act acts false on = refl

-- no acts of a hand: it has no operations either
no_acts : (geometry : FileGeometry) (hand : ℕ) (party : Option ℕ) → [] ≡ acts_by geometry hand party []
no_acts geometry hand (Some party) = refl
no_acts geometry hand None = refl

-- an operation is the event that it is, whether by a party or a look
event_by : (geometry : FileGeometry) (now : List ℕ) (words : FileWords) → IsGeometry geometry (length now) →
    Says geometry now words → (party : Option ℕ) (operation : WordEvent) (operations : List WordEvent) → AreBy geometry party (operation ∷ operations) →
    IsFoundIn now operation → IsEvent geometry (party_by geometry party operation) now words operation
event_by geometry now words is says (Some party) operation operations made found =
    events_are geometry now words is says party made.0 operation made.1.0 found
event_by geometry now words is says None operation operations made found =
    looks_are geometry now words is says operation made.0 found

module _ (geometry : FileGeometry) (scene : FileScene) (parties : ℕ → Option ℕ) (start : List ℕ)
    (is : IsGeometry geometry (length start)) (first : Says geometry start (opening_state scene).words) where
  told_by : (run : Run) (acts : List Act) → Tells geometry parties run acts → AllFound start run →
      ((hand : ℕ) → AreBy geometry (parties hand) (of_hand hand run)) → AreKept scene acts →
      IsTold geometry scene parties start run acts
  told_by all every nothing found made kept =
      record { true = tt; says = first; logs = λ hand. no_acts geometry hand (parties hand) }
  told_by all every (operates run acts hand operation tells) found made kept =
      let before = told_by run acts tells found.1 (λ other. made_before geometry (parties other) operation (of_hand other run)
      (hand == other) (made other)) kept.2 in
      let now : List ℕ = row.words_after start run in
      let event : IsEvent geometry (party_by geometry (parties hand) operation) now (words_after scene acts) operation =
      event_by geometry now (words_after scene acts) (subst (λ (n : ℕ). IsGeometry geometry n) (sym (run_length start run)) is)
      before.says (parties hand) operation (of_hand hand run)
      (made_last geometry (parties hand) hand operation (of_hand hand run) (hand == hand) refl (made hand)) found.0 in record {
        true = (kept.0, event.finds, before.true);
        says = event.says;
        logs = λ other. operated geometry parties other hand operation (of_hand other run) (own other acts) (hand == other) refl
            (before.logs other);
      }
  told_by all every (changes_lock run acts act party tells on its) found made kept =
      let before = told_by run acts tells found made kept.2 in record {
        true = (kept.0, lock_true (words_after scene acts) act on kept.1, before.true);
        says = lock_says geometry (row.words_after start run) (words_after scene acts) act on before.says;
        logs = λ hand. locked act (own hand acts) (actor act == hand) on ∙ before.logs hand;
      }

pub is_told : (geometry : FileGeometry) (scene : FileScene) (parties : ℕ → Option ℕ) (start : List ℕ) (run : Run)
    (acts : List Act) → IsRecord geometry scene parties start run acts → IsTold geometry scene parties start run acts
is_told geometry scene parties start run acts record' =
    told_by geometry scene parties start record'.geometry_is record'.start_is run acts record'.tells record'.found record'.made
    record'.kept

-- LIVES

-- a load changes no word
none_loaded : (slots : ℕ) (part : Part) (word found : ℕ) → ChangesNone (event_on slots part (Load word found))
none_loaded slots (FlagOf bucket) word found = tt
none_loaded slots (LifeOf party) word found = tt
none_loaded slots (EntryOf bucket) word found = tt
none_loaded slots (SlotOf slot) word found = tt

none_looked : (geometry : FileGeometry) (operation : WordEvent) → IsLook geometry operation →
    ChangesNone (event_of geometry operation)
none_looked geometry operation (looks_at_flag bucket found below) =
    none_loaded geometry.slots (part_at geometry (flag_at geometry bucket)) (flag_at geometry bucket) found
none_looked geometry operation (looks_at_entry bucket found below) =
    none_loaded geometry.slots (part_at geometry (entry_at geometry bucket)) (entry_at geometry bucket) found
none_looked geometry operation (looks_at_slot slot found below) =
    none_loaded geometry.slots (part_at geometry (slot_at geometry slot)) (slot_at geometry slot) found
none_looked geometry operation (looks_at_life party found below) =
    none_loaded geometry.slots (part_at geometry (life_at geometry party)) (life_at geometry party) found

module _ (geometry : FileGeometry) (scene : FileScene) (parties : ℕ → Option ℕ) (hand : ℕ) (no_party : parties hand ≡ None) where
  -- one more operation of a hand, which is a look if it is this hand's
  look_on : (by : ℕ) (operation : WordEvent) (operations : List WordEvent) (acts : List Act) (own' : Bool) → (by == hand) ≡ own' →
      AreLooks geometry (if own' then operation ∷ operations else operations) →
      (AreLooks geometry operations → Life scene hand acts [] Outside) →
      Life scene hand (if own' then act_by geometry by (parties by) operation ∷ acts else acts) [] Outside
  look_on by operation operations acts true test looks before =
      subst (λ (h : ℕ). Life scene hand (act_by geometry h (parties h) operation ∷ acts) [] Outside) (sym (eqb-true by hand test))
      (runs.looks (party_by geometry (parties hand) operation) (event_of geometry operation) acts (before looks.1)
      (none_looked geometry operation looks.0))
  look_on by operation operations acts false test looks before = before looks

  -- one more act on a lock, which isn't this hand's
  lock_on : (act : Act) (party : ℕ) (acts : List Act) (own' : Bool) → (actor act == hand) ≡ own' →
      parties (actor act) ≡ Some party → Life scene hand acts [] Outside → Life scene hand (if own' then act ∷ acts else acts) [] Outside
  lock_on act party acts true test its before =
      let same : parties (actor act) ≡ parties hand = ap parties (eqb-true (actor act) hand test) in absurd (cc)
  lock_on act party acts false test its before = before

  -- a hand with no party's number only looks
  only_looks : (run : Run) (acts : List Act) → Tells geometry parties run acts → AreLooks geometry (of_hand hand run) →
      Life scene hand (own hand acts) [] Outside
  only_looks all every nothing looks = runs.sleeps
  only_looks all every (operates run acts by operation tells) looks =
      look_on by operation (of_hand hand run) (own hand acts) (by == hand) refl looks (only_looks run acts tells)
  only_looks all every (changes_lock run acts act party tells on its) looks =
      lock_on act party (own hand acts) (actor act == hand) refl its (only_looks run acts tells looks)

module _ (geometry : FileGeometry) (scene : FileScene) (parties : ℕ → Option ℕ) (start : List ℕ) (run : Run) (acts : List Act)
    (taken : ℕ → List FileStep) (places : ℕ → Place) (record' : IsRecord geometry scene parties start run acts)
    (lives : AreLives scene parties acts taken places) where
  -- each process has a life
  life_of : (process : ℕ) (party : Option ℕ) → parties process ≡ party →
      Life scene process (own process acts) (taken process) (places process)
  life_of process (Some party) its = lives.lives process party its
  life_of process None its =
      let at = lives.looks process its in
      let looks : AreLooks geometry (of_hand process run) =
      subst (λ (p : Option ℕ). AreBy geometry p (of_hand process run)) its (record'.made process) in
      let life = only_looks geometry scene parties process its run acts record'.tells looks in
      subst (λ (steps : List FileStep). Life scene process (own process acts) steps (places process)) (sym at.0)
      (subst (λ (place : Place). Life scene process (own process acts) [] place) (sym at.1) life)

  -- the acts are a run
  pub is_run : IsRun scene acts taken places
  is_run = record {
    true = (is_told geometry scene parties start run acts record').true;
    lives = λ process. life_of process (parties process) refl;
  }

  pub is_machines_row : IsMachinesRow geometry scene start run acts taken places
  is_machines_row =
      let told = is_told geometry scene parties start run acts record' in
      let machine : IsMachines scene acts taken places = is_machines scene acts taken places is_run in
      record {
        machine = machine;
        says = subst (λ (words : FileWords). Says geometry (row.words_after start run) words) (sym machine.words) told.says;
      }
