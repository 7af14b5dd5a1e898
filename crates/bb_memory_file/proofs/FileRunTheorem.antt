-- Each run is one of the machine.
use Rattle.bb_memory_file.proofs.FileKnows.{left_same}
use Rattle.bb_memory_file.proofs.FileRunSteps.{At, Fine, log_of, on_look, on_move, on_step, own_mine, own_other, session}
use Rattle.bb_memory_file.specs.FileCode.{Brings, Event, FileLog, Finds, MayBe, Path}
use Rattle.bb_memory_file.specs.FileCode as code
use Rattle.bb_memory_file.specs.FileLog.{fresh_log}
use Rattle.bb_memory_file.specs.FileNames.{Counting, Dead, FileStep, Kill, Lock, Outside, Place, Refused, Release, Unlock}
use Rattle.bb_memory_file.specs.FileRuns.{Act, AreTrue, Dies, Follows, Frees, IsMachines, IsRun, IsTrue, Life, Locks, MayUnlock, Operates, Unlocks, actor, acts_of, opens, own, words_after}
use Rattle.bb_memory_file.specs.FileRuns as runs
use Rattle.bb_memory_file_machine.specs.FileLaws.{IsLock}
use Rattle.bb_memory_file_machine.specs.FileMachine.{FileScene, FileWords, finds_own, is_own, left_by, move_at, opening_state, outcomes_of, with_lock}
use Rattle.bb_memory_lists.proofs.ListEntries.{contains-none}
use Rattle.bb_memory_lists.proofs.SliceGets.{slice_get-replicate}
use Rattle.bb_memory_pool_machine.proofs.PoolSteps.{test_same}
use Rattle.std.proofs.Common.{Bool, List, None, Some, [], ap, false, inl, inr, refl, reverse, subst, sym, true, ℕ, ◌++◌, ◌<◌, ◌∙◌, ◌∷◌, ◌≡◌}
use Rattle.std.proofs.lemmas.Bool.{eqb-false, eqb-true, ne_eqb}
use Rattle.std.specs.Prelude.{Contains, if◌then◌else◌, map, slice_get, ◌==◌}

-- STEPS ON LOCKS

module _ (words : FileWords) (process party : ℕ) where
  -- a process takes a free lock
  brings_lock : slice_get words.locks party ≡ Some None →
      Brings (move_at words Outside (Lock process party)) (with_lock words party (Some process)) (Counting party)
  brings_lock free = rw free (record { allowed = λ e. absurd (cc); words = refl; place = refl })

  -- a process frees the lock of its number
  brings_unlock : (here : Place) → MayUnlock party here →
      Brings (move_at words here (Unlock process)) (with_lock words party None) Outside
  brings_unlock here (inl settled) =
      subst (λ (p : Place). Brings (move_at words p (Unlock process)) (with_lock words party None) Outside) (sym settled)
      (record { allowed = λ e. absurd (cc); words = refl; place = refl })
  brings_unlock here (inr first) =
      subst (λ (p : Place). Brings (move_at words p (Unlock process)) (with_lock words party None) Outside) (sym first)
      (record { allowed = λ e. absurd (cc); words = refl; place = refl })

  -- the system frees a lock of a dead process
  brings_release : IsLock words party process →
      Brings (move_at words Dead (Release process party)) (with_lock words party None) Dead
  brings_release lock =
      let is : is_own words process party ≡ true = ap (finds_own process) lock ∙ test_same process process refl in
      rw is (record { allowed = λ e. absurd (cc); words = refl; place = refl })

-- a process is killed
brings_kill : (words : FileWords) (process : ℕ) (here : Place) → Brings (move_at words here (Kill process)) words Dead
brings_kill words process here = record { allowed = λ e. absurd (cc); words = refl; place = refl }

-- SESSIONS

-- a path leads to a log of the same party of the same file
pub path_same : (process : ℕ) (before : FileLog) (from : Place) (log : FileLog) (mine : List FileStep) (here : Place) →
    Path process before from log mine here → (log.scene ≡ before.scene) × (log.party ≡ before.party)
path_same process before from log mine here code.begins = (refl, refl)
path_same process before from all mine here (code.looks log taken at event path none) =
    path_same process before from log taken at path
path_same process before from all mine here (code.steps log taken at event step there path own_step made) =
    path_same process before from log taken at path
path_same process before from log mine here (code.moves same taken at step there path own_step made) =
    path_same process before from same taken at path

module _ (scene : FileScene) (process party : ℕ) (log : FileLog) (mine : List FileStep) (here : Place)
    (path : Path process (fresh_log scene party) (Counting party) log mine here) where
  -- a session's log is one of its party of the file
  pub log_same : log ≡ log_of scene party log.events
  log_same =
      let same = path_same process (fresh_log scene party) (Counting party) log mine here path in
      ap (λ (s : FileScene). log_of s log.party log.events) same.0 ∙ ap (λ (p : ℕ). log_of scene p log.events) same.1

  -- a session's acts are those that its log tells, after the one that took the lock
  pub acts_same : acts_of process log ++ Locks process party ∷ [] ≡ session process party log.events
  acts_same =
      let same = path_same process (fresh_log scene party) (Counting party) log mine here path in
      ap (λ (p : ℕ). map (λ event. Operates process p event) log.events ++ Locks process party ∷ []) same.1

  -- a process at work may find the words of the machine
  may_be : (acts : List Act) (all : List FileStep) (at : Place) (taken : ℕ → List FileStep) (places : ℕ → Place) →
      (now : At scene acts process all at taken places) →
      own process acts ≡ acts_of process log ++ Locks process party ∷ [] → MayBe log process (left_by scene now.steps).words
  may_be acts all at taken places now e =
      subst (λ (l : FileLog). MayBe l process (left_by scene now.steps).words) (sym log_same)
      (now.fine.knows party log.events (e ∙ acts_same))

-- ONE MORE ACT

module _ (scene : FileScene) (act : Act) (acts : List Act) (is : IsTrue (words_after scene acts) act) (taken : ℕ → List FileStep)
    (places : ℕ → Place)
    (before : (mine : List FileStep) (here : Place) → Life scene (actor act) (own (actor act) acts) mine here →
    At scene acts (actor act) mine here taken places) where
  abbrev me : ℕ
  me = actor act

  -- the machine has come to the state after this act
  abbrev Now : Act → List FileStep → Place → Type 0
  Now this mine here = At scene (this ∷ acts) me mine here taken places

  -- the process's life before the act
  came : (done : List Act) (mine : List FileStep) (here : Place) → Life scene me done mine here → done ≡ own me acts →
      At scene acts me mine here taken places
  came done mine here life e = before mine here (subst (λ (l : List Act). Life scene me l mine here) e life)

  -- an act that is the same as this one is true
  true_as : (this : Act) → this ≡ act → IsTrue (words_after scene acts) this
  true_as this same = subst (λ (a : Act). IsTrue (words_after scene acts) a) (sym same) is

  -- the act is the last one of a session that goes on
  on_path : (party : ℕ) (log : FileLog) (mine : List FileStep) (here : Place) →
      Path me (fresh_log scene party) (Counting party) log mine here →
      acts_of me log ++ Locks me party ∷ [] ≡ act ∷ own me acts → Now act (mine ++ Lock me party ∷ []) here
  on_path party log mine here code.begins e =
      let this : Locks me party ≡ act = cc in
      let now : At scene acts me [] Outside taken places = came [] [] Outside runs.sleeps (cc) in
      let free = subst (λ (w : FileWords). IsTrue w (Locks me party)) (sym now.words) (true_as (Locks me party) this) in
      subst (λ (a : Act). Now a (Lock me party ∷ []) (Counting party)) this
      (on_step scene (Locks me party) acts [] Outside taken places now (true_as (Locks me party) this) (Lock me party)
      (Counting party)
      refl (brings_lock (left_by scene now.steps).words me party free))
  on_path party all mine here (code.looks log done at event path none) e =
      let this : Operates me log.party event ≡ act = cc in
      let all' : List FileStep = done ++ Lock me party ∷ [] in
      let now : At scene acts me all' at taken places =
      came (acts_of me log ++ Locks me party ∷ []) all' at (runs.works party log done at path) (cc) in
      subst (λ (a : Act). Now a all' at) this
      (on_look scene (Operates me log.party event) acts all' at taken places now (true_as (Operates me log.party event) this)
      (left_same (left_by scene now.steps).words log.party event none))
  on_path party all mine here (code.steps log done at event step there path own_step made) e =
      let this : Operates me log.party event ≡ act = cc in
      let rest : acts_of me log ++ Locks me party ∷ [] ≡ own me acts = cc in
      let all' : List FileStep = done ++ Lock me party ∷ [] in
      let now : At scene acts me all' at taken places =
      came (acts_of me log ++ Locks me party ∷ []) all' at (runs.works party log done at path) rest in
      let found : Finds (left_by scene now.steps).words log.party event =
      subst (λ (w : FileWords). Finds w log.party event) (sym now.words) (true_as (Operates me log.party event) this) in
      let may = may_be scene me party log done at path acts all' at taken places now (sym rest) in
      subst (λ (a : Act). Now a (step ∷ all') there) this
      (on_step scene (Operates me log.party event) acts all' at taken places now
      (true_as (Operates me log.party event) this) step there
      own_step (made (left_by scene now.steps).words may found))
  on_path party all mine here (code.moves log done at step there path own_step made) e =
      let all' : List FileStep = done ++ Lock me party ∷ [] in
      let now : Now act all' at = on_path party log done at path e in
      on_move scene (act ∷ acts) me all' at taken places now step there own_step
      (made (left_by scene now.steps).words
      (may_be scene me party log done at path (act ∷ acts) all' at taken places now (own_mine act acts ∙ sym e)))

  -- the act is the last one of a life
  on : (all : List Act) (mine : List FileStep) (here : Place) → Life scene me all mine here → all ≡ act ∷ own me acts →
      Now act mine here
  on all mine here runs.sleeps e = absurd (cc)
  on all mine here (runs.looks party event did life none) e =
      let this : Operates me party event ≡ act = cc in
      let now : At scene acts me [] Outside taken places = came did [] Outside life (cc) in
      subst (λ (a : Act). Now a [] Outside) this
      (on_look scene (Operates me party event) acts [] Outside taken places now (true_as (Operates me party event) this)
      (left_same (left_by scene now.steps).words party event none))
  on all mine here (runs.works party log done at path) e = on_path party log done at path e
  on all mine here (runs.leaves party did done at life may) e =
      let this : Unlocks me party ≡ act = cc in
      let now : At scene acts me done at taken places = came did done at life (cc) in
      subst (λ (a : Act). Now a (Unlock me ∷ done) Outside) this
      (on_step scene (Unlocks me party) acts done at taken places now tt (Unlock me) Outside refl
      (brings_unlock (left_by scene now.steps).words me party at may))
  on all mine here (runs.dies did done at life) e =
      let this : Dies me ≡ act = cc in
      let now : At scene acts me done at taken places = came did done at life (cc) in
      subst (λ (a : Act). Now a (Kill me ∷ done) Dead) this
      (on_step scene (Dies me) acts done at taken places now tt (Kill me) Dead refl
      (brings_kill (left_by scene now.steps).words me at))
  on all mine here (runs.frees party did done life) e =
      let this : Frees me party ≡ act = cc in
      let now : At scene acts me done Dead taken places = came did done Dead life (cc) in
      let lock = subst (λ (w : FileWords). IsTrue w (Frees me party)) (sym now.words) (true_as (Frees me party) this) in
      subst (λ (a : Act). Now a (Release me party ∷ done) Dead) this
      (on_step scene (Frees me party) acts done Dead taken places now (true_as (Frees me party) this) (Release me party) Dead refl
      (brings_release (left_by scene now.steps).words me party lock))

-- THE FIRST STATE

-- a session has acts
pub no_session : (process party : ℕ) (events : List Event) → ¬ ([] ≡ session process party events)
no_session process party [] e = absurd (cc)
no_session process party (event ∷ events) e = absurd (cc)

-- a process that has done nothing sleeps
asleep : (scene : FileScene) (process : ℕ) (all : List Act) (mine : List FileStep) (here : Place) →
    Life scene process all mine here →
    [] ≡ all → (mine ≡ []) × (here ≡ Outside)
asleep scene process all mine here runs.sleeps e = (refl, refl)
asleep scene process all mine here (runs.looks party event did life none) e = absurd (cc)
asleep scene process all mine here (runs.works party log done at path) e =
    absurd (no_session process party log.events
    (e ∙ acts_same scene process party log done at path))
asleep scene process all mine here (runs.leaves party did done at life may) e = absurd (cc)
asleep scene process all mine here (runs.dies did done at life) e = absurd (cc)
asleep scene process all mine here (runs.frees party did done life) e = absurd (cc)

-- The machine has come to a state with the words of the run, in which each process is fine.
pub record State (scene : FileScene) (acts : List Act) (taken : ℕ → List FileStep) (places : ℕ → Place) : Type 0 where
  pub steps : List FileStep
  pub allowed : ¬ Contains (outcomes_of (opening_state scene) steps) Refused
  pub words : (left_by scene steps).words ≡ words_after scene acts
  pub follows : Follows scene acts (reverse steps)
  pub each : (process : ℕ) → process < scene.processes → Fine scene acts steps process (taken process) (places process)

-- each process is fine at first
fine_first : (scene : FileScene) (process : ℕ) (mine : List FileStep) (here : Place) → process < scene.processes →
    Life scene process [] mine here → Fine scene [] [] process mine here
fine_first scene process mine here below life =
    let first = asleep scene process [] mine here life refl in record {
      place = slice_get-replicate scene.processes process Outside below ∙ ap (λ (p : Place). Some p) (sym first.1);
      took = sym first.0;
      knows = λ party events e. absurd (no_session process party events e);
    }

-- ALL ACTS

module _ (scene : FileScene) (act : Act) (acts : List Act) (taken : ℕ → List FileStep) (places : ℕ → Place)
    (lives : (process : ℕ) → Life scene process (own process (act ∷ acts)) (taken process) (places process)) (mine : List FileStep)
    (here : Place) (life : Life scene (actor act) (own (actor act) acts) mine here) where
  -- what each process has taken, and where it is, before the act
  abbrev taken_before : ℕ → List FileStep
  taken_before process = if process == actor act then mine else taken process

  abbrev places_before : ℕ → Place
  places_before process = if process == actor act then here else places process

  -- the life of each process before the act
  life_before : (process : ℕ) (same : Bool) → (process == actor act) ≡ same →
      Life scene process (own process acts) (if same then mine else taken process) (if same then here else places process)
  life_before process true e =
      subst (λ (p : ℕ). Life scene p (own p acts) mine here) (sym (eqb-true process (actor act) e)) life
  life_before process false e =
      subst (λ (l : List Act). Life scene process l (taken process) (places process))
      (own_other act acts process (eqb-false process (actor act) e)) (lives process)

  -- the state before the act, with this process apart from the others
  at_before : actor act < scene.processes → State scene acts taken_before places_before →
      At scene acts (actor act) mine here taken places
  at_before below state = record {
    steps = state.steps;
    allowed = state.allowed;
    words = state.words;
    follows = state.follows;
    fine = subst (λ (b : Bool). Fine scene acts state.steps (actor act) (if b then mine else taken (actor act))
        (if b then here else places (actor act))) (test_same (actor act) (actor act) refl) (state.each (actor act) below);
    others = λ other less apart.
        subst (λ (b : Bool). Fine scene acts state.steps other (if b then mine else taken other)
        (if b then here else places other)) (ne_eqb other (actor act) apart) (state.each other less);
  }

module _ (scene : FileScene) (acts : List Act) (process : ℕ) (taken : ℕ → List FileStep) (places : ℕ → Place)
    (now : At scene acts process (taken process) (places process) taken places) where
  -- this process and all others are fine
  fine_of : (other : ℕ) → other < scene.processes → (same : Bool) → (other == process) ≡ same →
      Fine scene acts now.steps other (taken other) (places other)
  fine_of other less true e =
      subst (λ (p : ℕ). Fine scene acts now.steps p (taken p) (places p)) (sym (eqb-true other process e)) now.fine
  fine_of other less false e = now.others other less (eqb-false other process e)

  state_at : State scene acts taken places
  state_at = record {
    steps = now.steps;
    allowed = now.allowed;
    words = now.words;
    follows = now.follows;
    each = λ other less. fine_of other less (other == process) refl;
  }

-- the acts of all lives, one after the other, lead to a state of the machine
pub all_acts : (scene : FileScene) (acts : List Act) → AreTrue scene acts → (taken : ℕ → List FileStep) (places : ℕ → Place) →
    ((process : ℕ) → Life scene process (own process acts) (taken process) (places process)) → State scene acts taken places
all_acts scene [] are taken places lives = record {
  steps = [];
  allowed = contains-none Refused;
  words = refl;
  follows = opens;
  each = λ process below. fine_first scene process (taken process) (places process) below (lives process);
}
all_acts scene (act ∷ acts) are taken places lives =
    state_at scene (act ∷ acts) (actor act) taken places
    (on scene act acts are.1 taken places
    (λ mine here life. at_before scene act acts taken places lives mine here life are.0
    (all_acts scene acts are.2 (taken_before scene act acts taken places lives mine here life)
    (places_before scene act acts taken places lives mine here life)
    (λ process. life_before scene act acts taken places lives mine here life process (process == actor act) refl)))
    (own (actor act) (act ∷ acts)) (taken (actor act)) (places (actor act)) (lives (actor act)) (own_mine act acts))

-- each run is one of the machine
pub is_machines : (scene : FileScene) (acts : List Act) (taken : ℕ → List FileStep) (places : ℕ → Place) →
    IsRun scene acts taken places → IsMachines scene acts taken places
is_machines scene acts taken places run =
    let state = all_acts scene acts run.true taken places run.lives in
    record {
      steps = state.steps;
      allowed = state.allowed;
      words = state.words;
      follows = state.follows;
      processes = λ process below. (state.each process below).place;
      own = λ process below. (state.each process below).took;
    }
