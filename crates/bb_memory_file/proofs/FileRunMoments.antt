-- What is so at each moment of a run.
use Rattle.bb_memory_file.proofs.FileRunSteps.{log_of, own_mine, session}
use Rattle.bb_memory_file.proofs.FileRunTheorem.{acts_same, all_acts, log_same, no_session, path_same}
use Rattle.bb_memory_file.specs.FileCode.{ChangesNone, Event, FileLog, IsStep, MayBe, Path}
use Rattle.bb_memory_file.specs.FileCode as code
use Rattle.bb_memory_file.specs.FileLog.{fresh_log}
use Rattle.bb_memory_file.specs.FileNames.{Counting, Dead, FileStep, Lock, Outside, Place}
use Rattle.bb_memory_file.specs.FileQueueLives.{events_in, events_of}
use Rattle.bb_memory_file.specs.FileRecords.{operations_in}
use Rattle.bb_memory_file.specs.FileRuns.{Act, AreTrue, Dies, Frees, Life, Locks, Operates, Unlocks, actor, acts_of, own, words_after}
use Rattle.bb_memory_file.specs.FileRuns as runs
use Rattle.bb_memory_file_machine.proofs.FileInvariant.{Sound}
use Rattle.bb_memory_file_machine.proofs.FileSteps.{holds_always}
use Rattle.bb_memory_file_machine.proofs.QueueHistories.{cases_moment}
use Rattle.bb_memory_file_machine.specs.FileMachine.{FileScene, FileWords}
use Rattle.bb_memory_file_machine.specs.FileQueues.{IsMoment, earlier, now}
use Rattle.bb_memory_lists.proofs.ListEntries.{contains-behind, contains-first}
use Rattle.std.proofs.Common.{Bool, List, [], ap, arith, false, inl, inr, length, refl, subst, sym, true, ℕ, ◌++◌, ◌+◌, ◌<◌, ◌∙◌, ◌∷◌, ◌≡◌, ◌≤◌, ◌⊎◌}
use Rattle.std.proofs.lemmas.Bool.{eqb-true}
use Rattle.std.specs.Prelude.{Contains, map, ◌==◌}

-- MOMENTS

module _ {X : Type 0} where
  pub moment_length : (moment list : List X) → IsMoment moment list → length moment ≤ length list
  moment_length moment _ now = omega arith
  moment_length moment _ (earlier item list past) = let less = moment_length moment list past in omega (arith, less)

  -- a moment has no item that the list hasn't
  pub contains_later : (moment list : List X) (item : X) → IsMoment moment list → Contains moment item → Contains list item
  contains_later moment _ item now has = has
  contains_later moment _ item (earlier first list past) has =
      contains-behind first item list (contains_later moment list item past has)

-- OWN ACTS

own_if : (process : ℕ) (act : Act) (acts : List Act) (same : Bool) → (actor act == process) ≡ same →
    ((actor act ≡ process) × (own process (act ∷ acts) ≡ act ∷ own process acts))
    ⊎ (own process (act ∷ acts) ≡ own process acts)
own_if process act acts true e = inl (eqb-true (actor act) process e, rw e refl)
own_if process act acts false e = inr (rw e refl)

-- an act is one of the process's, or isn't
pub own_cases : (process : ℕ) (act : Act) (acts : List Act) →
    ((actor act ≡ process) × (own process (act ∷ acts) ≡ act ∷ own process acts))
    ⊎ (own process (act ∷ acts) ≡ own process acts)
own_cases process act acts = own_if process act acts (actor act == process) refl

-- a moment of a run is one of the acts of a process
pub own_moment : (process : ℕ) (moment acts : List Act) → IsMoment moment acts → IsMoment (own process moment) (own process acts)
own_moment process moment _ now = now
own_moment process moment _ (earlier act acts past) = elim (own_cases process act acts) [
  | inl mine ↦ subst (λ (l : List Act). IsMoment (own process moment) l) (sym mine.1)
      (earlier act (own process acts) (own_moment process moment acts past))
  | inr other ↦ subst (λ (l : List Act). IsMoment (own process moment) l) (sym other) (own_moment process moment acts past)
]

-- a run has no acts of processes that aren't in its scene
pub own_beyond : (scene : FileScene) (acts : List Act) (process : ℕ) → AreTrue scene acts → scene.processes ≤ process →
    own process acts ≡ []
own_beyond scene [] process true_acts beyond = refl
own_beyond scene (act ∷ acts) process true_acts beyond = elim (own_cases process act acts) [
  | inl mine ↦ let below = true_acts.0 in let same = mine.0 in absurd (omega (arith, below, same, beyond))
  | inr other ↦ other ∙ own_beyond scene acts process true_acts.2 beyond
]

-- a process that has done this has taken the number's lock
pub has_locked : (process party : ℕ) (events : List Event) (acts : List Act) → own process acts ≡ session process party events →
    Contains acts (Locks process party)
has_locked process party events [] e = absurd (no_session process party events e)
has_locked process party [] (act ∷ acts) e = elim (own_cases process act acts) [
  | inl mine ↦ let all = sym mine.1 ∙ e in contains-first act (Locks process party) acts (cc)
  | inr other ↦ contains-behind act (Locks process party) acts (has_locked process party [] acts (sym other ∙ e))
]
has_locked process party (event ∷ events) (act ∷ acts) e = elim (own_cases process act acts) [
  | inl mine ↦
      let all = sym mine.1 ∙ e in
      contains-behind act (Locks process party) acts (has_locked process party events acts (cc))
  | inr other ↦ contains-behind act (Locks process party) acts (has_locked process party (event ∷ events) acts (sym other ∙ e))
]

-- EVENTS

-- a moment of some acts is one of their events
pub events_moment : (moment acts : List Act) → IsMoment moment acts → IsMoment (events_in moment) (events_in acts)
events_moment moment _ now = now
events_moment moment _ (earlier (Operates process party event) acts past) =
    earlier event (events_in acts) (events_moment moment acts past)
events_moment moment _ (earlier _ acts past) = events_moment moment acts past

-- the events of a session
pub events_session : (process party : ℕ) (events : List Event) → events_in (session process party events) ≡ events
events_session process party [] = refl
events_session process party (event ∷ events) = ap (λ (l : List Event). event ∷ l) (events_session process party events)

-- acts that aren't operations have no events
operations_events : (acts : List Act) → events_in (operations_in acts) ≡ events_in acts
operations_events [] = refl
operations_events (Operates process party event ∷ acts) = ap (λ (l : List Event). event ∷ l) (operations_events acts)
operations_events (Locks process party ∷ acts) = operations_events acts
operations_events (Unlocks process party ∷ acts) = operations_events acts
operations_events (Dies process ∷ acts) = operations_events acts
operations_events (Frees process party ∷ acts) = operations_events acts

-- the acts that a log tells have its events
told_events : (process party : ℕ) (events : List Event) →
    events_in (map (λ (e : Event). Operates process party e) events) ≡ events
told_events process party [] = refl
told_events process party (event ∷ events) = ap (λ (l : List Event). event ∷ l) (told_events process party events)

-- if the operations of a process are those that a log tells, its events are the log's
pub events_told : (process : ℕ) (log : FileLog) (acts : List Act) → operations_in (own process acts) ≡ acts_of process log →
    events_of process acts ≡ log.events
events_told process log acts is =
    sym (operations_events (own process acts)) ∙ ap (λ (l : List Act). events_in l) is
    ∙ told_events process log.party log.events

-- a session has one act more than events
pub session_length : (process party : ℕ) (events : List Event) → length (session process party events) ≡ length events + 1
session_length process party [] = refl
session_length process party (event ∷ events) = let less = session_length process party events in omega (arith, less)

-- LIVES

-- some steps have brought the process to some place by these acts
pub record HasLife (scene : FileScene) (process : ℕ) (acts : List Act) : Type 0 where
  pub taken : List FileStep
  pub here : Place
  pub life : Life scene process acts taken here

-- before the last act of a session that goes on, the process was alive, too
shorter_path : (scene : FileScene) (process party : ℕ) (log : FileLog) (taken : List FileStep) (here : Place) (act : Act)
    (rest : List Act) → Path process (fresh_log scene party) (Counting party) log taken here →
    acts_of process log ++ Locks process party ∷ [] ≡ act ∷ rest → HasLife scene process rest
shorter_path scene process party log taken here act rest code.begins e =
    let none : [] ≡ rest = cc in
    subst (λ (l : List Act). HasLife scene process l) none (record { taken = []; here = Outside; life = runs.sleeps })
shorter_path scene process party _ taken here act rest (code.looks log done at event path none) e =
    let before : acts_of process log ++ Locks process party ∷ [] ≡ rest = cc in
    subst (λ (l : List Act). HasLife scene process l) before
    (record { taken = done ++ Lock process party ∷ []; here = at; life = runs.works party log done at path })
shorter_path scene process party _ taken here act rest (code.steps log done at event step there path own_step made) e =
    let before : acts_of process log ++ Locks process party ∷ [] ≡ rest = cc in
    subst (λ (l : List Act). HasLife scene process l) before
    (record { taken = done ++ Lock process party ∷ []; here = at; life = runs.works party log done at path })
shorter_path scene process party log taken here act rest (code.moves same done at step there path own_step made) e =
    shorter_path scene process party log done at act rest path e

-- before the last act of a life, the process was alive, too
shorter_life : (scene : FileScene) (process : ℕ) (all : List Act) (taken : List FileStep) (here : Place) (act : Act)
    (rest : List Act) → Life scene process all taken here → all ≡ act ∷ rest → HasLife scene process rest
shorter_life scene process all taken here act rest runs.sleeps e = absurd (cc)
shorter_life scene process all taken here act rest (runs.looks party event did life none) e =
    let before : did ≡ rest = cc in
    subst (λ (l : List Act). HasLife scene process l) before (record { taken = []; here = Outside; life = life })
shorter_life scene process all taken here act rest (runs.works party log done at path) e =
    shorter_path scene process party log done at act rest path e
shorter_life scene process all taken here act rest (runs.leaves party did done at life may) e =
    let before : did ≡ rest = cc in
    subst (λ (l : List Act). HasLife scene process l) before (record { taken = done; here = at; life = life })
shorter_life scene process all taken here act rest (runs.dies did done at life) e =
    let before : did ≡ rest = cc in
    subst (λ (l : List Act). HasLife scene process l) before (record { taken = done; here = at; life = life })
shorter_life scene process all taken here act rest (runs.frees party did done life) e =
    let before : did ≡ rest = cc in
    subst (λ (l : List Act). HasLife scene process l) before (record { taken = done; here = Dead; life = life })

-- the acts of each process are a life
abbrev pub Lives : FileScene → List Act → Type 0
Lives scene acts = (process : ℕ) → HasLife scene process (own process acts)

-- so they were before the last act
pub lives_before : (scene : FileScene) (act : Act) (acts : List Act) → Lives scene (act ∷ acts) → Lives scene acts
lives_before scene act acts lives process =
    let now : HasLife scene process (own process (act ∷ acts)) = lives process in
    elim (own_cases process act acts) [
      | inl mine ↦ shorter_life scene process (own process (act ∷ acts)) now.taken now.here act (own process acts) now.life mine.1
      | inr other ↦ subst (λ (l : List Act). HasLife scene process l) other now
    ]

-- THE LAST EVENT

-- The process has just made an event that is a step of the machine, after these other events.
pub record Made (scene : FileScene) (process party : ℕ) (event : Event) (before : List Act) : Type 0 where
  pub events : List Event
  pub session : before ≡ session process party events
  pub here : Place
  pub step : FileStep
  pub there : Place
  pub made : IsStep (log_of scene party events) process here event step there

made_path : (scene : FileScene) (process number party : ℕ) (event : Event) (rest : List Act) (log : FileLog)
    (taken : List FileStep) (here : Place) → ¬ ChangesNone event → Path process (fresh_log scene number) (Counting number) log taken here →
    acts_of process log ++ Locks process number ∷ [] ≡ Operates process party event ∷ rest →
    Made scene process party event rest
made_path scene process number party event rest log taken here changes code.begins e = absurd (cc)
made_path scene process number party event rest _ taken here changes (code.looks log done at other path none) e =
    let same : other ≡ event = cc in absurd (changes (subst ChangesNone same none))
made_path scene process number party event rest _ taken here changes
    (code.steps log done at other step there path own_step made) e =
    let same : other ≡ event = cc in
    let named : log.party ≡ party = cc in
    let before : acts_of process log ++ Locks process number ∷ [] ≡ rest = cc in
    let numbers : number ≡ party =
    sym (path_same process (fresh_log scene number) (Counting number) log done at path).1 ∙ named in
    record {
      events = log.events;
      session = sym before ∙ acts_same scene process number log done at path
          ∙ ap (λ (p : ℕ). session process p log.events) numbers;
      here = at;
      step = step;
      there = there;
      made = subst (λ (l : FileLog). IsStep l process at event step there)
          (log_same scene process number log done at path ∙ ap (λ (p : ℕ). log_of scene p log.events) numbers)
          (subst (λ (x : Event). IsStep log process at x step there) same made);
    }
made_path scene process number party event rest log taken here changes
    (code.moves same done at step there path own_step made) e =
    made_path scene process number party event rest log done at changes path e

made_life : (scene : FileScene) (process party : ℕ) (event : Event) (rest all : List Act) (taken : List FileStep) (here : Place) →
    ¬ ChangesNone event → Life scene process all taken here → all ≡ Operates process party event ∷ rest →
    Made scene process party event rest
made_life scene process party event rest all taken here changes runs.sleeps e = absurd (cc)
made_life scene process party event rest all taken here changes (runs.looks number other did life none) e =
    let same : other ≡ event = cc in absurd (changes (subst ChangesNone same none))
made_life scene process party event rest all taken here changes (runs.works number log done at path) e =
    made_path scene process number party event rest log done at changes path e
made_life scene process party event rest all taken here changes (runs.leaves number did done at life may) e = absurd (cc)
made_life scene process party event rest all taken here changes (runs.dies did done at life) e = absurd (cc)
made_life scene process party event rest all taken here changes (runs.frees number did done life) e = absurd (cc)

-- an event that changes a word is a step of a session
pub last_made : (scene : FileScene) (process party : ℕ) (event : Event) (acts : List Act) → ¬ ChangesNone event →
    Lives scene (Operates process party event ∷ acts) → Made scene process party event (own process acts)
last_made scene process party event acts changes lives =
    let act : Act = Operates process party event in
    let now : HasLife scene process (own process (act ∷ acts)) = lives process in
    made_life scene process party event (own process acts) (own process (act ∷ acts)) now.taken now.here changes now.life
    (own_mine act acts)

-- WHAT IS KNOWN

-- A process in a session may find the words, which are sound.
pub record Knowing (scene : FileScene) (process party : ℕ) (events : List Event) (words : FileWords) : Type 0 where
  pub sound : Sound words
  pub may : MayBe (log_of scene party events) process words

pub knowing : (scene : FileScene) (process party : ℕ) (events : List Event) (acts : List Act) → process < scene.processes →
    AreTrue scene acts → Lives scene acts → own process acts ≡ session process party events →
    Knowing scene process party events (words_after scene acts)
knowing scene process party events acts below true_acts lives e =
    let state = all_acts scene acts true_acts (λ p. (lives p).taken) (λ p. (lives p).here) (λ p. (lives p).life) in
    subst (λ (w : FileWords). Knowing scene process party events w) state.words (record {
      sound = (holds_always scene state.steps).sound;
      may = (state.each process below).knows party events e;
    })

-- PAST EVENTS

-- the moment of a run at which a process has made an event
pub record MadeAt (scene : FileScene) (process party : ℕ) (event : Event) (before : List Event) (acts : List Act) : Type 0 where
  pub moment : List Act
  pub past : IsMoment (Operates process party event ∷ moment) acts
  pub session : own process moment ≡ session process party before
  pub true : AreTrue scene (Operates process party event ∷ moment)
  pub lives : Lives scene moment

later_made : (scene : FileScene) (process party : ℕ) (event : Event) (before : List Event) (act : Act) (acts : List Act) →
    MadeAt scene process party event before acts → MadeAt scene process party event before (act ∷ acts)
later_made scene process party event before act acts at = record {
  moment = at.moment;
  past = earlier act acts at.past;
  session = at.session;
  true = at.true;
  lives = at.lives;
}

pub made_at : (scene : FileScene) (process party : ℕ) (event : Event) (before events : List Event) (acts : List Act) →
    AreTrue scene acts → Lives scene acts → own process acts ≡ session process party events →
    IsMoment (event ∷ before) events → MadeAt scene process party event before acts
made_at scene process party event before events [] true_acts lives e past = absurd (no_session process party events e)
made_at scene process party event before _ (act ∷ acts) true_acts lives e now = elim (own_cases process act acts) [
  | inl mine ↦
      let all = sym mine.1 ∙ e in
      let this : act ≡ Operates process party event = cc in
      let rest : own process acts ≡ session process party before = cc in
      record {
        moment = acts;
        past = subst (λ (a : Act). IsMoment (a ∷ acts) (act ∷ acts)) this now;
        session = rest;
        true = subst (λ (a : Act). AreTrue scene (a ∷ acts)) this true_acts;
        lives = lives_before scene act acts lives;
      }
  | inr other ↦ later_made scene process party event before act acts
      (made_at scene process party event before (event ∷ before) acts true_acts.2 (lives_before scene act acts lives)
      (sym other ∙ e) now)
]
made_at scene process party event before _ (act ∷ acts) true_acts lives e (earlier last events past) =
    elim (own_cases process act acts) [
      | inl mine ↦
          let all = sym mine.1 ∙ e in
          let rest : own process acts ≡ session process party events = cc in
          later_made scene process party event before act acts
          (made_at scene process party event before events acts true_acts.2 (lives_before scene act acts lives) rest past)
      | inr other ↦ later_made scene process party event before act acts
          (made_at scene process party event before (last ∷ events) acts true_acts.2 (lives_before scene act acts lives)
          (sym other ∙ e) (earlier last events past))
    ]

-- Of two events of a process, the one that comes first in its log comes first in the run.
pub made_in_order : (scene : FileScene) (process party : ℕ) (one two : Event) (first second : List Event) (acts : List Act)
    (at : MadeAt scene process party one first acts) (next : MadeAt scene process party two second acts) →
    IsMoment (one ∷ first) (two ∷ second) →
    IsMoment (Operates process party one ∷ at.moment) (Operates process party two ∷ next.moment)
made_in_order scene process party one two first second acts at next order =
    elim (cases_moment (Operates process party one ∷ at.moment) acts (Operates process party two ∷ next.moment) at.past
    next.past) [
      | inl earlier_one ↦ earlier_one
      | inr later_one ↦ in_order_by scene process party one two first second acts at next order
          (Operates process party one ∷ at.moment) refl later_one
    ]
  where
    in_order_by : (scene : FileScene) (process party : ℕ) (one two : Event) (first second : List Event) (acts : List Act)
        (at : MadeAt scene process party one first acts) (next : MadeAt scene process party two second acts) →
        IsMoment (one ∷ first) (two ∷ second) → (all : List Act) → all ≡ Operates process party one ∷ at.moment →
        IsMoment (Operates process party two ∷ next.moment) all →
        IsMoment (Operates process party one ∷ at.moment) (Operates process party two ∷ next.moment)
    in_order_by scene process party one two first second acts at next order _ e now =
        subst (λ (l : List Act). IsMoment l (Operates process party two ∷ next.moment)) e now
    in_order_by scene process party one two first second acts at next order _ e (earlier act rest past) =
        let rests : rest ≡ at.moment = cc in
        let mine : own process (Operates process party two ∷ next.moment) ≡ session process party (two ∷ second) =
        own_mine (Operates process party two) next.moment ∙ ap (λ (l : List Act). Operates process party two ∷ l) next.session in
        let less = moment_length (own process (Operates process party two ∷ next.moment)) (own process at.moment)
        (own_moment process (Operates process party two ∷ next.moment) at.moment
        (subst (λ (l : List Act). IsMoment (Operates process party two ∷ next.moment) l) rests past)) in
        let long = ap (λ (l : List Act). length l) mine ∙ session_length process party (two ∷ second) in
        let short = ap (λ (l : List Act). length l) at.session ∙ session_length process party first in
        let apart = moment_length (one ∷ first) (two ∷ second) order in
        absurd (omega (arith, less, long, short, apart))
