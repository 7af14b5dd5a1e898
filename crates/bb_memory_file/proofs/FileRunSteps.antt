-- One more act of a run, as a step of the machine.
use Rattle.bb_memory_file.proofs.FileKnows.{after_one, may_be_after, may_be_rests}
use Rattle.bb_memory_file.specs.FileCode.{Brings, Event, FileLog, MayBe}
use Rattle.bb_memory_file.specs.FileNames.{FileOutcome, FileStep, Place, Refused}
use Rattle.bb_memory_file.specs.FileRuns.{Act, Follows, IsTrue, Locks, Operates, acted, actor, looks_on, moves_on, own, steps_of, steps_on, words_after}
use Rattle.bb_memory_file_machine.proofs.FileInvariant.{Sound}
use Rattle.bb_memory_file_machine.proofs.FileSteps.{holds_always}
use Rattle.bb_memory_file_machine.proofs.FileTheorem.{buckets_always}
use Rattle.bb_memory_file_machine.proofs.QueueHistories.{history_of}
use Rattle.bb_memory_file_machine.specs.FileLaws.{IsPlace}
use Rattle.bb_memory_file_machine.specs.FileMachine.{FileChange, FileMove, FileScene, FileState, FileWords, change_at, change_by, file_after, file_step, left_by, move_at, opening_state, outcomes_of, process_of}
use Rattle.bb_memory_file_machine.specs.FileQueues.{History, words_at}
use Rattle.bb_memory_lists.proofs.SliceGets.{slice_get-set_apart, slice_get-set_same}
use Rattle.bb_memory_pool_machine.proofs.PoolSteps.{test_same}
use Rattle.std.proofs.Common.{Bool, List, None, Some, [], ap, false, inl, inr, length, refl, reverse, subst, sym, true, ℕ, ◌++◌, ◌<◌, ◌∙◌, ◌∷◌, ◌≡◌, ◌≢◌}
use Rattle.std.proofs.lemmas.Bool.{ne_eqb}
use Rattle.std.proofs.lemmas.List.{reverse-append}
use Rattle.std.proofs.lemmas.List.Elements.{Contains-push_cases}
use Rattle.std.specs.Prelude.{Contains, if◌then◌else◌, map, slice_get, ◌==◌}

-- OWN ACTS AND STEPS

-- the acts of one process, after one more of its own
pub own_mine : (act : Act) (acts : List Act) → own (actor act) (act ∷ acts) ≡ act ∷ own (actor act) acts
own_mine act acts = rw (test_same (actor act) (actor act) refl) refl

-- the acts of one process, after one more of another process
pub own_other : (act : Act) (acts : List Act) (other : ℕ) → other ≢ actor act → own other (act ∷ acts) ≡ own other acts
own_other act acts other apart = rw (ne_eqb (actor act) other (λ e. apart (sym e))) refl

-- One more step at the end of a list is the first of the reversed list, whether the list begins with a
-- step of the same process or not.
pushed : (same first : Bool) (before after : List FileStep) (step one : FileStep) →
    after ≡ (if same then step ∷ before else before) → (if first then after ++ one ∷ [] else after)
    ≡ (if same then step ∷ (if first then before ++ one ∷ [] else before) else (if first then before ++ one ∷ [] else before))
pushed true true before after step one e = ap (λ (l : List FileStep). l ++ one ∷ []) e
pushed true false before after step one e = e
pushed false true before after step one e = ap (λ (l : List FileStep). l ++ one ∷ []) e
pushed false false before after step one e = e

-- the steps of one process, after one more step
own_step : (process : ℕ) (steps : List FileStep) (step : FileStep) (same : Bool) → (process_of step == process) ≡ same →
    steps_of process (steps ++ step ∷ []) ≡ (if same then step ∷ steps_of process steps else steps_of process steps)
own_step process [] step true e = rw e refl
own_step process [] step false e = rw e refl
own_step process (first ∷ steps) step same e =
    pushed same (process_of first == process) (steps_of process steps) (steps_of process (steps ++ step ∷ [])) step first
    (own_step process steps step same e)

-- OUTCOMES

-- the outcomes of some steps, and of one more
outcomes_after : (state : FileState) (steps : List FileStep) (step : FileStep) → outcomes_of state (steps ++ step ∷ [])
    ≡ outcomes_of state steps ++ (file_step (file_after state steps) step).outcome ∷ []
outcomes_after state [] step = refl
outcomes_after state (first ∷ steps) step =
    ap (λ (l : List FileOutcome). (file_step state first).outcome ∷ l) (outcomes_after (file_step state first).state steps step)

-- no step is refused if none was, and one more isn't
none_refused : (scene : FileScene) (steps : List FileStep) (step : FileStep) →
    ¬ Contains (outcomes_of (opening_state scene) steps) Refused → (file_step (left_by scene steps) step).outcome ≢ Refused →
    ¬ Contains (outcomes_of (opening_state scene) (steps ++ step ∷ [])) Refused
none_refused scene steps step before allowed now =
    elim (Contains-push_cases (outcomes_of (opening_state scene) steps) (file_step (left_by scene steps) step).outcome Refused
    (subst (λ (l : List FileOutcome). Contains l Refused) (outcomes_after (opening_state scene) steps step) now)) [
      | inl earlier ↦ before earlier
      | inr this ↦ allowed this
    ]

-- SESSIONS

-- the acts of a process that has taken the number's lock, and then made these operations
abbrev pub session : ℕ → ℕ → List Event → List Act
session process party events = map (λ event. Operates process party event) events ++ Locks process party ∷ []

-- the log of such a process
abbrev pub log_of : FileScene → ℕ → List Event → FileLog
log_of scene party events = record { scene = scene; party = party; events = events }

-- the process may find these words if its acts are those of a session that goes on
abbrev pub Knows : FileScene → List Act → ℕ → FileWords → Type 0
Knows scene mine process words =
    (party : ℕ) (events : List Event) → mine ≡ session process party events → MayBe (log_of scene party events) process words

-- after one more act, the process may find the words that it leaves
knows_after : (scene : FileScene) (act : Act) (mine : List Act) (words : FileWords) → Sound words →
    length words.flags ≡ scene.buckets → IsTrue words act → Knows scene mine (actor act) words →
    Knows scene (act ∷ mine) (actor act) (acted words act)
knows_after scene act mine words sound buckets is before party [] e =
    let this : Locks (actor act) party ≡ act = cc in
    subst (λ (a : Act). MayBe (log_of scene party []) (actor act) (acted words a)) this (record {
      buckets = buckets;
      lock = slice_get-set_same words.locks party (Some (actor act)) None (subst (λ (a : Act). IsTrue words a) (sym this) is);
      known = λ bucket. tt;
      life = tt;
    })
knows_after scene act mine words sound buckets is before party (event ∷ events) e =
    let this : Operates (actor act) party event ≡ act = cc in
    let rest : mine ≡ session (actor act) party events = cc in
    subst (λ (a : Act). MayBe (log_of scene party (event ∷ events)) (actor act) (acted words a)) this
    (may_be_after words (log_of scene party events) (actor act) event sound (before party events rest)
    (subst (λ (a : Act). IsTrue words a) (sym this) is))

-- STATES

-- After these steps of the machine the process is at this place, has taken these of the steps, and may
-- find the words.
pub record Fine (scene : FileScene) (acts : List Act) (steps : List FileStep) (process : ℕ) (mine : List FileStep)
    (here : Place) : Type 0 where
  pub place : IsPlace (left_by scene steps) process here
  pub took : steps_of process steps ≡ mine
  pub knows : Knows scene (own process acts) process (left_by scene steps).words

-- The machine has come to a state with the words of the run, in which this process and all others are
-- fine.
pub record At (scene : FileScene) (acts : List Act) (process : ℕ) (mine : List FileStep) (here : Place) (taken : ℕ → List FileStep)
    (places : ℕ → Place) : Type 0 where
  pub steps : List FileStep
  pub allowed : ¬ Contains (outcomes_of (opening_state scene) steps) Refused
  pub words : (left_by scene steps).words ≡ words_after scene acts
  pub follows : Follows scene acts (reverse steps)
  pub fine : Fine scene acts steps process mine here
  pub others : (other : ℕ) → other < scene.processes → other ≢ process →
      Fine scene acts steps other (taken other) (places other)

-- one more step of the machine is the first of its history
one_more : (scene : FileScene) (acts : List Act) (steps : List FileStep) (step : FileStep) →
    (left_by scene (steps ++ step ∷ [])).words ≡ words_after scene acts →
    (words_at scene (step ∷ reverse steps) ≡ words_after scene acts → Follows scene acts (step ∷ reverse steps)) →
    Follows scene acts (reverse (steps ++ step ∷ []))
one_more scene acts steps step words follow =
    let turned : reverse (steps ++ step ∷ []) ≡ step ∷ reverse steps = reverse-append steps (step ∷ []) in
    subst (λ (h : History). Follows scene acts h) (sym turned)
    (follow (ap (words_at scene) (sym turned) ∙ ap (λ (s : FileState). s.words) (sym (history_of scene (steps ++ step ∷ []))) ∙ words))

-- a step of a process at this place isn't refused, leaves these words, and brings the process there
goes : (state : FileState) (step : FileStep) (here : Place) (words : FileWords) (there : Place) →
    IsPlace state (process_of step) here → Brings (move_at state.words here step) words there →
    ((file_step state step).outcome ≢ Refused) × ((file_step state step).state.words ≡ words)
    × IsPlace (file_step state step).state (process_of step) there
goes state step here words there is brings =
    let move : FileMove = move_at state.words here step in
    let same : file_step state step ≡ change_by state (process_of step) move = ap (change_at state step) is in (
      (λ e. brings.allowed (sym (ap (λ (change : FileChange). change.outcome) same) ∙ e)),
      ap (λ (change : FileChange). change.state.words) same ∙ brings.words,
      ap (λ (change : FileChange). slice_get change.state.places (process_of step)) same
          ∙ slice_get-set_same state.places (process_of step) move.place here is
          ∙ ap (λ (place : Place). Some place) brings.place,
    )

-- another process stays where it is
stays_there : (state : FileState) (step : FileStep) (here there : Place) (other : ℕ) → IsPlace state (process_of step) here →
    process_of step ≢ other → IsPlace state other there → IsPlace (file_step state step).state other there
stays_there state step here there other is apart at =
    ap (λ (change : FileChange). slice_get change.state.places other) (ap (change_at state step) is)
    ∙ slice_get-set_apart state.places (process_of step) other (move_at state.words here step).place apart ∙ at

-- another process is still fine
still_fine : (scene : FileScene) (acts later : List Act) (steps : List FileStep) (step : FileStep) (here there : Place) (other : ℕ)
    (mine : List FileStep) → IsPlace (left_by scene steps) (process_of step) here → process_of step ≢ other →
    own other later ≡ own other acts → Fine scene acts steps other mine there →
    Fine scene later (steps ++ step ∷ []) other mine there
still_fine scene acts later steps step here there other mine is apart same fine =
    let come : (file_step (left_by scene steps) step).state ≡ left_by scene (steps ++ step ∷ []) =
    sym (after_one (opening_state scene) steps step) in
    record {
      place = subst (λ (s : FileState). IsPlace s other there) come
          (stays_there (left_by scene steps) step here there other is apart fine.place);
      took = own_step other steps step false (ne_eqb (process_of step) other apart) ∙ fine.took;
      knows = λ party events e. subst (λ (s : FileState). MayBe (log_of scene party events) other s.words) come
          (may_be_rests scene steps step (log_of scene party events) other apart (fine.knows party events (sym same ∙ e)));
    }

module _ (scene : FileScene) (acts : List Act) (process : ℕ) (mine : List FileStep) (here : Place) (taken : ℕ → List FileStep)
    (places : ℕ → Place) (at : At scene acts process mine here taken places) where
  abbrev state : FileState
  state = left_by scene at.steps

  -- The process takes one more step, which leaves the words of the run with these acts.
  advance : (later : List Act) (step : FileStep) (words : FileWords) (there : Place) → process_of step ≡ process →
      ((other : ℕ) → other ≢ process → own other later ≡ own other acts) → Brings (move_at state.words here step) words there →
      words ≡ words_after scene later → Knows scene (own process later) process words →
      (words_at scene (step ∷ reverse at.steps) ≡ words_after scene later → Follows scene later (step ∷ reverse at.steps)) →
      At scene later process (step ∷ mine) there taken places
  advance later step words there own_step_is rest brings same knows follow =
      let is : IsPlace state (process_of step) here = subst (λ (p : ℕ). IsPlace state p here) (sym own_step_is) at.fine.place in
      let made = goes state step here words there is brings in
      let new : FileState = (file_step state step).state in
      let come : new ≡ left_by scene (at.steps ++ step ∷ []) = sym (after_one (opening_state scene) at.steps step) in
      let left : words ≡ (left_by scene (at.steps ++ step ∷ [])).words = sym made.1 ∙ ap (λ (s : FileState). s.words) come in
      record {
        steps = at.steps ++ step ∷ [];
        allowed = none_refused scene at.steps step at.allowed made.0;
        words = sym left ∙ same;
        follows = one_more scene later at.steps step (sym left ∙ same) follow;
        fine = record {
          place = subst (λ (s : FileState). IsPlace s process there) come
              (subst (λ (p : ℕ). IsPlace new p there) own_step_is made.2);
          took = own_step process at.steps step true (test_same (process_of step) process own_step_is)
              ∙ ap (λ (l : List FileStep). step ∷ l) at.fine.took;
          knows = λ party events e.
              subst (λ (w : FileWords). MayBe (log_of scene party events) process w) left (knows party events e);
        };
        others = λ other below apart. still_fine scene acts later at.steps step here (places other) other (taken other) is
            (λ e. apart (sym e ∙ own_step_is)) (rest other apart) (at.others other below apart);
      }

  -- a step that no act tells of
  pub on_move : (step : FileStep) (there : Place) → process_of step ≡ process →
      Brings (move_at state.words here step) state.words there →
      At scene acts process (step ∷ mine) there taken places
  on_move step there own_step_is brings =
      advance acts step state.words there own_step_is (λ other apart. refl) brings at.words at.fine.knows
      (moves_on acts (reverse at.steps) step at.follows)

-- the process that acts may find the words that the act leaves
knows_acted : (scene : FileScene) (acts : List Act) (steps : List FileStep) (act : Act) →
    (left_by scene steps).words ≡ words_after scene acts → IsTrue (words_after scene acts) act →
    Knows scene (own (actor act) acts) (actor act) (left_by scene steps).words →
    Knows scene (own (actor act) (act ∷ acts)) (actor act) (acted (left_by scene steps).words act)
knows_acted scene acts steps act same is knows =
    subst (λ (l : List Act). Knows scene l (actor act) (acted (left_by scene steps).words act)) (sym (own_mine act acts))
    (knows_after scene act (own (actor act) acts) (left_by scene steps).words (holds_always scene steps).sound
    (buckets_always scene steps) (subst (λ (w : FileWords). IsTrue w act) (sym same) is) knows)

module _ (scene : FileScene) (act : Act) (acts : List Act) (mine : List FileStep) (here : Place) (taken : ℕ → List FileStep)
    (places : ℕ → Place) (at : At scene acts (actor act) mine here taken places) (is : IsTrue (words_after scene acts) act) where
  -- an act that is a step
  pub on_step : (step : FileStep) (there : Place) → process_of step ≡ actor act →
      Brings (move_at (left_by scene at.steps).words here step) (acted (left_by scene at.steps).words act) there →
      At scene (act ∷ acts) (actor act) (step ∷ mine) there taken places
  on_step step there own_step_is brings =
      advance scene acts (actor act) mine here taken places at (act ∷ acts) step (acted (left_by scene at.steps).words act) there
      own_step_is (own_other act acts) brings (ap (λ (w : FileWords). acted w act) at.words)
      (knows_acted scene acts at.steps act at.words is at.fine.knows)
      (steps_on act acts (reverse at.steps) step at.follows)

  -- an act that is no step, since it changes no word
  pub on_look : acted (left_by scene at.steps).words act ≡ (left_by scene at.steps).words →
      At scene (act ∷ acts) (actor act) mine here taken places
  on_look same = record {
    steps = at.steps;
    allowed = at.allowed;
    words = sym same ∙ ap (λ (w : FileWords). acted w act) at.words;
    follows = looks_on act acts (reverse at.steps) at.follows
        (ap (λ (w : FileWords). acted w act) (sym at.words) ∙ same ∙ at.words);
    fine = record {
      place = at.fine.place;
      took = at.fine.took;
      knows = subst (λ (w : FileWords). Knows scene (own (actor act) (act ∷ acts)) (actor act) w) same
          (knows_acted scene acts at.steps act at.words is at.fine.knows);
    };
    others = λ other below apart.
        let before = at.others other below apart in record {
          place = before.place;
          took = before.took;
          knows = λ party events e. before.knows party events (sym (own_other act acts other apart) ∙ e);
        };
  }
