-- Walks, one after another.
use Rattle.bb_memory_file.specs.FileCode.{ChangesNone, Event, FileLog, IsSilent, IsStep, IsWalk, Path, begins, looks, moves, steps, told}
use Rattle.bb_memory_file.specs.FileNames.{FileStep, Place}
use Rattle.bb_memory_file_machine.specs.FileMachine.{process_of}
use Rattle.std.proofs.Common.{List, [], refl, subst, sym, ℕ, ◌++◌, ◌∙◌, ◌∷◌, ◌≡◌}

module _ (process : ℕ) (old middle : FileLog) (from over : Place) (first : List FileStep)
    (path : Path process old from middle first over) where
  pub path_on : (new : FileLog) (next : List FileStep) (there : Place) → Path process middle over new next there →
      Path process old from new (next ++ first) there
  path_on new next there begins = path
  path_on new next there (looks log taken here event rest none) =
      looks log (taken ++ first) here event (path_on log taken here rest) none
  path_on new next there (steps log taken here event step to rest own is) =
      steps log (taken ++ first) here event step to (path_on log taken here rest) own is
  path_on new next there (moves log taken here step to rest own is) =
      moves log (taken ++ first) here step to (path_on log taken here rest) own is

pub walk_on : (process : ℕ) (old middle new : FileLog) (from over there : Place) (first next : List FileStep) →
    IsWalk process old from middle first over → IsWalk process middle over new next there →
    IsWalk process old from new (next ++ first) there
walk_on process old middle new from over there first next one two = record {
  path = path_on process old middle from over first one.path new next there two.path;
  scene = two.scene ∙ one.scene;
  party = two.party ∙ one.party;
}

pub walk_nowhere : (process : ℕ) (log : FileLog) (here : Place) → IsWalk process log here log [] here
walk_nowhere process log here = record { path = begins; scene = refl; party = refl }

-- the log gets an event that changes no word
pub walk_look : (process : ℕ) (old new : FileLog) (here : Place) (event : Event) → ChangesNone event → new ≡ told old event →
    IsWalk process old here new [] here
walk_look process old new here event none is = subst (λ log. IsWalk process old here log [] here) (sym is)
    (record { path = looks old [] here event begins none; scene = refl; party = refl })

-- the log gets an event that is a step
pub walk_step : (process : ℕ) (old new : FileLog) (here : Place) (event : Event) (step : FileStep) (there : Place) →
    process_of step ≡ process → IsStep old process here event step there → new ≡ told old event →
    IsWalk process old here new (step ∷ []) there
walk_step process old new here event step there own made is =
    subst (λ log. IsWalk process old here log (step ∷ []) there) (sym is)
    (record { path = steps old [] here event step there begins own made; scene = refl; party = refl })

-- the process takes a step that changes no word
pub walk_move : (process : ℕ) (log : FileLog) (here : Place) (step : FileStep) (there : Place) →
    process_of step ≡ process → IsSilent log process here step there → IsWalk process log here log (step ∷ []) there
walk_move process log here step there own made =
    record { path = moves log [] here step there begins own made; scene = refl; party = refl }
