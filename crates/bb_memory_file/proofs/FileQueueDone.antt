-- A party that is done with a message: it has found the slot, which goes on with the next lap.
use Rattle.bb_memory_file.proofs.FileLooks.{looks_move_none, obey_on}
use Rattle.bb_memory_file.proofs.FileMessages.{seen_away}
use Rattle.bb_memory_file.specs.FileCalls.{IsDone, IsFound, Whereabouts, unseen}
use Rattle.bb_memory_file.specs.FileCalls.whereabouts as whereabouts
use Rattle.bb_memory_file.specs.FileCode.{FileLog, HasNot, known_of}
use Rattle.bb_memory_file.specs.FileLog.{is_clear}
use Rattle.bb_memory_file.specs.FileNames.{In, Outside}
use Rattle.bb_memory_file.specs.FileQueueCalls.{AllObey, IsDoneAt, KnowsOthers}
use Rattle.bb_memory_pool_machine.proofs.PoolSteps.{test_same}
use Rattle.std.proofs.Common.{Some, refl, subst, sym, true, ℕ, ◌<◌, ◌∙◌, ◌≡◌}
use Rattle.std.proofs.lemmas.Bool.{ne_eqb}

module _ (old : FileLog) (bucket : ℕ) where
  -- looks at where a bucket is obey the rules of all queues
  pub looked_obeys : (answer : Whereabouts) (one : FileLog) → IsFound old bucket answer one → (depth : ℕ) → AllObey depth old →
      AllObey depth one
  looked_obeys answer one found depth obey = subst (λ (log : FileLog). AllObey depth log) (sym found.gets)
      (λ number. obey_on old.party (record { scene = old.scene; number = number; depth = depth }) old.events found.events
      (looks_move_none bucket answer found.events found.by) (obey number))

  pub looked_done : (process : ℕ) (answer : Whereabouts) (one : FileLog) →
      ((slot lap : ℕ) → ¬ (answer ≡ whereabouts.In slot lap)) → IsFound old bucket answer one →
      IsDoneAt process old bucket answer one
  looked_done process (whereabouts.In slot lap) one not found = absurd (not slot lap refl)
  looked_done process whereabouts.Entered one not found = (found.looks process Outside, found.found, (found.events, found.by, found.gets))
  looked_done process whereabouts.Nowhere one not found = (found.looks process Outside, found.found, (found.events, found.by, found.gets))

  module _ (slot lap : ℕ) (one new : FileLog) (found : IsFound old bucket (whereabouts.In slot lap) one) where
    pub done_at : (process : ℕ) → slot < old.scene.slots → IsDone process one slot bucket lap new →
        IsDoneAt process old bucket (whereabouts.In slot lap) new
    done_at process below done = (
      below,
      (one, found.events, found.by, found.gets, found.looks process Outside, done),
      subst (λ log. is_clear (known_of log bucket) ≡ true) (sym done.1) (rw (test_same bucket bucket refl, found.found.1) refl),
    )

    pub done_others : IsDone 0 one slot bucket lap new → KnowsOthers old bucket new
    done_others done other apart = subst (λ log. unseen (known_of log other) ≡ unseen (known_of old other)) (sym done.1)
        (rw (ne_eqb bucket other (λ same. apart (sym same)))
        (seen_away (known_of one other) (HasNot slot) ∙ found.others other apart))

    pub done_obeys : IsDone 0 one slot bucket lap new → (depth : ℕ) → AllObey depth old → AllObey depth new
    done_obeys done depth obey = subst (λ (log : FileLog). AllObey depth log) (sym done.1)
        (λ number. (
          tt,
          (
            (bucket, lap, Some (In slot found.found.0), found.found.1, refl),
            looked_obeys (whereabouts.In slot lap) one found depth obey number,
          ),
        ))
