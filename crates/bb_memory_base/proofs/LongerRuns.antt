-- Runs of an allocator with its live list, one command longer.
use Rattle.bb_memory_base.specs.Runs.{AllocatorStep, EachGiven}
use Rattle.bb_memory_traits.specs.Chunk.{Chunk}
use Rattle.bb_memory_traits.specs.Object.{IsRun, note_after_command, note_after_run}
use Rattle.bb_memory_traits.specs.declared.allocator.AllocationError.{AllocationError}
use Rattle.bb_memory_traits.specs.declared.allocator.Command.{Command}
use Rattle.bb_memory_traits.specs.declared.allocator.Command.TheVariants.{Allocate}
use Rattle.bb_memory_traits.specs.declared.allocator.Reply.{Reply}
use Rattle.bb_memory_traits.specs.declared.allocator.Reply.TheVariants as reply
use Rattle.bb_memory_traits.specs.declared.layout.Layout.{Layout}
use Rattle.std.proofs.Common.{List, [], ap, arith, length, suc, zero, ℕ, ◌++◌, ◌∷◌, ◌≡◌}
use Rattle.std.proofs.lemmas.List.Sums.{fold_push}
use Rattle.std.specs.Prelude.{Result}

-- a run of an allocator with its live list is a run of the object on the list
pub IsRun-listed : {Allocator : Type 0} (Steps : List Chunk → Command → Reply → List Chunk → Type 0)
    (takes : Allocator → Layout → Result Chunk AllocationError → Allocator → Type 0)
    (frees : Allocator → ℕ → Layout → Allocator → Type 0) (old new : Allocator × List Chunk) (commands : List Command)
    (replies : List Reply) → IsRun (AllocatorStep Steps takes frees) old commands replies new →
    IsRun Steps old.1 commands replies new.1
IsRun-listed Steps takes frees old new [] [] same = ap (λ state. state.1) same
IsRun-listed Steps takes frees old new (c ∷ commands) (r ∷ replies) (then, first, rest) =
    (then.1, first.0, IsRun-listed Steps takes frees then new commands replies rest)
IsRun-listed Steps takes frees old new [] (r ∷ replies) none = absurd none
IsRun-listed Steps takes frees old new (c ∷ commands) [] none = absurd none

-- the note after a run with one more command
pub note-push : {Note : Type 0} (after : Layout → Note → Note) (old : Note) (commands : List Command) (mid new : Note)
    (command : Command) → mid ≡ note_after_run after old commands → new ≡ note_after_command after mid command →
    new ≡ note_after_run after old (commands ++ command ∷ [])
note-push after old commands mid new command so_far last = grind (arith, fold_push)

-- the property of each chunk that was given, with one more command
pub EachGiven-push : (Suits : Layout → Chunk → Type 0) (commands : List Command) (replies : List Reply)
    (command : Command) (answer : Reply) → length commands ≡ length replies → EachGiven Suits commands replies →
    ((layout : Layout) (chunk : Chunk) → command ≡ Allocate layout → answer ≡ reply.Chunk chunk → Suits layout chunk) →
    EachGiven Suits (commands ++ command ∷ []) (replies ++ answer ∷ [])
EachGiven-push Suits [] [] command answer same each last zero layout chunk asked given = last layout chunk (cc) (cc)
EachGiven-push Suits [] [] command answer same each last (suc i) layout chunk asked given = absurd (cc)
EachGiven-push Suits (c ∷ commands) (r ∷ replies) command answer same each last zero layout chunk asked given =
    each zero layout chunk asked given
EachGiven-push Suits (c ∷ commands) (r ∷ replies) command answer same each last (suc i) layout chunk asked given =
    EachGiven-push Suits commands replies command answer (omega arith) (λ j. each (suc j)) last i layout chunk asked given
EachGiven-push Suits [] (r ∷ replies) command answer same each last i layout chunk asked given = absurd (omega arith)
EachGiven-push Suits (c ∷ commands) [] command answer same each last i layout chunk asked given = absurd (omega arith)
