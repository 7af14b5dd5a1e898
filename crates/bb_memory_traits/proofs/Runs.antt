-- Runs that are one step longer, and what each step of a run keeps.
use Rattle.bb_memory_traits.specs.Object.{IsRun}
use Rattle.std.proofs.Common.{List, [], refl, subst, sym, ◌++◌, ◌∷◌}

-- a run goes on by one step
pub IsRun-push : {S C R : Type 0} (step : S → C → R → S → Type 0) (old mid new : S)
    (commands : List C) (replies : List R) (command : C) (reply : R) →
    IsRun step old commands replies mid → step mid command reply new →
    IsRun step old (commands ++ command ∷ []) (replies ++ reply ∷ []) new
IsRun-push step old mid new [] [] command reply same next = (new, subst (λ state. step state command reply new) same next, refl)
IsRun-push step old mid new (c ∷ commands) (r ∷ replies) command reply (then, first, rest) next =
    (then, first, IsRun-push step then mid new commands replies command reply rest next)
IsRun-push step old mid new [] (r ∷ replies) command reply none next = absurd none
IsRun-push step old mid new (c ∷ commands) [] command reply none next = absurd none

-- a property that each step keeps holds after the run if it held before
pub IsRun-keeps : {S C R : Type 0} (step : S → C → R → S → Type 0) (P : S → Type 0) →
    ((old new : S) (command : C) (reply : R) → P old → step old command reply new → P new) →
    (old new : S) (commands : List C) (replies : List R) → P old → IsRun step old commands replies new → P new
IsRun-keeps step P keeps old new [] [] holds same = subst P (sym same) holds
IsRun-keeps step P keeps old new (c ∷ commands) (r ∷ replies) holds (then, first, rest) =
    IsRun-keeps step P keeps then new commands replies (keeps old then c r holds first) rest
IsRun-keeps step P keeps old new [] (r ∷ replies) holds none = absurd none
IsRun-keeps step P keeps old new (c ∷ commands) [] holds none = absurd none
