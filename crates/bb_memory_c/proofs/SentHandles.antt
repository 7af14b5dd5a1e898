-- Handles may go to other threads, since what they own may.
use Rattle.bb_memory_c_calls.specs.Handles.{heap, owns_if}
use Rattle.std.proofs.Crossing.{frees}
use Rattle.std.specs.Prelude.{None, Option, Some}
use base.Fraction.{full_share}
use base.Shift.{Keyless}
use denote.Builtin.{RawPtr, bool}
use denote.Memory.{lone}
pub use denote.Param.Send.{IsSend, owning_send}
use denote.Param.Send.{AllSend, part_keyless, sendable}
use denote.RattleType.{RattleType}
use denote.RawPtr.{Ptr, block_ptr, lies_at, null_ptr}
use mathlib.Core.Bool.{Bool, false, true}
use mathlib.Core.List.{[], ◌∷◌}
use mir.Raw.{raw}

-- the two fields of a handle may
pub two_send : AllSend (RawPtr ∷ bool ∷ [])
two_send = let at : IsSend RawPtr = search sendable in let made : IsSend bool = search sendable in (at, (made, tt))

lies : (R : RattleType) → IsSend R → (p : Ptr) (x : R.Denot) → Keyless (lies_at R full_share p x)
lies R s (block_ptr b o) x = part_keyless R s full_share x b o
lies R s null_ptr x = tt

pub owned : (R : RattleType) → IsSend R → (made : Bool) (at : Ptr) (value : Option R.Denot) → Keyless
    (owns_if R made at value)
owned R s true at (Some x) = (lies R s at x, frees.frees heap (raw (lone R.mir)) at)
owned R s true at None = tt
owned R s false at (Some x) = tt
owned R s false at None = tt
