-- Ownership by a handle.
use Rattle.std.specs.Box.Ownership.{box_owns}
use Rattle.std.specs.Prelude.{Bool, None, Option, Some, false, true}
use Rattle.std.specs.contracts.impls.GlobalAllocator.TheImpl.{ghosts}
use Rattle.std.specs.declared.alloc.Global.{Global}
use base.Fml.{Fml, ffalse, ftrue}
use denote.RattleType.{RattleType}
use denote.RawPtr.{Ptr}

-- the only heap
abbrev pub heap : Global
heap = record { memory = record { seal = tt } }

-- a handle that holds a value owns the box at its pointer, and an empty one owns nothing
abbrev pub owns_if : (R : RattleType) → Bool → Ptr → Option R.Denot → Fml
owns_if R true at (Some value) = box_owns (ghosts.dealloc_token heap) R at value
owns_if R false at None = ftrue
owns_if R made at value = ffalse
