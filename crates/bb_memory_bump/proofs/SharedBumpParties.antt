-- From the effect of a step to the party after it.
use Rattle.atomic_table.specs.Table.{Me}
use Rattle.bb_memory_bump.specs.SharedBumpRule.{AfterCall, IsPartySeat, SeatView, met_by, scene_of}
use Rattle.bb_memory_bump_machine.specs.BumpLogs.{BumpLog}
use Rattle.bb_memory_bump_machine.specs.BumpMachine.{BumpScene}
use Rattle.bb_memory_seats.specs.Seats.{number_of, view_log}
use Rattle.std.proofs.Common.{arith, ℕ, ◌≡◌}

-- SEATS

-- a party's fields are still those of its seat after a call
pub party_kept : (scene : BumpScene) (number : ℕ) (added : BumpLog) (old new : Me ℕ SeatView) → IsPartySeat number old →
    scene_of old.0 ≡ scene → AfterCall scene (number_of old.0) (view_log old.0) (met_by old.0) added new → IsPartySeat number new
party_kept scene number added old new fields same ended = grind arith
