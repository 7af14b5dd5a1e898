use Rattle.bb_memory_bump.proofs.SharedBumpRequests.{IsTrying}
use Rattle.bb_memory_bump.proofs.shared_bump.SharedBumpAllocator.claim.Given as goal
use Rattle.bb_memory_bump.specs.SharedBumpRule.{met_by}
use Rattle.bb_memory_bump_machine.specs.BumpMachine.{chunk_at}
use Rattle.bb_memory_seats.specs.Seats.{number_of, view_log}
use Rattle.bb_memory_traits.specs.Chunk.{IsInside}
use Rattle.std.proofs.Common.{◌%◌, ◌-◌, ◌≡◌}

abbrev pub invariant-loop-seen : goal.invariant-loop-seen
invariant-loop-seen g l = record {
  table : l.seat.table_id ≡ l.fn.seat.table_id;
  trying : IsTrying l.self.scene (number_of l.fn.seat.me.0) (view_log l.fn.seat.me.0) (met_by l.fn.seat.me.0)
      l.layout l.seen l.seat.me;
  placed : l.chunk ≡ chunk_at l.self.scene.region l.seen l.layout;
  inside : IsInside l.self.scene.region l.chunk;
  aligned : l.chunk.place % l.layout.align ≡ 0;
}

abbrev pub decreases-loop-seen : goal.decreases-loop-seen
decreases-loop-seen g l = l.self.scene.region.size - l.seen
