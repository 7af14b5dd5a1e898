use Rattle.bb_memory_bump.proofs.SharedBumpHistories.{held_in_list}
use Rattle.bb_memory_bump.proofs.shared_bump.shared_bump_law.Goals as goal
use Rattle.bb_memory_bump.specs.SharedBump.{seen_by}
use Rattle.bb_memory_bump_machine.proofs.BumpMeetings.{common_apart}
use Rattle.bb_memory_bump_machine.proofs.BumpPositions.{interleaving_stands}
use Rattle.bb_memory_bump_machine.proofs.BumpRuns.{calls_run}
use Rattle.bb_memory_bump_machine.proofs.BumpWholes.{ends_by}
use Rattle.bb_memory_bump_machine.proofs.OwnChunks.{interleaved_older, interleaved_own, interleaved_since}
use Rattle.bb_memory_bump_machine.specs.BumpLogs.{chunks_won}
use Rattle.bb_memory_lists.proofs.Positions.{All-at}
use Rattle.bb_memory_traits.specs.Chunk.{AreApart}
use Rattle.std.proofs.Common.{arith}
use Rattle.std.specs.Prelude.{All}

pub returns : goal.returns
returns c = record {
  run = λ party position live history. calls_run party.allocator.scene live history.steps;
  since = λ party position live history.
      interleaved_since party.allocator.scene position party.number party.log live history;
  held = λ party position live history.
      held_in_list party.allocator.scene live position party.number party.log history;
  stands = λ party position live history.
      interleaving_stands party.allocator.scene position party.number party.log live history;
  sound = λ party is.
      interleaved_own party.allocator.scene (seen_by party) party.number party.log is.scene.opening is.interleaved;
  older = λ party live is opens.
      interleaved_older party.allocator.scene (seen_by party) party.number party.log live opens is.interleaved;
  both_run = λ a b live met. calls_run a.allocator.scene live met.1.steps;
  both_held = λ a b live met.
      let scene = a.allocator.scene in
      let both = met.1 in (
        held_in_list scene live met.0 a.number a.log
            record { steps = both.steps; allowed = both.allowed; leaves = both.leaves; logged = both.logged },
        held_in_list scene live met.0 b.number b.log
            record { steps = both.steps; allowed = both.allowed; leaves = both.leaves; logged = both.other_logged },
      );
  apart = λ a b is met.
      common_apart a.allocator.scene met.0 a.number a.log b.number b.log is.scene.opening met.1;
  ends = λ party. ends_by party.allocator.scene party.log (seen_by party) (omega arith);
  each_apart = λ log other_log i j chunk other apart at there.
      All-at (AreApart chunk) (chunks_won other_log)
      (All-at (λ one. All (AreApart one) (chunks_won other_log)) (chunks_won log) apart i chunk at) j other there;
}
