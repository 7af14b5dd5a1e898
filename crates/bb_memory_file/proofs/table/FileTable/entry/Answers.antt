use Rattle.bb_memory_file.proofs.FileMade.{looked_on}
use Rattle.bb_memory_file.proofs.table.FileTable.entry.Goals as goal
use Rattle.bb_memory_file.specs.FileFormat.{entry_at}
use Rattle.bb_memory_file.specs.FileOperations.{looks_at_entry}
use Rattle.bb_memory_file.specs.FileTables.{FileTable}
use Rattle.bb_memory_file.specs.Recorded.{IsHand, Load, recorded}
use Rattle.bb_memory_file.specs.declared.recorded.RecordedWords.{RecordedWords}
use Rattle.std.proofs.Common.{subst, sym, ◌<◌}

pub invariant_of-self : goal.invariant_of-self
invariant_of-self c = (
  c.self.invariant.0,
  subst (λ (words : RecordedWords). IsHand words c.load.new.hand) c.deref.ensures c.load.ensures.hand,
  looked_on c.self.inside.geometry (Load (entry_at c.self.inside.geometry c.args.bucket) c.load.result)
      (recorded c.self.inside.looks) (recorded c.load.new.hand) c.self.invariant.2 c.load.ensures.recorded
      (looks_at_entry c.args.bucket c.load.result
      (subst (λ (table : FileTable). c.args.bucket < table.geometry.buckets) (sym c.self.view_is) c.requires)),
)
