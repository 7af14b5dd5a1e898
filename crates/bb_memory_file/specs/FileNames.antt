-- The names of the file machine's types, for the definitions here.
pub use Rattle.bb_memory_file_machine.specs.declared.steps.file.Entry.{Entry}
pub use Rattle.bb_memory_file_machine.specs.declared.steps.file.Entry.TheVariants.{In, Nowhere}
pub use Rattle.bb_memory_file_machine.specs.declared.steps.file.FileFlag.{FileFlag}
pub use Rattle.bb_memory_file_machine.specs.declared.steps.file.FileFlag.TheVariants.{DetachedBy, Free, HeldBy, SentTo}
pub use Rattle.bb_memory_file_machine.specs.declared.steps.file.FileOutcome.{FileOutcome}
pub use Rattle.bb_memory_file_machine.specs.declared.steps.file.FileOutcome.TheVariants.{Refused}
pub use Rattle.bb_memory_file_machine.specs.declared.steps.file.FileStep.{FileStep}
pub use Rattle.bb_memory_file_machine.specs.declared.steps.file.FileStep.TheVariants.{Allocate, AttachNumber, Count, Deallocate, DetachNumber, Done, Fill, Kill, Leave, Lock, Next, Post, PutBack, Recover, Release, Take, Unlock}
pub use Rattle.bb_memory_file_machine.specs.declared.steps.file.Place.{Place}
pub use Rattle.bb_memory_file_machine.specs.declared.steps.file.Place.TheVariants.{Clearing, Counting, Dead, Flags, Outside, Posting, Sending, Settled}
pub use Rattle.bb_memory_file_machine.specs.declared.steps.file.Slot.{Slot}
pub use Rattle.bb_memory_file_machine.specs.declared.steps.file.Slot.TheVariants.{Empty, Message}
