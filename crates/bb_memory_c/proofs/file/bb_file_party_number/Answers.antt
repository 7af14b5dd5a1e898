use Rattle.bb_memory_c.proofs.file.bb_file_party_number.Goals as goal
use Rattle.bb_memory_c_calls.proofs.OpenHandles.{answers}
use Rattle.bb_memory_c_calls.specs.Answers.{figure_of}
use Rattle.std.proofs.Common.{ap, refl, ◌∙◌}

pub returns-in-Some : goal.returns-in-Some
returns-in-Some c = answers c.in-Some.ensures.value (c.made_mut.follows.holds _) (c.of.ensures ∙ ap figure_of c.number.ensures, refl)
