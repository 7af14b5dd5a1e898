-- A row of zeros says the words with which the machine begins.
use Rattle.bb_memory_file.specs.FileFormat.{IsGeometry, entry_at, entry_in, flag_at, flag_in, life_at, slot_at, slot_in}
use Rattle.bb_memory_file.specs.FileParties.{scene_of, with_processes}
use Rattle.bb_memory_file.specs.FileRows.{Says}
use Rattle.bb_memory_file.specs.declared.geometry.FileGeometry.{FileGeometry}
use Rattle.bb_memory_file_machine.specs.FileMachine.{opening_state}
use Rattle.bb_memory_lists.proofs.SliceGets.{slice_get-replicate}
use Rattle.std.proofs.Common.{Some, ap, refl, replicate, suc, sym, zero, ℕ, ◌<◌, ◌∙◌, ◌≡◌}
use Rattle.std.specs.Prelude.{slice_get, slice_index}

zero_at : (words at : ℕ) → slice_index (replicate words 0) at ≡ 0
zero_at zero at = refl
zero_at (suc words) zero = refl
zero_at (suc words) (suc at) = zero_at words at

-- a word of zeros says what 0 says
said_at : {X : Type 0} (said : ℕ → X) (words at count number : ℕ) → number < count →
    slice_get (replicate count (said 0)) number ≡ Some (said (slice_index (replicate words 0) at))
said_at said words at count number less =
    slice_get-replicate count number (said 0) less ∙ ap (λ (word : ℕ). Some (said word)) (sym (zero_at words at))

pub says_new : (geometry : FileGeometry) (words processes : ℕ) → IsGeometry geometry words →
    Says geometry (replicate words 0) (opening_state (with_processes (scene_of geometry) processes)).words
says_new geometry words processes is = record {
  flags = λ bucket less. said_at flag_in words (flag_at geometry bucket) geometry.buckets bucket less;
  lives = λ party less. said_at (λ life. life) words (life_at geometry party) geometry.parties party less;
  entries = λ bucket less. said_at (entry_in geometry.slots) words (entry_at geometry bucket) geometry.buckets bucket less;
  slots = λ slot less. said_at slot_in words (slot_at geometry slot) geometry.slots slot less;
}
