-- Scripts that take the steps of a machine: of a bump, or of a pool.
use Rattle.bb_memory_bump_machine.specs.BumpWorld as bump_world
use Rattle.bb_memory_bump_machine.specs.declared.steps.bump.BumpOutcome.{BumpOutcome}
use Rattle.bb_memory_bump_machine.specs.declared.steps.bump.BumpOutcome.TheVariants as bump
use Rattle.bb_memory_bump_machine.specs.declared.steps.bump.BumpStep.{BumpStep}
use Rattle.bb_memory_bump_machine.specs.declared.steps.bump.BumpStep.TheVariants.{Clear, Exchange, Load, Read}
use Rattle.bb_memory_pool_machine.specs.PoolMachine.{all_free, holder_in, pool_after}
use Rattle.bb_memory_pool_machine.specs.PoolWorld as pool_world
use Rattle.bb_memory_pool_machine.specs.declared.steps.pool.PoolOutcome.{PoolOutcome}
use Rattle.bb_memory_pool_machine.specs.declared.steps.pool.PoolOutcome.TheVariants as pool
use Rattle.bb_memory_pool_machine.specs.declared.steps.pool.PoolStep.{PoolStep}
use Rattle.bb_memory_pool_machine.specs.declared.steps.pool.PoolStep.TheVariants.{GiveBack, Try}
use Rattle.bb_memory_traits.specs.Chunk.{IsRegion}
use Rattle.scripts.specs.Scripts.{Rules}
use Rattle.scripts.specs.Words.{IsParty, Words, bounds_numbers, name_line, region_of, words, words_then}
use Rattle.scripts.specs.declared.words.Bounds.{Bounds}
use Rattle.scripts.specs.declared.words.Numbers.TheVariants.{One, Three, Two, Zero}
use Rattle.std.specs.Fmt.{decimal}
use Rattle.std.specs.List.{flat_map}
use Rattle.std.specs.Prelude.{List, None, Option, Some, [], codes, true, ℕ, ◌++◌, ◌<◌, ◌^◌, ◌≡◌, ◌≤◌}

-- the step's party is one of the parties
abbrev pub IsBumpStep : BumpStep → Type 0
IsBumpStep (Read party layout) = IsParty party
IsBumpStep (Exchange party) = IsParty party
IsBumpStep (Load party) = IsParty party
IsBumpStep Clear = Unit {0}

-- the words of a bump step's line
abbrev pub bump_step_words : BumpStep → Words
bump_step_words (Read party layout) = words (codes "read") (Three party layout.size layout.align)
bump_step_words (Exchange party) = words (codes "exchange") (One party)
bump_step_words (Load party) = words (codes "load") (One party)
bump_step_words Clear = words (codes "clear") Zero

-- the line of a bump step's outcome
abbrev pub bump_outcome_line : BumpOutcome → List ℕ
bump_outcome_line (bump.Sees position) = words_then (codes "sees") (One position) (codes "\n")
bump_outcome_line (bump.RefusedAtRead position) = words_then (codes "sees") (One position) (codes " refused OutOfMemory\n")
bump_outcome_line (bump.Wins chunk) = words_then (codes "wins") (Two chunk.place chunk.len) (codes "\n")
bump_outcome_line (bump.Loses position) = words_then (codes "loses") (One position) (codes "\n")
bump_outcome_line (bump.RefusedAtLoss position) = words_then (codes "loses") (One position) (codes " refused OutOfMemory\n")
bump_outcome_line (bump.Loaded position) = words_then (codes "used") (One position) (codes "\n")
bump_outcome_line bump.Cleared = name_line (codes "cleared")
bump_outcome_line bump.Passed = name_line (codes "passed")

-- Scripts that drive a bump world by its steps, `steps-bump START SIZE`. The replies are the
-- outcomes of the steps, and the world is the one that they leave.
abbrev pub bump_step_rules : Rules bump_world.BumpWorld Bounds BumpStep BumpOutcome
bump_step_rules = record {
  name = codes "steps-bump";
  is_header = λ bounds. IsRegion (region_of bounds);
  header_numbers = bounds_numbers;
  is_command = IsBumpStep;
  command_words = bump_step_words;
  can_show = true;
  starts = λ bounds world. world ≡ bump_world.opened (region_of bounds) 64;
  runs = λ old steps outcomes new. (outcomes ≡ bump_world.outcomes_of old steps) × (new ≡ bump_world.after_steps old steps);
  reply_text = bump_outcome_line;
  state_text = λ world. words_then (codes "used") (One world.state.position) (codes "\n");
}

-- the step's party is one of the parties, and its bucket's number fits into 32 bits
abbrev pub IsPoolStep : PoolStep → Type 0
IsPoolStep (Try party) = IsParty party
IsPoolStep (GiveBack party bucket) = IsParty party × (bucket < 2 ^ 32)
-- no line writes the other steps
IsPoolStep _ = ⊥

-- the words of a pool step's line; only two steps have one
abbrev pub pool_step_words : PoolStep → Words
pool_step_words (Try party) = words (codes "try") (One party)
pool_step_words (GiveBack party bucket) = words (codes "give") (Two party bucket)
pool_step_words _ = words [] Zero

-- the number of a bucket's holder, or a dash if no party holds it
abbrev pub holder_text : Option ℕ → List ℕ
holder_text (Some party) = codes " " ++ decimal party
holder_text None = codes " -"

-- the line of a pool step's outcome
abbrev pub pool_outcome_line : PoolOutcome → List ℕ
pool_outcome_line (pool.Takes bucket) = words_then (codes "takes") (One bucket) (codes "\n")
pool_outcome_line (pool.Loses bucket) = words_then (codes "loses") (One bucket) (codes "\n")
pool_outcome_line (pool.RefusedAtLoss bucket) = words_then (codes "loses") (One bucket) (codes " refused OutOfMemory\n")
pool_outcome_line (pool.Gives bucket) = words_then (codes "gives") (One bucket) (codes "\n")
pool_outcome_line pool.Passed = name_line (codes "passed")
pool_outcome_line (pool.Misses bucket) = words_then (codes "misses") (One bucket) (codes "\n")
pool_outcome_line (pool.Detaches bucket) = words_then (codes "detaches") (One bucket) (codes "\n")
pool_outcome_line (pool.Attaches bucket) = words_then (codes "attaches") (One bucket) (codes "\n")

-- Scripts that drive a pool world by its steps, `steps-pool BUCKETS`. The replies are the outcomes
-- of the steps, and the world is the one that they leave.
abbrev pub pool_step_rules : Rules pool_world.PoolWorld ℕ PoolStep PoolOutcome
pool_step_rules = record {
  name = codes "steps-pool";
  is_header = λ buckets. buckets ≤ 4096;
  header_numbers = One;
  is_command = IsPoolStep;
  command_words = pool_step_words;
  can_show = true;
  starts = λ buckets world. world ≡ all_free buckets 64;
  runs = λ old steps outcomes new. (outcomes ≡ pool_world.outcomes_of old steps) × (new ≡ pool_after old steps);
  reply_text = pool_outcome_line;
  state_text = λ world. codes "held" ++ (flat_map (λ flag. holder_text (holder_in flag)) world.flags ++ codes "\n");
}
