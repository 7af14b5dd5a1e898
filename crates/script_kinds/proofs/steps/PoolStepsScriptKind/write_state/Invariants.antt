use Rattle.script_kinds.proofs.Telling.{flag_text}
use Rattle.script_kinds.proofs.steps.PoolStepsScriptKind.write_state.Given as goal
use Rattle.std.proofs.Common.{codes, take, ◌++◌, ◌≡◌}
use Rattle.std.specs.List.{flat_map}

-- the holders of the buckets so far are written
abbrev pub invariant-loop-bucket : goal.invariant-loop-bucket
invariant-loop-bucket l = l.line.items ≡ (l.fn.line.items ++ codes "held") ++ flat_map flag_text (take l.bucket l.world.flags)
