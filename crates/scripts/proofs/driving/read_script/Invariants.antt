use Rattle.scripts.proofs.driving.read_script.Given as goal
use Rattle.scripts.specs.Scripts.{IsLine, line_text}
use Rattle.scripts.specs.Words.{lines_of}
use Rattle.std.proofs.Common.{All, length, map, ◌++◌, ◌+◌, ◌≡◌, ◌≤◌}

-- the lines so far are the script's
abbrev pub invariant-loop-line : goal.invariant-loop-line
invariant-loop-line g l =
    let rules = g.K.ScriptKind.rules in
    record {
      read : lines_of l.input ≡ map (line_text rules) l.script.items ++ lines_of l.left;
      allowed : All (IsLine rules) l.script.items;
      counted : l.index ≡ length l.script.items;
      short : l.index + length l.left ≤ length l.input;
    }

abbrev pub decreases-loop-line : goal.decreases-loop-line
decreases-loop-line g l = length l.left
