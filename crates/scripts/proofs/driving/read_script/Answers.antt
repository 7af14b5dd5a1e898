use Rattle.scripts.proofs.ScriptLines.{first_unreadable, lines_more}
use Rattle.scripts.proofs.driving.read_script.Goals as goal
use Rattle.scripts.specs.Scripts.{IsLine, line_text}
use Rattle.scripts.specs.Words.{lines_of}
use Rattle.std.proofs.Common.{List, [], ap, arith, length, map, ℕ, ◌++◌, ◌∙◌, ◌∷◌, ◌≡◌}
use Rattle.std.proofs.lemmas.List.{length_push}
use Rattle.std.proofs.lemmas.List.Elements.{All-push, All-same}

pub returns-in_default-read_line-clause-unreadable : goal.returns-in_default-read_line-clause-unreadable
returns-in_default-read_line-clause-unreadable g c =
    let rules = g.K.ScriptKind.rules in
    let line : List ℕ = c.in-Some.line.now in
    let lines = c.loop-line.script.items in
    let before = map (line_text rules) lines in
    let none = rw c.in_default-read_line.is at c.read_line.ensures.unreadable in
    first_unreadable rules (lines_of c.args.input.now) (lines_of c.in-Some.rest.now) lines line
    c.loop-line.index
    (c.loop-line.invariant.read ∙ ap (λ ls. before ++ ls) c.in-Some.ensures.cut) c.loop-line.invariant.allowed
    c.loop-line.invariant.counted none

pub returns-in_default-read_line-clause-within : goal.returns-in_default-read_line-clause-within
returns-in_default-read_line-clause-within g c = omega (arith, c.loop-line.invariant.short, c.in-Some.ensures.shorter)

pub loop-line-preserved : goal.loop-line-preserved
loop-line-preserved g c =
    let rules = g.K.ScriptKind.rules in
    let lines = c.loop-line.script.items in
    let grown = c.push.new.self.items in
    let before = map (line_text rules) lines in
    let line = c.in-Some-read_line.line in
    let pushed : grown ≡ lines ++ line ∷ [] = c.in_ok-push.ensures.items in
    let counted : length grown ≡ length (lines ++ line ∷ []) = ap length pushed in
    let written = c.in-Some-read_line.ensures.written in
    let found = c.loop-line.invariant.read ∙ ap (λ ls. before ++ ls) c.in-Some.ensures.cut in
    record {
      read = lines_more (line_text rules) lines grown line (lines_of c.args.input.now) (lines_of c.in-Some.rest.now)
          c.in-Some.line.now found written.1 pushed;
      allowed = All-same (IsLine rules) grown (lines ++ line ∷ []) pushed
          (All-push (IsLine rules) lines line c.loop-line.invariant.allowed written.0);
      counted = omega (arith, c.loop-line.invariant.counted, counted, length_push lines line);
      short = omega (arith, c.loop-line.invariant.short, c.in-Some.ensures.shorter);
    }
