use Rattle.scripts.proofs.LineWords.{SoFar, at_most_five, next_number, so_more, space_first}
use Rattle.scripts.proofs.words.words.Goals.{After-number}
use Rattle.scripts.proofs.words.words.Goals as goal
use Rattle.scripts.specs.Words.{list_of}
use Rattle.std.proofs.Common.{arith, ◌++◌, ◌∷◌}
use Rattle.std.proofs.lemmas.Option.{none-some}

-- the line so far, and its next field
so_far : (c : After-number) → SoFar c.args.line.now c.split_before.result.0.now (list_of c.loop-rest.numbers)
    (32 ∷ (c.split_before-in-loop-rest.result.0.now ++ c.split_before-in-loop-rest.result.1.now))
so_far c =
    rw (space_first c.loop-rest.rest.now c.split_before-in-loop-rest.result.0.now c.split_before-in-loop-rest.result.1.now
    c.loop-rest.invariant.rest_starts c.loop-rest-test.ensures c.split_before-in-loop-rest.ensures.parts) at c.loop-rest.invariant

pub returns-in_err-last-clause-none : goal.returns-in_err-last-clause-none
returns-in_err-last-clause-none c = rw c.from_residual.ensures (λ other are.
    let so = so_far (goal.at.returns-in_err-last-clause-none c).After-number in
    let (n, small, written, more) = next_number _ _ _ _ _ other so c.split_before-in-loop-rest.ensures.first
    c.split_before-in-loop-rest.ensures.rest are in
    none-some n (c.in_err-last.ensures.each n small written))

pub returns-in_err-numbers-clause-none : goal.returns-in_err-numbers-clause-none
returns-in_err-numbers-clause-none c = rw c.from_residual-in_err-numbers.ensures (λ other are.
    let so = so_far (goal.at.returns-in_err-numbers-clause-none c).After-number in
    let (n, small, written, more) = next_number _ _ _ _ _ other so c.split_before-in-loop-rest.ensures.first
    c.split_before-in-loop-rest.ensures.rest are in
    at_most_five other.numbers (omega (arith, more, c.in_err-numbers.ensures.full)))

pub loop-rest-init : goal.loop-rest-init
loop-rest-init c = grind arith

pub loop-rest-preserved : goal.loop-rest-preserved
loop-rest-preserved c =
    let so = so_far (goal.at.loop-rest-preserved c).After-number in
    so_more _ _ _ _ _ _ c.in_ok-last.last so c.in_ok-last.ensures.written c.in_ok-numbers.ensures.more
    c.split_before-in-loop-rest.ensures.rest
