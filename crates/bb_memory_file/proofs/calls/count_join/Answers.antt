use Rattle.bb_memory_file.proofs.FileSettlers.{counted_already, counted_now}
use Rattle.bb_memory_file.proofs.calls.count_join.Goals as goal
use Rattle.std.proofs.Common.{arith, inl}

pub returns-then-life-eq0 : goal.returns-then-life-eq0
returns-then-life-eq0 g c process =
    let even = c.if-life-eq0.true in
    counted_now process (g.W.Words.log c.args.words.now) c.load_life-life.result _ _ 1 c.load_life-life.ensures c.store_life.ensures
    (omega (arith, even)) (λ e. absurd (omega (arith, even, e)))
    (let fits = c.load_life-life.type_inv in omega (arith, even, fits))

pub returns-else-life-eq0 : goal.returns-else-life-eq0
returns-else-life-eq0 g c process =
    let odd = c.if-life-eq0.false in
    counted_already process (g.W.Words.log c.args.words.now) c.load_life-life.result _ 1 c.load_life-life.ensures
    (inl (omega (arith, odd)))
