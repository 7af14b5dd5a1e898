use Rattle.bb_memory_file.proofs.FileSettlers.{counted_already, counted_now}
use Rattle.bb_memory_file.proofs.calls.count_leave.Goals.{else-life-eq1-via-else-life-eq1, else-life-eq1-via-then-life-eq1+else-life-lt18446744073709551615}
use Rattle.bb_memory_file.proofs.calls.count_leave.Goals as goal
use Rattle.std.proofs.Common.{arith, inl, inr}

pub returns-then-life-lt18446744073709551615 : goal.returns-then-life-lt18446744073709551615
returns-then-life-lt18446744073709551615 g c process =
    let odd = c.if-life-eq1.true in
    counted_now process (g.W.Words.log c.args.words.now) c.load_life-life.result _ _ 0 c.load_life-life.ensures c.store_life.ensures
    (omega (arith, odd)) (λ e. absurd (omega (arith, odd, e))) c.if-life-lt18446744073709551615.true

pub returns-else-life-eq1 : goal.returns-else-life-eq1
returns-else-life-eq1 g c process =
    elim c.else-life-eq1.branch [
      | else-life-eq1-via-then-life-eq1+else-life-lt18446744073709551615 w ↦
          let most = w.if-life-lt18446744073709551615.false in
          let fits = c.load_life-life.type_inv in
          counted_already process (g.W.Words.log c.args.words.now) c.load_life-life.result _ 0 c.load_life-life.ensures
          (inr (omega (arith, most, fits)))
      | else-life-eq1-via-else-life-eq1 w ↦
          let even = w.if-life-eq1.false in
          counted_already process (g.W.Words.log c.args.words.now) c.load_life-life.result _ 0 c.load_life-life.ensures
          (inl (omega (arith, even)))
    ]
