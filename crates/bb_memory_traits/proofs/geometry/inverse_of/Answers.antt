use Rattle.bb_memory_traits.proofs.Factors.{inverse-step, square-rest}
use Rattle.bb_memory_traits.proofs.geometry.inverse_of.Goals as goal
use Rattle.std.proofs.Common.{ap, arith, pow-add, pow_mono, sym, ℕ, ◌%◌, ◌*◌, ◌+◌, ◌^◌, ◌∙◌, ◌≡◌, ◌≤◌}
use Rattle.std.proofs.Math.Nat.{mod-eq_of_lt}

pub loop-step-preserved : goal.loop-step-preserved
loop-step-preserved c =
    let rest : ℕ = c.loop-step.rest in
    let k : ℕ = 2 ^ c.loop-step._step in
    let twice : 2 ^ (c.loop-step._step + 1) ≡ k + k = omega (arith, pow-add 2 c.loop-step._step 1) in
    let short : k ≤ 2 ^ 5 = pow_mono {i = c.loop-step._step} {j = 5} (omega (arith, c.loop-step-test.true)) in
    record {
      one = inverse-step c.args.odd c.loop-step.inverse rest c.loop-step.invariant.one;
      multiple = ap (λ i. rest * rest % 2 ^ 64 % 2 ^ i) twice
          ∙ square-rest rest k (omega (arith, short)) c.loop-step.invariant.multiple;
    }

pub returns : goal.returns
returns c =
    let last : c.loop-step._step ≡ 6 = omega (arith, c.loop-step-test.false, c.loop-step.auto._step-end) in
    let none : c.loop-step.rest ≡ 0 =
    sym (mod-eq_of_lt c.loop-step.auto.rest-fits.fits) ∙ ap (λ i. c.loop-step.rest % 2 ^ (2 ^ i)) (sym last)
    ∙ c.loop-step.invariant.multiple in
    omega (arith, c.loop-step.invariant.one, none)
