use Rattle.bb_memory_c.proofs.detached.bb_pool_party_return_many.Goals as goal
use Rattle.bb_memory_c.specs.SharedPools.{ReturnsMany}
use Rattle.bb_memory_c_calls.proofs.OpenHandles.{answers}
use Rattle.bb_memory_c_calls.specs.Answers.{figure_of}
use Rattle.bb_memory_c_calls.specs.declared.answer.Figure.{Figure}
use Rattle.std.proofs.Common.{ap, subst, sym, ℕ, ◌∙◌, ◌≡◌}

pub returns-in-Some : goal.returns-in-Some
returns-in-Some c =
    let told = c.of.result in
    let same : told.number ≡ c.return_each.result = ap (λ (f : Figure). f.number) c.of.ensures in
    answers c.in-Some.ensures.value (c.made_mut.follows.holds _) (
      c.of.ensures ∙ ap figure_of (sym same),
      subst (λ (n : ℕ). ReturnsMany c.in-Some.joined.now c.args.numbers.now c.args.from n c.return_each.new.self) (sym same)
          c.return_each.ensures,
    )
