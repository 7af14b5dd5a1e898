use Rattle.bb_memory_base.proofs.equality.equality_law.Goals as goal
use Rattle.bb_memory_bump_machine.specs.declared.steps.bump.BumpStep.TheVariants as step
use Rattle.bb_memory_traits.proofs.Layouts.{same_layout}
use Rattle.bb_memory_traits.specs.declared.allocator.Command.TheVariants as command
use Rattle.std.proofs.Common.{Bool, IsTrue, ap, arith, eqb, false, refl, rules, true, ℕ, ◌↔◌, ◌≡◌}
use Rattle.std.proofs.lemmas.Grind.{common_steps}
use Rattle.std.specs.Prelude.{◌&&◌}

pub returns-clause-layout : goal.returns-clause-layout
returns-clause-layout c = grind (arith, common_steps, same_layout)

both : (a b : Bool) → IsTrue (a && b) → IsTrue a × IsTrue b
both true b t = (refl, t)
both false b t = absurd (cc)

joined : (a b : Bool) → IsTrue a → IsTrue b → IsTrue (a && b)
joined true b s t = t
joined false b s t = absurd (cc)

number : (p q : ℕ) → IsTrue (eqb p q) ↔ (p ≡ q)
number p q = search rules

pub returns-clause-command : goal.returns-clause-command
returns-clause-command c (command.Allocate one) (command.Allocate other) =
    let l = returns-clause-layout c one other in
    (λ t. ap command.Allocate (l.0 t), λ same. l.1 (cc))
returns-clause-command c (command.Release one) (command.Release other) = search rules
returns-clause-command c (command.Grow p one old) (command.Grow q other new) =
    grind (arith, common_steps, same_layout one other, same_layout old new)
returns-clause-command c (command.Shrink p one old) (command.Shrink q other new) =
    grind (arith, common_steps, same_layout one other, same_layout old new)
returns-clause-command c one other = grind arith

pub returns-clause-bump_step : goal.returns-clause-bump_step
returns-clause-bump_step c (step.Read p one) (step.Read q other) =
    let l = returns-clause-layout c one other in
    let n = number p q in (
      λ t. let parts = both _ _ t in let k : p ≡ q = n.0 parts.0 in let m : one ≡ other = l.0 parts.1 in cc,
      λ same. joined _ _ (n.1 (cc)) (l.1 (cc)),
    )
returns-clause-bump_step c (step.Exchange p) (step.Exchange q) = grind (arith, common_steps)
returns-clause-bump_step c (step.Load p) (step.Load q) = grind (arith, common_steps)
returns-clause-bump_step c one other = grind arith
