use Rattle.bb_memory_bump_machine.proofs.steps.bump_world.BumpWorld.call_of.Goals as goal
use Rattle.bb_memory_bump_machine.specs.BumpMachine.{AllFitting}
use Rattle.bb_memory_bump_machine.specs.BumpWorld.{BumpWorld}
use Rattle.bb_memory_lists.proofs.SliceGets.{slice_get-some}
use Rattle.std.proofs.Common.{IsSome, arith, subst, sym, ◌∙◌}

pub returns-clause-value : goal.returns-clause-value
returns-clause-value c = grind arith

pub returns-clause-fitting : goal.returns-clause-fitting
returns-clause-fitting c call is =
    let fitting = subst (λ (world : BumpWorld). AllFitting world.region world.state) c.self.view_is c.self.invariant.fitting in
    fitting c.args.party call (sym (returns-clause-value c) ∙ is)

pub returns-clause-within : goal.returns-clause-within
returns-clause-within c some =
    slice_get-some c.args.self.now.state.calls c.args.party (subst IsSome (returns-clause-value c) some)
