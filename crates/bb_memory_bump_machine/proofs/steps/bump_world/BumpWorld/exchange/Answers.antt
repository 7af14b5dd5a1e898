use Rattle.bb_memory_bump_machine.proofs.BumpSteps.{each_call-set}
use Rattle.bb_memory_bump_machine.proofs.steps.bump_world.BumpWorld.exchange.Goals as goal
use Rattle.bb_memory_bump_machine.specs.BumpMachine.{IsFitting}
use Rattle.bb_memory_bump_machine.specs.BumpWorld.{BumpWorld, world_of}
use Rattle.std.proofs.Common.{Some, ap, subst, sym}

pub of_exchange-turn-requires-clause-call : goal.of_exchange-turn-requires-clause-call
of_exchange-turn-requires-clause-call c =
    subst (λ (w : BumpWorld). IsFitting w.region c.in-Some-Some.call) (sym c.self.view_is)
    (c.in-Some-Some.ensures.fitting c.in-Some-Some.call (ap Some c.in-Some-Some.field-0-is))

pub invariant_of-self : goal.invariant_of-self
invariant_of-self c =
    let old = world_of c.self.inside.start c.self.inside.size c.self.inside.position c.self.inside.calls.items in
    record {
      region = c.self.invariant.region;
      within = c.of_exchange-turn.ensures.within;
      fitting = λ other. each_call-set (IsFitting old.region) old.state.calls c.args.party other c.of_exchange-turn.result.call
          (c.self.invariant.fitting other) c.of_exchange-turn.ensures.fitting;
    }
