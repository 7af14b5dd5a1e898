use Rattle.bb_memory_bump_machine.proofs.BumpSteps.{each_call-set}
use Rattle.bb_memory_bump_machine.proofs.steps.bump_world.BumpWorld.read.Goals as goal
use Rattle.bb_memory_bump_machine.specs.BumpMachine.{IsFitting}
use Rattle.bb_memory_bump_machine.specs.BumpWorld.{world_of}

pub invariant_of-self : goal.invariant_of-self
invariant_of-self c =
    let old = world_of c.self.inside.start c.self.inside.size c.self.inside.position c.self.inside.calls.items in
    record {
      region = c.self.invariant.region;
      within = c.self.invariant.within;
      fitting = λ other. each_call-set (IsFitting old.region) old.state.calls c.args.party other c.of_read-turn.result.call
          (c.self.invariant.fitting other) c.of_read-turn.ensures.fitting;
    }
