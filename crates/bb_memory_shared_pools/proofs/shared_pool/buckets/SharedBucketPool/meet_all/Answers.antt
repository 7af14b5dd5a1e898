use Rattle.bb_memory_shared_pools.proofs.SharedPoolMerges.{agrees, all_merged, none_met}
use Rattle.bb_memory_shared_pools.proofs.SharedPoolWholes.{met_apart, one_served}
use Rattle.bb_memory_shared_pools.proofs.shared_pool.buckets.SharedBucketPool.meet_all.Goals as goal
use Rattle.std.proofs.Common.{arith, rules}
use Rattle.std.proofs.lemmas.Grind.{elements}

pub returns-in-Some-clause-met : goal.returns-in-Some-clause-met
returns-in-Some-clause-met g c =
    let all = all_merged _ _ _ _ _ _ c.pop.new.self.items c.party.invariant c.party.view_is c.in-Some.ensures.items in
    agrees c.args.self.now.scene c.args.parties.now.items (search rules)

pub returns-in-Some-clause-apart : goal.returns-in-Some-clause-apart
returns-in-Some-clause-apart g c = met_apart c.args.self.now.scene c.args.parties.now.items (returns-in-Some-clause-met g c)

pub returns-in-Some-clause-one_took : goal.returns-in-Some-clause-one_took
returns-in-Some-clause-one_took g c =
    one_served c.args.self.now.scene c.args.parties.now.items (search rules) (returns-in-Some-clause-met g c)

pub returns-in_default-clause-met : goal.returns-in_default-clause-met
returns-in_default-clause-met g c = none_met c.args.self.now.scene c.args.parties.now.items (search rules) (search rules)

pub meet_rest-requires-clause-seat : goal.meet_rest-requires-clause-seat
meet_rest-requires-clause-seat g c = grind arith

pub meet_rest-requires-clause-rest : goal.meet_rest-requires-clause-rest
meet_rest-requires-clause-rest g c = grind (arith, elements)
