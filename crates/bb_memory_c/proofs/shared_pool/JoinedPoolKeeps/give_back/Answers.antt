use Rattle.bb_memory_c.proofs.shared_pool.JoinedPoolKeeps.give_back.Goals as goal
use Rattle.bb_memory_shared_pools.specs.SharedPoolCaching.{IsOut}
use Rattle.std.proofs.Common.{subst}

pub returns-in-Some-clause-held : goal.returns-in-Some-clause-held
returns-in-Some-clause-held c =
    let there = c.in-Some.ensures in
    let out = c.give_back_if_out.ensures.out in (
      λ yes. (c.in-Some.number, record { out = out.0 yes; placed = there.there }),
      λ held. out.1 (subst (IsOut c.args.self.now) (there.one held.0 held.1.placed) held.1.out),
    )
