use Rattle.bb_memory_c.proofs.InUse.{joined-sends}
use Rattle.bb_memory_c.proofs.shared_pool.JoinedPool.take_detached.Goals as goal
use Rattle.bb_memory_c.specs.SharedPools.{TakesDetached}
use Rattle.bb_memory_shared_pools.specs.SharedPoolCaching.{CachingParty, SendsCaching}
use Rattle.std.proofs.Common.{None, Option, Some, subst, ℕ}
use Rattle.std.specs.Prelude.{IfSome}

pub invariant_of-self : goal.invariant_of-self
invariant_of-self c =
    joined-sends _ c.take_detached.result c.self.invariant c.take_detached.ensures.sent c.take_detached.ensures.refused

-- a bucket was taken and detached
as_told : (result : Option ℕ) (old new : CachingParty) → IfSome result (λ number. SendsCaching old number new) →
    IfSome result (λ number. TakesDetached old number new)
as_told None old new sent = tt
as_told (Some number) old new sent = (sent.taken, sent.bucket, sent.serves, sent.its_number, sent.logged)

pub returns-clause-taken : goal.returns-clause-taken
returns-clause-taken c = as_told c.take_detached.result c.args.self.now c.take_detached.new.self
    (subst (λ (p : CachingParty). IfSome c.take_detached.result (λ number. SendsCaching p number c.take_detached.new.self))
    c.self.view_is c.take_detached.ensures.sent)
