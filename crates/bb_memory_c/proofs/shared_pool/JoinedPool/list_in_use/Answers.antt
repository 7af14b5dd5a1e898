use Rattle.bb_memory_c.proofs.InUse.{AreListedBelow, flagged-all}
use Rattle.bb_memory_c.proofs.shared_pool.JoinedPool.list_in_use.Goals as goal
use Rattle.bb_memory_shared_pools.specs.SharedPool.{SharedPool}
use Rattle.bb_memory_shared_pools.specs.SharedPoolCaching.{CachingParty}
use Rattle.std.proofs.Common.{ap, arith, length, subst, sym, ℕ, ◌∙◌, ◌≡◌, ◌≤◌}

pub returns-clause-listed : goal.returns-clause-listed
returns-clause-listed c =
    let joined = c.args.self.now in
    let list = c.loop-number.list.items in
    let pool = sym (ap (λ (p : CachingParty). p.party.allocator) c.self.view_is) ∙ c.self.invariant.theirs
    ∙ sym c.deref.ensures in
    let buckets = c.number_of_buckets-buckets.ensures.value ∙ ap (λ (p : SharedPool). p.scene.geometry.buckets) (sym pool) in
    let end : c.loop-number.number ≡ c.number_of_buckets-buckets.result =
    omega (arith, c.loop-number.auto.number-end, c.loop-number-test.false) in
    record {
      flagged = λ _. flagged-all joined c.invariant.ensures.party
          (subst (λ (n : ℕ). AreListedBelow joined n list) (end ∙ buckets) c.loop-number.invariant.listed)
          (subst (λ (n : ℕ). n ≤ length list) buckets c.loop-number.invariant.long);
      none = λ none. absurd (omega (arith, none, c.if-most-eq0.false));
    }
