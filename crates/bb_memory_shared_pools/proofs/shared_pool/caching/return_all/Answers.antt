use Rattle.bb_memory_pool_machine.specs.PoolLogs.{IsHeldAfter}
use Rattle.bb_memory_shared_pools.proofs.SharedPoolCaching.{cached_less, cached_while, has_either, has_last, has_others, last_apart, number_of, returns_last}
use Rattle.bb_memory_shared_pools.proofs.shared_pool.caching.return_all.Goals as goal
use Rattle.std.proofs.Common.{arith, subst, sym, ℕ, ⊎_elim, ◌∙◌}
use Rattle.std.specs.Prelude.{Contains}

pub loop-number-preserved : goal.loop-number-preserved
loop-number-preserved g c =
    let before = c.loop-number.invariant in
    let now = c.deallocate_bucket.ensures in
    let party = c.loop-number.party in
    let new = c.deallocate_bucket.new.party in
    let cached = c.loop-number.cached.items in
    let rest = c.pop.new.self.items in
    let number = c.in-Some.number in
    let items = c.in-Some.ensures.items in
    let its = number_of c.args.pool.now c.bucket-bucket.result number 0 c.bucket-bucket.ensures.value in
    record {
      party = now.party;
      is_party = record { number = now.is_party.number ∙ before.is_party.number; is_party = now.is_party.is_party };
      logged = returns_last party new cached rest number c.bucket-bucket.result.number items its now.logged ∙ before.logged;
      cached = cached_while party new rest c.bucket-bucket.result.number
          (cached_less party cached rest number items before.cached)
          (λ at. last_apart party cached rest number items before.cached (subst (λ (n : ℕ). Contains rest n) its at))
          now.others_kept;
      capacity = c.pop.ensures.capacity ∙ before.capacity;
      kept = λ other apart held. now.others_kept other
          (λ same. apart (before.among other (has_last cached rest number other items (same ∙ its))))
          (before.kept other apart held);
      others = λ other held. before.others other (now.others other held);
      left = λ other held at. ⊎_elim (λ (among : Contains rest other). among)
          (λ same. absurd (now.given_back (subst (λ (n : ℕ). IsHeldAfter new.log n) (sym (its ∙ same)) held)))
          (has_either cached rest number other items (before.left other (now.others other held) at));
      among = λ other at. before.among other (has_others cached rest number other items at);
    }

pub deallocate_bucket-requires : goal.deallocate_bucket-requires
deallocate_bucket-requires g c = grind arith
