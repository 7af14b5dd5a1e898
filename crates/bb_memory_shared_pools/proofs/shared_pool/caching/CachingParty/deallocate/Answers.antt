use Rattle.bb_memory_shared_pools.proofs.SharedPoolCaching.{has_last, out_cached, out_less, out_more, out_returned}
use Rattle.bb_memory_shared_pools.proofs.shared_pool.caching.CachingParty.deallocate.Goals as goal
use Rattle.bb_memory_shared_pools.specs.SharedPool.{PoolParty, return_entry, with_entries}
use Rattle.bb_memory_shared_pools.specs.SharedPoolCaching.{CachingParty, IsOut}
use Rattle.std.proofs.Common.{List, [], ap, arith, length, subst, sym, ℕ, ◌++◌, ◌∙◌, ◌∷◌, ◌≡◌}
use Rattle.std.proofs.lemmas.Grind.{common_steps}

pub invariant_of-self : goal.invariant_of-self
invariant_of-self g c = let before = c.self.inside in (
  out_cached c.args.self.now before.party before.cached.items c.push_reserved.new.self.items before.most c.args.bucket.number
      c.number-then-len-self.result c.self.view_is c.number-then-len-self.ensures.value c.self.invariant.0 c.requires.out c.push_reserved.ensures.items,
  grind (arith, common_steps),
  grind (arith, common_steps),
  c.self.invariant.3,
)

pub invariant_of-self-else-len-self : goal.invariant_of-self-else-len-self
invariant_of-self-else-len-self g c = let before = c.self.inside in (
  out_returned c.args.self.now before.party c.deallocate_bucket.new.party before.cached.items before.most c.args.bucket.number
      c.self.view_is c.self.invariant.0 c.requires.out c.deallocate_bucket.ensures.others_kept,
  c.self.invariant.1,
  c.self.invariant.2,
  c.self.invariant.3,
)

pub returns-then-len-self : goal.returns-then-len-self
unfolding IsOut
returns-then-len-self g c =
    let old : CachingParty = c.args.self.now in
    let before = c.self.inside in
    let now : List ℕ = c.push_reserved.new.self.items in
    let new : CachingParty = record { party = before.party; cached = now; most = before.most } in
    let number = c.number-then-len-self.result in
    let its = c.number-then-len-self.ensures.value in
    let party = ap (λ (p : CachingParty). p.party) c.self.view_is in
    let most = ap (λ (p : CachingParty). p.most) c.self.view_is in
    let long = ap (λ (p : CachingParty). length p.cached) c.self.view_is in
    let items : now ≡ old.cached ++ number ∷ [] =
    ◌∙◌ {A = List ℕ} c.push_reserved.ensures.items (ap (λ (p : CachingParty). p.cached ++ number ∷ []) c.self.view_is) in
    record {
      answer = record {
        cached = λ less i. record {
          party = party i;
          cached = (items ∙ ap (λ (n : ℕ). old.cached ++ n ∷ []) its) i;
          most = most i;
        };
        returned = λ full. absurd (omega arith);
      };
      given_back = λ out. out.1 (has_last now old.cached number c.args.bucket.number items (sym its));
      others_kept = λ other apart. out_more old new number other party items (λ same. apart (same ∙ its));
      others = λ other. out_less new old number other (sym party) items;
      party = ap (λ (p : PoolParty). p.allocator) party;
      is_party = record { number = ap (λ (p : PoolParty). p.number) party; is_party = c.number.ensures.party };
      most = most;
    }

pub returns-else-len-self : goal.returns-else-len-self
unfolding IsOut
returns-else-len-self g c =
    let party = c.deallocate_bucket.ensures in
    let number = c.args.bucket.number in
    let most = ap (λ (p : CachingParty). p.most) c.self.view_is in
    let long = ap (λ (p : CachingParty). length p.cached) c.self.view_is in
    record {
      answer = record {
        cached = λ less. absurd (omega arith);
        returned = λ full i. record {
          party = (party.logged ∙ λ j. let its = (c.self.view_is j).party in
              with_entries its (return_entry its.number number)) i;
          cached = (c.self.view_is i).cached;
          most = most i;
        };
      };
      given_back = λ out. party.given_back out.0;
      others_kept = λ other apart out.
          let its = subst (λ (p : CachingParty). IsOut p other) (sym c.self.view_is) out in
          (party.others_kept other apart its.0, its.1);
      others = λ other out. subst (λ (p : CachingParty). IsOut p other) c.self.view_is (party.others other out.0, out.1);
      party = party.party ∙ sym c.requires.party;
      is_party = record {
        number = party.is_party.number ∙ ap (λ (p : CachingParty). p.party.number) c.self.view_is;
        is_party = party.is_party.is_party;
      };
      most = most;
    }
