use Rattle.bb_memory_shared_pools.proofs.SharedPoolCaching.{out_sent, serves_cached, serves_searched}
use Rattle.bb_memory_shared_pools.proofs.shared_pool.caching.CachingParty.take_detached.Goals as goal
use Rattle.bb_memory_shared_pools.specs.SharedPool.{PoolParty, SharedPool, TakenBucket, detach_entry, taken_bucket, with_entries}
use Rattle.bb_memory_shared_pools.specs.SharedPoolCaching.{CachingParty, SendsCaching, ServesCaching}
use Rattle.bb_memory_shared_pools.specs.SharedPoolNextFit.{TakesToSend}
use Rattle.std.proofs.Common.{None, Ok, Option, Some, [], ap, append-nil, arith, refl, rules, subst, sym, ℕ, ◌∙◌, ◌≡◌}
use Rattle.std.specs.Prelude.{IfSome}

-- the bucket that was cached last
pub returns-in-Some-clause-sent : goal.returns-in-Some-clause-sent
returns-in-Some-clause-sent g c =
    let old = c.args.self.now in
    let before = c.self.inside in
    let rest = c.pop.new.self.items in
    let token = c.bucket-token.result in
    let taken : CachingParty = record { party = before.party; cached = rest; most = before.most } in
    let serves = subst (λ (p : SharedPool). ServesCaching old p.scene.geometry.bucket (Ok token) taken) (sym c.requires.party)
    (serves_cached c.args.pool.now old before.party before.cached.items rest before.most c.in-Some.number
    c.bucket_size-len.result token c.args.pool.now.scene.geometry.bucket c.self.view_is c.requires.party
    c.number.ensures.party c.self.invariant.0 c.in-Some.ensures.items c.bucket-token.ensures.value
    c.bucket_size-len.ensures.value (record { size = omega arith; align = omega arith })) in
    let new : CachingParty = record { party = c.detach_number.new.party; cached = rest; most = before.most } in
    let logged : new ≡ record taken { party = with_entries taken.party (detach_entry taken.party.number token.number) } = λ i.
    record { party = c.detach_number.ensures.party.logged i; cached = rest; most = before.most } in
    record {
      taken = taken;
      bucket = token;
      serves = serves;
      its_number = sym (ap (λ (b : TakenBucket). b.number) c.bucket-token.ensures.value);
      logged = logged;
      out = out_sent old taken new token old.party.allocator.scene.geometry.bucket serves logged;
    }

-- a search took a bucket
if_some : {A B : ℕ → Type 0} (result : Option ℕ) → ((number : ℕ) → A number → B number) → IfSome result A → IfSome result B
if_some None so given = tt
if_some (Some number) so given = so number given

sends : (old new : CachingParty) (number : ℕ) → old.cached ≡ [] → new ≡ record old { party = new.party } →
    TakesToSend old.party number new.party → SendsCaching old number new
sends old new number none unchanged sent =
    let bucket = old.party.allocator.scene.geometry.bucket in
    let token = taken_bucket old.party.allocator number bucket.size in
    let taken : CachingParty = record { party = sent.taken; cached = old.cached; most = old.most } in
    let serves = serves_searched old.party.allocator old taken bucket (Ok token) refl none refl sent.answer sent.serves
    (ap (λ (p : PoolParty). p.allocator) sent.answer.2.adds) in
    let logged : new ≡ record taken { party = with_entries taken.party (detach_entry taken.party.number number) } =
    unchanged ∙ λ i. record { party = sent.logged i; cached = old.cached; most = old.most } in
    record {
      taken = taken;
      bucket = token;
      serves = serves;
      its_number = refl;
      logged = logged;
      out = out_sent old taken new token bucket serves logged;
    }

pub returns-in-None-clause-sent : goal.returns-in-None-clause-sent
returns-in-None-clause-sent g c =
    let old = c.args.self.now in
    let new = c.take_detached.new.party in
    let now : c.pop.new.self.items ≡ [] = search rules in
    let none : old.cached ≡ [] =
    ap (λ (p : CachingParty). p.cached) (sym c.self.view_is) ∙ c.in-None.ensures.items ∙ append-nil _ ∙ now in
    if_some c.take_detached.result (λ number sent. sends old _ number none
    (λ i. record { party = new; cached = (now ∙ sym none) i; most = (c.self.view_is i).most })
    (subst (λ (p : CachingParty). TakesToSend p.party number new) c.self.view_is sent)) c.take_detached.ensures.sent
