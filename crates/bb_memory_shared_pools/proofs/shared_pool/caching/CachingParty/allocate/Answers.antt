use Rattle.bb_memory_shared_pools.proofs.SharedPoolCaching.{cached_less, last_held, serves_cached, serves_searched, unasked_answer}
use Rattle.bb_memory_shared_pools.proofs.SharedPoolRequests.{not_within, unasked}
use Rattle.bb_memory_shared_pools.proofs.shared_pool.caching.CachingParty.allocate.Goals as goal
use Rattle.bb_memory_shared_pools.specs.SharedPool.{IsParty, ServesAlone, SharedPool}
use Rattle.bb_memory_shared_pools.specs.SharedPoolCaching.{AreCached, CachingParty}
use Rattle.bb_memory_shared_pools.specs.SharedPoolNextFit.{MayTakeFrom, hint_of}
use Rattle.bb_memory_traits.specs.Geometry.{Admits}
use Rattle.bb_memory_traits.specs.PoolObject.{IsWithin, PoolGeometry}
use Rattle.std.proofs.Common.{[], ap, append-nil, arith, length, refl, rules, subst, sym, ◌∙◌, ◌≡◌}
use Rattle.std.proofs.lemmas.List.{length_push}
use Rattle.std.specs.Prelude.{Err}

-- refused without a step
pub returns-in_err-admit : goal.returns-in_err-admit
returns-in_err-admit g c =
    let old = c.args.self.now in
    let error = c.in_err-admit.field-0.0 in
    let told : c.from_residual.result ≡ Err error = search rules in
    let geometry = c.geometry.ensures.value ∙ ap (λ (p : SharedPool). p.scene.geometry) c.pool.view_is
    ∙ sym (ap (λ (p : SharedPool). p.scene.geometry) c.requires.party) in
    let refused = subst (λ (x : PoolGeometry). Admits x.bucket c.args.layout (Err error)) geometry c.in_err-admit.ensures in
    let is = subst (λ (p : CachingParty). IsParty p.party) c.self.view_is c.number.ensures.party in
    rw told record {
      answer = unasked_answer old c.args.layout error is refused;
      serves = (unasked old.party.allocator old.party c.args.layout error is refused).serves;
      taken = tt;
      fresh = tt;
      others_kept = λ other out. out;
      others = λ other apart out. out;
      alone = λ one within. absurd (not_within old.party.allocator.scene.geometry.bucket c.args.layout error refused within);
      party = refl;
      most = refl;
    }

-- the bucket that was cached last
pub bucket-bucket-requires : goal.bucket-bucket-requires
bucket-bucket-requires g c =
    let before = c.self.inside in
    let geometry = c.geometry.ensures.value ∙ ap (λ (p : SharedPool). p.scene.geometry) c.pool.view_is in
    let within = subst (λ (x : PoolGeometry). IsWithin x.bucket c.args.layout) geometry c.in_ok-admit.ensures in (
      omega arith,
      (
        ap (λ (p : CachingParty). p.party.allocator) c.self.view_is ∙ c.requires.party,
        (
          last_held before.party before.cached.items c.pop.new.self.items c.in-Some.number c.in-Some.ensures.items
              c.self.invariant.0,
          omega (arith, within.size, c.size.ensures),
        ),
      ),
    )

pub invariant_of-self : goal.invariant_of-self
invariant_of-self g c =
    let before = c.self.inside in
    let rest = c.pop.new.self.items in
    let long = length_push rest c.in-Some.number in (
      cached_less before.party before.cached.items rest c.in-Some.number c.in-Some.ensures.items c.self.invariant.0,
      omega (arith, ap length c.in-Some.ensures.items),
      omega arith,
      c.self.invariant.3,
    )

pub returns-in-Some : goal.returns-in-Some
returns-in-Some g c =
    let before = c.self.inside in
    let geometry = c.geometry.ensures.value ∙ ap (λ (p : SharedPool). p.scene.geometry) c.pool.view_is in
    let within = subst (λ (x : PoolGeometry). IsWithin x.bucket c.args.layout) geometry c.in_ok-admit.ensures in
    serves_cached c.args.pool.now c.args.self.now before.party before.cached.items c.pop.new.self.items before.most
    c.in-Some.number c.size.result c.bucket-bucket.result c.args.layout c.self.view_is c.requires.party c.number.ensures.party
    c.self.invariant.0 c.in-Some.ensures.items c.bucket-bucket.ensures.value c.size.ensures within

-- a search, if none is cached
pub invariant_of-self-in-None : goal.invariant_of-self-in-None
invariant_of-self-in-None g c =
    let now : c.pop.new.self.items ≡ [] = search rules in
    let long = ap length now in (
      subst (AreCached c.allocate_next_fit.new.party) (sym now) record {
        held = λ k d below. absurd (omega arith);
        differ = λ i j d order within same. absurd (omega arith);
      },
      omega arith,
      omega arith,
      c.self.invariant.3,
    )

pub returns-in-None : goal.returns-in-None
returns-in-None g c =
    let old = c.args.self.now in
    let layout = c.args.layout in
    let result = c.allocate_next_fit.result in
    let new = c.allocate_next_fit.new.party in
    let asked = c.allocate_next_fit.ensures in
    let now : c.pop.new.self.items ≡ [] = search rules in
    let none : old.cached ≡ [] =
    ap (λ (p : CachingParty). p.cached) (sym c.self.view_is) ∙ c.in-None.ensures.items ∙ append-nil _ ∙ now in
    serves_searched c.args.pool.now old _ layout result c.requires.party none
    (λ i. record { party = new; cached = (now ∙ sym none) i; most = (c.self.view_is i).most })
    (subst (λ (p : CachingParty). MayTakeFrom (hint_of p.party) p.party layout result new) c.self.view_is asked.answer)
    (subst (λ (p : CachingParty). ServesAlone c.args.pool.now p.party layout result new) c.self.view_is asked.serves)
    asked.party
