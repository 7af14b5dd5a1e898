use Rattle.bb_memory_c.proofs.shared_pool.PoolPartiesEnds.end_code.Goals.{else-has_detached, then-has_detached}
use Rattle.bb_memory_c.proofs.shared_pool.PoolPartiesEnds.end_code.Goals as goal
use Rattle.bb_memory_c.specs.SharedPools.{PoolParties, TellsDestroy}
use Rattle.bb_memory_pool_machine.specs.PoolMachine.{PoolScene}
use Rattle.bb_memory_shared_pools.specs.SharedPool.{PoolParty, SharedPool}
use Rattle.bb_memory_shared_pools.specs.SharedPoolMeetings.{MetDetached, MetUndetached}
use Rattle.std.proofs.Common.{List, ap, arith, length, refl, subst, sym, ℕ, ◌<◌, ◌∙◌, ◌≡◌}

-- what was found for the pool and the parties of the handle
found-detached : (was scene : PoolScene) (items parties : List PoolParty) → was ≡ scene → items ≡ parties →
    (bucket : ℕ) × MetDetached was items bucket → (bucket : ℕ) × MetDetached scene parties bucket
found-detached was scene items parties same are found =
    subst (λ (s : PoolScene). (b : ℕ) × MetDetached s parties b) same
    (subst (λ (l : List PoolParty). (b : ℕ) × MetDetached was l b) are found)

found-none : (was scene : PoolScene) (items parties : List PoolParty) → was ≡ scene → items ≡ parties →
    ((bucket : ℕ) → bucket < was.geometry.buckets → MetUndetached was items bucket) →
    (bucket : ℕ) → bucket < scene.geometry.buckets → MetUndetached scene parties bucket
found-none was scene items parties same are found =
    subst (λ (s : PoolScene). (b : ℕ) → b < s.geometry.buckets → MetUndetached s parties b) same
    (subst (λ (l : List PoolParty). (b : ℕ) → b < was.geometry.buckets → MetUndetached was l b) are found)

pub returns-clause-value : goal.returns-clause-value
returns-clause-value c =
    let all = c.args.self.now in
    let long = ap (λ (p : PoolParties). length p.parties) c.self.view_is in
    let count = c.number_of_parties.ensures.value ∙ ap (λ (p : SharedPool). p.scene.parties) c.deref.ensures
    ∙ ap (λ (p : PoolParties). p.shared.scene.parties) c.self.view_is in
    let each : ¬ (length all.parties < all.shared.scene.parties) =
    λ fewer. absurd (omega (arith, fewer, long, count, c.len.ensures, c.if-len-number_of_parties.false)) in
    let scene = ap (λ (p : SharedPool). p.scene) c.deref-2.ensures
    ∙ ap (λ (p : PoolParties). p.shared.scene) c.self.view_is in
    let parties = ap (λ (p : PoolParties). p.parties) c.self.view_is in
    elim c.if-has_detached.branch [
      | then-has_detached w ↦
          subst (TellsDestroy all) (sym w.result-is) record {
            joined = (λ wrong. absurd (omega (arith, wrong)), λ fewer. absurd (each fewer));
            detached = λ _. found-detached _ all.shared.scene _ all.parties scene parties
                (c.has_detached.ensures.detached w.if-has_detached.true);
            destroyed = λ wrong. absurd (omega (arith, wrong));
            no_other = λ _ not. absurd (not refl);
          }
      | else-has_detached w ↦
          subst (TellsDestroy all) (sym w.result-is) record {
            joined = (λ wrong. absurd (omega (arith, wrong)), λ fewer. absurd (each fewer));
            detached = λ wrong. absurd (omega (arith, wrong));
            destroyed = λ _. found-none _ all.shared.scene _ all.parties scene parties
                (c.has_detached.ensures.none w.if-has_detached.false);
            no_other = λ _ _. refl;
          }
    ]
