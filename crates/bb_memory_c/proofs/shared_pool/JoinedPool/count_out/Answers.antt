use Rattle.bb_memory_c.proofs.Counting.{CountsBelow, counts-all, counts-no-more, counts-none, counts-one}
use Rattle.bb_memory_c.proofs.shared_pool.JoinedPool.count_out.Goals.{else-is_out, then-is_out}
use Rattle.bb_memory_c.proofs.shared_pool.JoinedPool.count_out.Goals as goal
use Rattle.bb_memory_c.specs.SharedPools.{geometry_of}
use Rattle.bb_memory_shared_pools.specs.SharedPool.{SharedPool}
use Rattle.bb_memory_shared_pools.specs.SharedPoolCaching.{CachingParty, IsOut}
use Rattle.std.proofs.Common.{ap, arith, rules, subst, sym, ℕ, ◌+◌, ◌<◌, ◌∙◌, ◌≡◌}
use Rattle.std.proofs.lemmas.Grind.{common_steps}

pub loop-number-init : goal.loop-number-init
loop-number-init c = record { unchanged = search rules; counted = counts-none c.args.self.now }

pub loop-number-preserved : goal.loop-number-preserved
loop-number-preserved c =
    let joined = c.args.self.now in
    let number = c.loop-number.number in
    let same = c.loop-number.invariant.unchanged in
    let counted = c.loop-number.invariant.counted in
    let pool = sym (ap (λ (p : CachingParty). p.party.allocator) c.self.view_is) ∙ c.self.invariant.theirs
    ∙ sym c.deref.ensures in
    let below : number < (geometry_of joined).buckets = omega (
      arith,
      c.loop-number-test.true,
      c.number_of_buckets-number-end.ensures.value,
      ap (λ (p : SharedPool). p.scene.geometry.buckets) (sym pool),
    ) in
    record {
      unchanged = c.is_out-is_out.ensures.unchanged ∙ same;
      counted = elim c.if-is_out.branch [
        | then-is_out w ↦
            let out = subst (λ (j : CachingParty). IsOut j number) same (c.is_out-is_out.ensures.value.0 w.if-is_out.true) in
            subst (CountsBelow joined (number + 1)) (sym w.count-is)
            (counts-one joined number c.loop-number.count counted below out)
        | else-is_out w ↦
            subst (CountsBelow joined (number + 1)) (sym w.count-is)
            (counts-no-more joined number c.loop-number.count counted (λ out.
            let test = c.is_out-is_out.ensures.value.1 (subst (λ (j : CachingParty). IsOut j number) (sym same) out) in
            let unset = w.if-is_out.false in absurd (cc)))
      ];
    }

pub returns-clause-count : goal.returns-clause-count
returns-clause-count c =
    let joined = c.args.self.now in
    let pool = sym (ap (λ (p : CachingParty). p.party.allocator) c.self.view_is) ∙ c.self.invariant.theirs
    ∙ sym c.deref.ensures in
    let end : c.loop-number.number ≡ c.number_of_buckets-number-end.result =
    omega (arith, c.loop-number.auto.number-end, c.loop-number-test.false) in
    let buckets = end ∙ c.number_of_buckets-number-end.ensures.value
    ∙ ap (λ (p : SharedPool). p.scene.geometry.buckets) (sym pool) in
    counts-all joined c.loop-number.count c.invariant.ensures.party
    (subst (λ (n : ℕ). CountsBelow joined n c.loop-number.count) buckets c.loop-number.invariant.counted)

pub overflow_add-count : goal.overflow_add-count
overflow_add-count c = grind (arith, common_steps)
