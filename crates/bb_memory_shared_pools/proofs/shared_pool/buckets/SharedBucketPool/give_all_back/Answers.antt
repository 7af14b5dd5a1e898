use Rattle.bb_memory_pool_machine.specs.PoolLogs.{IsHeldAfter}
use Rattle.bb_memory_shared_pools.proofs.SharedPoolLeaving.{all-returned, next-returned, none-returned}
use Rattle.bb_memory_shared_pools.proofs.shared_pool.buckets.SharedBucketPool.give_all_back.Goals.{else-is_held, then-is_held}
use Rattle.bb_memory_shared_pools.proofs.shared_pool.buckets.SharedBucketPool.give_all_back.Goals as goal
use Rattle.bb_memory_shared_pools.specs.SharedPool.{PoolParty, SharedPool, TakenBucket, return_entry, with_entries}
use Rattle.bb_memory_shared_pools.specs.SharedPoolLeaving.{GivesAllBack, return_of, returns_of}
use Rattle.std.proofs.Common.{Bool, [], ap, arith, subst, sym, ℕ, ◌+◌, ◌∙◌, ◌≡◌}
use Rattle.std.proofs.lemmas.Bool.{false≢true}
use Rattle.std.specs.Prelude.{if◌then◌else◌}

-- the return of the bucket of this number, when the party comes to it
next : (initial party : PoolParty) (number : ℕ) → party ≡ with_entries initial (returns_of initial number) →
    with_entries party (return_of party number) ≡ with_entries initial (returns_of initial (number + 1))
next initial party number returned =
    ap (λ (p : PoolParty). with_entries p (return_of p number)) returned ∙ next-returned initial number

pub is_held_by-is_held-requires : goal.is_held_by-is_held-requires
is_held_by-is_held-requires g c = (
  omega arith,
  (
    ap (λ (p : PoolParty). p.allocator) c.loop-number.invariant.returned ∙ c.requires,
    omega (arith, c.number_of_buckets-number-end.ensures.value, c.loop-number-test.true),
  ),
)

pub bucket-bucket-requires : goal.bucket-bucket-requires
bucket-bucket-requires g c = (
  omega arith,
  (
    ap (λ (p : PoolParty). p.allocator) (c.is_held_by-is_held.ensures.unchanged ∙ c.loop-number.invariant.returned) ∙ c.requires,
    (
      subst (λ (p : PoolParty). IsHeldAfter p.log c.loop-number.number) (sym c.is_held_by-is_held.ensures.unchanged)
          (c.is_held_by-is_held.ensures.value.0 c.if-is_held.true),
      omega arith,
    ),
  ),
)

pub loop-number-preserved : goal.loop-number-preserved
loop-number-preserved g c =
    let party = c.loop-number.party in
    let number = c.loop-number.number in
    let then_all = next c.args.party.now party number c.loop-number.invariant.returned in
    let looked = c.is_held_by-is_held.ensures in
    elim c.if-is_held.branch [
      | then-is_held w ↦ record {
        returned = w.party-is ∙ w.deallocate_bucket.ensures.logged
            ∙ ap (λ (b : TakenBucket). with_entries _ (return_entry _ b.number)) w.bucket-bucket.ensures.value
            ∙ ap (λ (p : PoolParty). with_entries p (return_entry p.number number)) looked.unchanged
            ∙ ap (λ (held : Bool). with_entries party (if held then return_entry party.number number else []))
            (sym (looked.value.0 w.if-is_held.true))
            ∙ then_all;
      }
      | else-is_held w ↦ record {
        returned = w.party-is ∙ looked.unchanged
            ∙ none-returned party number (λ held. false≢true (sym w.if-is_held.false ∙ looked.value.1 held))
            ∙ then_all;
      }
    ]

pub returns : goal.returns
returns g c =
    let initial = c.args.party.now in
    let end : c.loop-number.number ≡ c.number_of_buckets-number-end.result =
    omega (arith, c.loop-number.auto.number-end, c.loop-number-test.false) in
    let buckets = end ∙ c.number_of_buckets-number-end.ensures.value
    ∙ ap (λ (p : SharedPool). p.scene.geometry.buckets) (sym c.requires) in
    subst (GivesAllBack initial)
    (sym (c.loop-number.invariant.returned ∙ ap (λ (n : ℕ). with_entries initial (returns_of initial n)) buckets))
    (all-returned initial c.number.ensures.party)
