-- How many buckets are in use, counted from bucket 0 up.
use Rattle.bb_memory_c.proofs.InUse.{AreListedBelow, flagged-all, listed-next, listed-none}
use Rattle.bb_memory_c.specs.SharedPools.{CountsOut, geometry_of}
use Rattle.bb_memory_index_set.proofs.NumberSets.{has_or_lacks}
use Rattle.bb_memory_index_set.proofs.Tallies.{member_count-fresh, member_count-taken}
use Rattle.bb_memory_index_set.specs.IndexSets.{Lacks, member_count}
use Rattle.bb_memory_lists.proofs.SliceGets.{length-set_at}
use Rattle.bb_memory_shared_pools.specs.SharedPool.{IsParty}
use Rattle.bb_memory_shared_pools.specs.SharedPoolCaching.{CachingParty, IsOut}
use Rattle.std.proofs.Common.{Bool, List, ap, arith, false, inl, inr, length, refl, replicate, set, subst, sym, true, ℕ, ◌+◌, ◌<◌, ◌∙◌, ◌≡◌, ◌≢◌, ◌≤◌}
use Rattle.std.proofs.lemmas.List.{length-replicate}

-- of the first buckets, this many are in use
pub record CountsBelow (joined : CachingParty) (number count : ℕ) : Type 0 where
  pub flags : List Bool
  pub enough : (geometry_of joined).buckets ≤ length flags
  pub listed : AreListedBelow joined number flags
  pub counted : count ≡ member_count flags
  pub few : count ≤ number

pub counts-none : (joined : CachingParty) → CountsBelow joined 0 0
counts-none joined = let buckets = (geometry_of joined).buckets in record {
  flags = replicate buckets false;
  enough = omega (arith, length-replicate buckets false);
  listed = listed-none joined buckets;
  counted = sym (member_count-fresh buckets);
  few = omega arith;
}

-- one bucket more, which is in use or not
module _ (joined : CachingParty) (number count : ℕ) (before : CountsBelow joined number count) where
  pub counts-one : number < (geometry_of joined).buckets → IsOut joined number → CountsBelow joined (number + 1) (count + 1)
  counts-one below out =
      let flags = before.flags in
      let within : number < length flags = omega (arith, below, before.enough) in
      let lacks : Lacks flags number = elim (has_or_lacks flags number within) [
        | inl has ↦ let was = ((before.listed.exact number).0 has).0 in absurd (omega (arith, was))
        | inr lacks ↦ lacks
      ] in record {
        flags = set flags number true;
        enough = omega (arith, before.enough, length-set_at flags number true);
        listed = listed-next joined number true before.listed within (λ _. out, λ _. refl);
        counted = ap (λ (n : ℕ). n + 1) before.counted ∙ sym (member_count-taken flags number lacks);
        few = omega (arith, before.few);
      }

  pub counts-no-more : ¬ IsOut joined number → CountsBelow joined (number + 1) count
  counts-no-more in_pool = record {
    flags = before.flags;
    enough = before.enough;
    listed = record {
      exact = λ bucket. (
        λ has. let was = (before.listed.exact bucket).0 has in let low = was.0 in (omega (arith, low), was.1),
        λ (below, out).
            let apart : bucket ≢ number = λ same. in_pool (subst (IsOut joined) same out) in
            (before.listed.exact bucket).1 (omega (arith, below, apart), out),
      );
    };
    counted = before.counted;
    few = omega (arith, before.few);
  }

-- all of the pool
pub counts-all : (joined : CachingParty) (count : ℕ) → IsParty joined.party →
    CountsBelow joined (geometry_of joined).buckets count → CountsOut joined count
counts-all joined count is all = (all.flags, flagged-all joined is all.listed all.enough, all.counted)
