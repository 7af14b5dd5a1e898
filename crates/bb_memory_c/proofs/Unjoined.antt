-- The parties that haven't joined: when a shared pool is made, and with one more party.
use Rattle.bb_memory_c.specs.SharedPools.{AreUnjoined}
use Rattle.bb_memory_shared_pools.specs.SharedPool.{AreFresh, PoolParty, SharedPool}
use Rattle.std.proofs.Common.{List, [], ap, arith, length, subst, sym, ℕ, ◌++◌, ◌<◌, ◌∙◌, ◌∷◌, ◌≡◌, ◌≤◌}
use Rattle.std.proofs.lemmas.List.{length-append}
use Rattle.std.proofs.lemmas.List.Elements.{All-push, All-same}
use Rattle.std.specs.Prelude.{All}

-- fresh parties, which a vector has room for
pub unjoined-fresh : {made pool : SharedPool} {count room : ℕ} {parties : List PoolParty} → AreFresh made count parties →
    pool ≡ made → length parties ≤ room → AreUnjoined pool room parties
unjoined-fresh {made} {pool} {count} {room} {parties} are same fits =
    let so_many : pool.scene.parties ≡ count = ap (λ (p : SharedPool). p.scene.parties) same ∙ are.so_many in
    record {
      at_most = omega (arith, are.as_many);
      room = omega (arith, are.as_many);
      theirs = subst (λ (p : SharedPool). All (λ party. party.allocator ≡ p) parties) (sym same) are.theirs;
    }

-- a party that comes back
pub one-more : {pool : SharedPool} {capacity room : ℕ} → room ≡ capacity → {parties all : List PoolParty} (back : PoolParty) →
    AreUnjoined pool capacity parties → length parties < pool.scene.parties → back.allocator ≡ pool → all ≡ parties ++ back ∷ [] →
    AreUnjoined pool room all
one-more {pool} same {parties} {all} back are out idle is = record {
  at_most = omega (arith, ap length is, length-append parties (back ∷ []));
  room = omega (arith, are.room, same);
  theirs = All-same (λ party. party.allocator ≡ pool) all (parties ++ back ∷ []) is
      (All-push (λ party. party.allocator ≡ pool) parties back are.theirs idle);
}
