-- Parties of a shared pool that met: two of them, and any number.
use Rattle.bb_memory_pool_machine.specs.PoolLogs.{CommonInterleaving, HasLog, IsHeldAfter, LogsAgree, PoolLog, WasDetached, is_taken}
use Rattle.bb_memory_pool_machine.specs.PoolMachine.{IsDetached, PoolScene, left_by}
use Rattle.bb_memory_pool_machine.specs.declared.steps.pool.Flag.{Flag}
use Rattle.bb_memory_pool_machine.specs.declared.steps.pool.PoolOutcome.{PoolOutcome}
use Rattle.bb_memory_pool_machine.specs.declared.steps.pool.PoolOutcome.TheVariants.{Takes}
use Rattle.bb_memory_pool_machine.specs.declared.steps.pool.PoolStep.{PoolStep}
use Rattle.bb_memory_shared_pools.specs.SharedPool.{PoolParty, SharedPool}
use Rattle.std.specs.Prelude.{All, Any, Bool, Contains, List, Some, length, map, slice_get, true, ℕ, ◌<◌, ◌↔◌, ◌≡◌, ◌≢◌, ◌⊎◌}

-- TWO PARTIES

-- both parties are this pool's
pub record AreBothOf (allocator : SharedPool) (one other : PoolParty) : Type 0 where
  pub a : one.allocator ≡ allocator
  pub b : other.allocator ≡ allocator

-- some interleaving has both parties' logs
abbrev pub AreInterleaved : PoolParty → PoolParty → Type 0
AreInterleaved a b = CommonInterleaving a.allocator.scene a.number a.log b.number b.log

-- ALL PARTIES

-- each number below `count` is the number of one of these parties
abbrev pub HaveAllNumbers : ℕ → List PoolParty → Type 0
HaveAllNumbers count parties = (number : ℕ) → number < count → Contains (map (λ party. party.number) parties) number

-- the bucket is held by one of these parties
abbrev pub IsHeldByOne : List PoolParty → ℕ → Type 0
IsHeldByOne parties bucket = Any (λ party. IsHeldAfter party.log bucket) parties

-- no bucket is held by two of these parties
abbrev pub HoldApart : List PoolParty → Type 0
HoldApart parties = (i j : ℕ) (one other : PoolParty) (bucket : ℕ) → slice_get parties i ≡ Some one
    → slice_get parties j ≡ Some other → i ≢ j → IsHeldAfter one.log bucket → ¬ IsHeldAfter other.log bucket

-- the bucket was detached by one of these parties at some time
abbrev pub WasDetachedByOne : List PoolParty → ℕ → Type 0
WasDetachedByOne parties bucket = Any (λ party. WasDetached party.log bucket) parties

-- the bucket is held by one of these parties, or is detached after these steps
abbrev pub IsHeldOrDetached : PoolScene → List PoolStep → List PoolParty → ℕ → Type 0
IsHeldOrDetached scene steps parties bucket = IsHeldByOne parties bucket ⊎ IsDetached (left_by scene steps) bucket

-- the outcome is the taking of some bucket
abbrev pub IsTaking : PoolOutcome → Type 0
IsTaking (Takes bucket) = Unit {0}
IsTaking _ = ⊥

-- a party with this log has taken a bucket at some time
abbrev pub TookOne : PoolLog → Type 0
TookOne log = Any (λ entry. IsTaking entry.outcome) log

-- some party of these, which is one of the pool's, took a bucket
pub record HasTaker (scene : PoolScene) (parties : List PoolParty) : Type 0 where
  pub taker : PoolParty
  pub number : taker.number < scene.parties
  pub there : Contains parties taker
  pub took : TookOne taker.log

-- There is a log for each of the pool's parties, and the logs agree with flags that are taken or not as `flags` says. The logs of
-- these parties are among them. If these are all parties of the pool, each log is one of theirs, and a flag is taken exactly if
-- one of them holds the bucket, or the bucket is detached.
pub record AgreeWith (scene : PoolScene) (flags : List Bool) (parties : List PoolParty) : Type 0 where
  pub named : List Flag
  pub taken : map is_taken named ≡ flags
  pub logs : List PoolLog
  pub agree : LogsAgree scene named logs
  pub one_a_party : length logs ≡ scene.parties
  pub theirs : All (λ party. HasLog logs party.number party.log) parties
  pub differ : (i j : ℕ) (one other : PoolParty) → slice_get parties i ≡ Some one → slice_get parties j ≡ Some other → i ≢ j →
      one.number ≢ other.number
  pub whole : length parties ≡ scene.parties → HaveAllNumbers scene.parties parties
      × ((bucket : ℕ) → (slice_get flags bucket ≡ Some true) ↔ IsHeldOrDetached scene agree.steps parties bucket)

-- the parties have met: their logs agree with the flags as they were then
abbrev pub HaveMet : PoolScene → List PoolParty → Type 0
HaveMet scene parties = (flags : List Bool) × AgreeWith scene flags parties

-- these parties have met, and the bucket was detached then
abbrev pub MetDetached : PoolScene → List PoolParty → ℕ → Type 0
MetDetached scene parties bucket = (met : HaveMet scene parties) × IsDetached (left_by scene met.1.agree.steps) bucket

-- these parties have met, and the bucket was not detached then
abbrev pub MetUndetached : PoolScene → List PoolParty → ℕ → Type 0
MetUndetached scene parties bucket = (met : HaveMet scene parties) × (¬ IsDetached (left_by scene met.1.agree.steps) bucket)
