-- Next fit: requests of a shared pool's party that probe each bucket from the party's hint on, what they add to the party's
-- log, and which answers they may have.
use Rattle.bb_memory_pool_machine.specs.PoolHints.{first_hint, hint_after}
use Rattle.bb_memory_pool_machine.specs.PoolLogs.{IsHeldAfter, IsHeldInRun, MissesAt, PoolLog, entries_by, entry_of, history_of}
use Rattle.bb_memory_pool_machine.specs.PoolMachine.{PoolScene}
use Rattle.bb_memory_pool_machine.specs.declared.hint.Hint.{Hint}
use Rattle.bb_memory_pool_machine.specs.declared.steps.pool.PoolOutcome.{PoolOutcome}
use Rattle.bb_memory_pool_machine.specs.declared.steps.pool.PoolOutcome.TheVariants.{Gives, Misses, Takes}
use Rattle.bb_memory_pool_machine.specs.declared.steps.pool.PoolStep.TheVariants.{TryAt}
use Rattle.bb_memory_shared_pools.specs.SharedPool.{IsParty, MayRefuse, MayTakeBucket, PoolParty, ServesAlone, TakenBucket, detach_entry, taken_bucket, with_entries}
use Rattle.bb_memory_traits.specs.declared.allocator.AllocationError.{AllocationError}
use Rattle.bb_memory_traits.specs.declared.allocator.AllocationError.TheVariants.{OutOfMemory}
use Rattle.bb_memory_traits.specs.declared.layout.Layout.{Layout}
use Rattle.std.specs.Prelude.{Bool, Err, Ok, Result, [], fold, if◌then◌else◌, nat_lt, not, suc, take, zero, ℕ, ◌%◌, ◌&&◌, ◌*◌, ◌++◌, ◌+◌, ◌-◌, ◌/◌, ◌<◌, ◌==◌, ◌||◌, ◌∷◌, ◌≡◌}

-- WHERE A SEARCH BEGINS

-- the hint of the party of this number with this log
abbrev pub hint_in : PoolScene → ℕ → PoolLog → Hint
hint_in scene number log = fold (λ hint entry. hint_after hint entry.outcome)
    (first_hint scene.geometry.buckets scene.parties scene.geometry.bucket.size number) log

-- the bucket at which the party's next search begins
abbrev pub hint_of : PoolParty → ℕ
hint_of party = (hint_in party.allocator.scene party.number party.log).bucket

-- ENTRIES OF CALLS

-- a step by which an idle party takes this bucket
abbrev pub taking_at : ℕ → ℕ → PoolLog
taking_at party bucket = entry_of (TryAt party bucket) (Takes bucket) ∷ []

-- a step by which an idle party misses this bucket
abbrev pub miss_at : ℕ → ℕ → PoolLog
miss_at party bucket = entry_of (TryAt party bucket) (Misses bucket) ∷ []

-- where a search over `buckets` buckets begins: at bucket `first`, or at bucket 0 if the pool has no bucket `first`
abbrev pub start_of : ℕ → ℕ → ℕ
start_of buckets first = if nat_lt first buckets then first else 0

-- the bucket that a probe tries; probes count from 0, and bucket 0 follows the last bucket
abbrev pub probed : ℕ → ℕ → ℕ → ℕ
probed buckets first probe = (start_of buckets first + probe) % buckets

-- the party's misses at the first probes of a search
abbrev pub misses : ℕ → ℕ → ℕ → ℕ → PoolLog
misses buckets party first zero = []
misses buckets party first (suc probe) = misses buckets party first probe ++ miss_at party (probed buckets first probe)

-- how many probes a search makes before its later ones: one of bucket `first`, if the pool has that bucket
abbrev pub probes_before : ℕ → ℕ → ℕ
probes_before buckets first = if nat_lt first buckets then 1 else 0

-- a search that takes a bucket at a probe: misses at the probes before, and the taking
abbrev pub taking_search : ℕ → ℕ → ℕ → ℕ → PoolLog
taking_search buckets party first probe = misses buckets party first probe ++ taking_at party (probed buckets first probe)

-- a search that is refused: a miss at each bucket
abbrev pub refused_search : ℕ → ℕ → ℕ → PoolLog
refused_search buckets party first = misses buckets party first buckets

-- ANSWERS TO REQUESTS

-- a search that began at `first` took this bucket at some probe, and the party is then `new`
pub record TakesBySearch (party : PoolParty) (first bucket : ℕ) (new : PoolParty) : Type 0 where
  pub probe : ℕ
  pub before_end : probe < party.allocator.scene.geometry.buckets
  pub there : probed party.allocator.scene.geometry.buckets first probe ≡ bucket
  pub adds : let buckets = party.allocator.scene.geometry.buckets in
      new ≡ with_entries party (taking_search buckets party.number first probe)

-- A party's request may have this answer, and the party is then `new`: a search that began at `first` took some bucket, or missed
-- each of them.
abbrev pub MayTakeFrom : ℕ → PoolParty → Layout → Result TakenBucket AllocationError → PoolParty → Type 0
MayTakeFrom first party layout (Ok bucket) new =
    MayTakeBucket party layout bucket.number × (bucket ≡ taken_bucket party.allocator bucket.number layout.size)
    × TakesBySearch party first bucket.number new
MayTakeFrom first party layout (Err error) new =
    MayRefuse party (refused_search party.allocator.scene.geometry.buckets party.number first) layout error new

-- The first probe of the party's search missed, and the search isn't over: the log has the miss, if the pool has a bucket at the
-- hint. If the party is the pool's only one, it holds that bucket.
pub record BeginsSearch (old new : PoolParty) : Type 0 where
  pub is_party : IsParty old
  pub logged : let buckets = old.allocator.scene.geometry.buckets in
      new ≡ with_entries old (misses buckets old.number (hint_of old) (probes_before buckets (hint_of old)))
  pub held : old.allocator.scene.parties ≡ 1 → (earlier : ℕ) →
      earlier < probes_before old.allocator.scene.geometry.buckets (hint_of old) →
      IsHeldAfter old.log (probed old.allocator.scene.geometry.buckets (hint_of old) earlier)

-- A search took the bucket of this number, whole, and detached it by the same exchange: the party after the taking is `taken`.
pub record TakesToSend (old : PoolParty) (number : ℕ) (new : PoolParty) : Type 0 where
  pub taken : PoolParty
  pub answer : let bucket = old.allocator.scene.geometry.bucket in
      MayTakeFrom (hint_of old) old bucket (Ok (taken_bucket old.allocator number bucket.size)) taken
  pub serves : let bucket = old.allocator.scene.geometry.bucket in
      ServesAlone old.allocator old bucket (Ok (taken_bucket old.allocator number bucket.size)) taken
  pub logged : new ≡ with_entries taken (detach_entry taken.number number)

-- a search for a whole bucket to send missed each bucket
pub record MissesToSend (old new : PoolParty) : Type 0 where
  pub answer : MayTakeFrom (hint_of old) old old.allocator.scene.geometry.bucket (Err OutOfMemory) new
  pub serves : ServesAlone old.allocator old old.allocator.scene.geometry.bucket (Err OutOfMemory) new

-- REFUSED SEARCHES

-- In the party's interleaving a search follows the entries `before`. At some probe of it the party missed the bucket, which was
-- then held in the run.
pub record MissesInSearch (party : PoolParty) (is : IsParty party) (before : PoolLog) (first bucket : ℕ) : Type 0 where
  pub probe : ℕ
  pub step : ℕ
  pub its_probe : let history = history_of party.allocator.scene is.interleaved.steps in
      let buckets = party.allocator.scene.geometry.buckets in
      entries_by party.number (take (step + 1) history) ≡ before ++ misses buckets party.number first (probe + 1)
  pub missed : let history = history_of party.allocator.scene is.interleaved.steps in MissesAt history party.number bucket step
  pub held : IsHeldInRun party.allocator.scene (take step is.interleaved.steps) bucket

-- The search has found each bucket held in the run, each at a step of its own, since a miss is of one bucket.
abbrev pub HasMissedAll : (party : PoolParty) → IsParty party → PoolLog → ℕ → Type 0
HasMissedAll party is before first = (bucket : ℕ)
    → bucket < party.allocator.scene.geometry.buckets → MissesInSearch party is before first bucket
