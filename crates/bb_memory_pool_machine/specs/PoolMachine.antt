-- The pool machine: what any number of parties do to one flag for each bucket, one atomic step at a
-- time. Parties and buckets are numbered from 0.
pub use Rattle.bb_memory_pool_machine.specs.declared.steps.pool.Flag.{Flag}
pub use Rattle.bb_memory_pool_machine.specs.declared.steps.pool.Flag.TheVariants.{DetachedBy, Free, HeldBy}
pub use Rattle.bb_memory_pool_machine.specs.declared.steps.pool.PoolOutcome.{PoolOutcome}
pub use Rattle.bb_memory_pool_machine.specs.declared.steps.pool.PoolOutcome.TheVariants.{Attaches, Detaches, Gives, Loses, Misses, Passed, RefusedAtLoss, Takes}
pub use Rattle.bb_memory_pool_machine.specs.declared.steps.pool.PoolStep.{PoolStep}
pub use Rattle.bb_memory_pool_machine.specs.declared.steps.pool.PoolStep.TheVariants.{Attach, AttachFrom, Detach, FindToken, GiveBack, GiveBackDetached, Try, TryAt}
use Rattle.bb_memory_traits.specs.PoolObject.{PoolGeometry}
use Rattle.std.specs.Prelude.{List, None, Option, Some, [], if◌then◌else◌, length, nat_lt, replicate, slice_get, slice_set, unwrap_or, ℕ, ◌+◌, ◌<◌, ◌==◌, ◌∷◌, ◌≡◌, ◌⊎◌}

-- STATES

-- The state of a machine: the flag of each bucket, and for each party the bucket that its pass
-- tries next, or None if the party is idle.
pub record PoolState : Type 0 where
  pub flags : List Flag
  pub calls : List (Option ℕ)

-- the scene in which a machine begins: its buckets, and how many parties it has
pub record PoolScene : Type 0 where
  pub geometry : PoolGeometry
  pub parties : ℕ

-- a state with that many buckets and parties, in which all flags are free and all parties idle
abbrev pub all_free : ℕ → ℕ → PoolState
all_free buckets parties = record { flags = replicate buckets Free; calls = replicate parties None }

-- the state in which a machine begins
abbrev pub opening_state : PoolScene → PoolState
opening_state scene = all_free scene.geometry.buckets scene.parties

-- the machine has this bucket, and its flag is this one
abbrev pub IsFlag : PoolState → ℕ → Flag → Type 0
IsFlag state bucket flag = slice_get state.flags bucket ≡ Some flag

-- the party holds the bucket
abbrev pub IsHolder : PoolState → ℕ → ℕ → Type 0
IsHolder state bucket party = IsFlag state bucket (HeldBy party)

-- some party has detached the bucket
abbrev pub IsDetached : PoolState → ℕ → Type 0
IsDetached state bucket = (sender : ℕ) × IsFlag state bucket (DetachedBy sender)

-- the bucket's flag is taken: some party holds the bucket, or the bucket is detached
abbrev pub IsTaken : PoolState → ℕ → Type 0
IsTaken state bucket = ((party : ℕ) × IsHolder state bucket party) ⊎ IsDetached state bucket

-- the flag names no party, or one whose number is below `parties`
abbrev pub NamesMade : ℕ → Flag → Type 0
NamesMade parties Free = Unit {0}
NamesMade parties (HeldBy party) = party < parties
NamesMade parties (DetachedBy party) = party < parties

-- the party that holds a bucket with this flag, or None if nobody does
abbrev pub holder_in : Flag → Option ℕ
holder_in (HeldBy party) = Some party
holder_in _ = None

-- the party that holds a bucket, or None if nobody does or the machine doesn't have the bucket
abbrev pub holder_of : PoolState → ℕ → Option ℕ
holder_of state bucket = holder_in (unwrap_or (slice_get state.flags bucket) Free)

-- the party is in a pass that tries this bucket next
abbrev pub IsInCall : PoolState → ℕ → ℕ → Type 0
IsInCall state party bucket = slice_get state.calls party ≡ Some (Some bucket)

-- STEPS

-- the effect of a step: its outcome, and the state that it leaves
pub record PoolMove : Type 0 where
  pub outcome : PoolOutcome
  pub state : PoolState

-- the move with this outcome that leaves this state
abbrev pub move_of : PoolOutcome → PoolState → PoolMove
move_of outcome state = record { outcome = outcome; state = state }

-- the state in which this bucket's flag is replaced
abbrev pub with_flag : PoolState → ℕ → Flag → PoolState
with_flag state bucket flag = record { flags = slice_set state.flags bucket flag; calls = state.calls }

-- the state in which this party's pass is replaced
abbrev pub with_pass : PoolState → ℕ → Option ℕ → PoolState
with_pass state party pass = record { flags = state.flags; calls = slice_set state.calls party pass }

-- the party takes a free flag, and its pass ends
abbrev pub taking : PoolState → ℕ → ℕ → PoolMove
taking state party bucket = move_of (Takes bucket) (with_pass (with_flag state bucket (HeldBy party)) party None)

-- the party finds a flag taken: its pass moves to the next bucket, or is refused and ends if there
-- is none
abbrev pub loss : PoolState → ℕ → ℕ → PoolMove
loss state party bucket =
    if nat_lt (bucket + 1) (length state.flags) then move_of (Loses bucket) (with_pass state party (Some (bucket + 1)))
    else move_of (RefusedAtLoss bucket) (with_pass state party None)

-- the bucket's flag becomes free
abbrev pub return_of : PoolState → ℕ → PoolMove
return_of state bucket = move_of (Gives bucket) (with_flag state bucket Free)

-- a step that isn't allowed changes nothing
abbrev pub passed : PoolState → PoolMove
passed state = move_of Passed state

-- a party in a pass tries to take a bucket whose flag is `found`
abbrev pub try_flag : PoolState → ℕ → ℕ → Option Flag → PoolMove
try_flag state party bucket (Some Free) = taking state party bucket
try_flag state party bucket (Some _) = loss state party bucket
try_flag state party bucket None = passed state

-- a party tries the next bucket of its pass, or bucket 0 if it is idle
abbrev pub try_next : PoolState → ℕ → Option (Option ℕ) → PoolMove
try_next state party (Some pass) =
    let bucket = unwrap_or pass 0 in
    try_flag state party bucket (slice_get state.flags bucket)
try_next state party None = passed state

-- a party gives back a bucket whose flag is `found`, which it may if it holds the bucket
abbrev pub give_flag : PoolState → ℕ → ℕ → Option Flag → PoolMove
give_flag state party bucket (Some (HeldBy holder)) = if holder == party then return_of state bucket else passed state
give_flag state party bucket _ = passed state

-- a party tries to take one bucket whose flag is `found`: if the flag is taken, the party misses
-- the bucket, and nothing changes
abbrev pub try_one : PoolState → ℕ → ℕ → Option Flag → PoolMove
try_one state party bucket (Some Free) = taking state party bucket
try_one state party bucket (Some _) = move_of (Misses bucket) state
try_one state party bucket None = passed state

-- a party tries to take one bucket, which it may if it is idle
abbrev pub try_at : PoolState → ℕ → ℕ → Option (Option ℕ) → PoolMove
try_at state party bucket (Some None) = try_one state party bucket (slice_get state.flags bucket)
try_at state party bucket _ = passed state

-- the holder detaches the bucket, whose flag stays taken
abbrev pub detaching : PoolState → ℕ → ℕ → PoolMove
detaching state party bucket = move_of (Detaches bucket) (with_flag state bucket (DetachedBy party))

-- the holder detaches the bucket if there is another party, which can attach it
abbrev pub detach : PoolState → ℕ → ℕ → PoolMove
detach state party bucket = if nat_lt 1 (length state.calls) then detaching state party bucket else passed state

-- a party detaches a bucket whose flag is `found`, which it may if it holds the bucket
abbrev pub detach_flag : PoolState → ℕ → ℕ → Option Flag → PoolMove
detach_flag state party bucket (Some (HeldBy holder)) = if holder == party then detach state party bucket else passed state
detach_flag state party bucket _ = passed state

-- the party attaches a detached bucket, and then holds it
abbrev pub attaching : PoolState → ℕ → ℕ → PoolMove
attaching state party bucket = move_of (Attaches bucket) (with_flag state bucket (HeldBy party))

-- a party attaches a bucket whose flag is `found`, which it may if the bucket is detached
abbrev pub attach_flag : PoolState → ℕ → ℕ → Option Flag → PoolMove
attach_flag state party bucket (Some (DetachedBy sender)) = attaching state party bucket
attach_flag state party bucket _ = passed state

-- a party attaches a bucket, which it may if it is idle
abbrev pub attach : PoolState → ℕ → ℕ → Option (Option ℕ) → PoolMove
attach state party bucket (Some None) = attach_flag state party bucket (slice_get state.flags bucket)
attach state party bucket _ = passed state

-- a party tries to attach a bucket whose flag is `found`: if the party `from` hasn't detached the
-- bucket, the party misses the bucket, and nothing changes
abbrev pub attach_from_flag : PoolState → ℕ → ℕ → ℕ → Option Flag → PoolMove
attach_from_flag state party bucket from (Some (DetachedBy sender)) =
    if sender == from then attaching state party bucket else move_of (Misses bucket) state
attach_from_flag state party bucket from (Some _) = move_of (Misses bucket) state
attach_from_flag state party bucket from None = passed state

-- a party tries to attach a bucket from the party `from`, which it may if it is idle
abbrev pub attach_from : PoolState → ℕ → ℕ → ℕ → Option (Option ℕ) → PoolMove
attach_from state party bucket from (Some None) = attach_from_flag state party bucket from (slice_get state.flags bucket)
attach_from state party bucket from _ = passed state

-- a party finds a token of a bucket whose flag is `found`, which it may if the party `from` has
-- detached the bucket: the party misses the bucket, and nothing changes
abbrev pub find_token_flag : PoolState → ℕ → ℕ → Option Flag → PoolMove
find_token_flag state bucket from (Some (DetachedBy sender)) =
    if sender == from then move_of (Misses bucket) state else passed state
find_token_flag state bucket from _ = passed state

-- a party finds a token of a bucket that the party `from` has detached, which it may if it is idle
abbrev pub find_token : PoolState → ℕ → ℕ → Option (Option ℕ) → PoolMove
find_token state bucket from (Some None) = find_token_flag state bucket from (slice_get state.flags bucket)
find_token state bucket from _ = passed state

-- a party gives back a bucket whose flag is `found`, which it may if the bucket is detached
abbrev pub give_detached_flag : PoolState → ℕ → Option Flag → PoolMove
give_detached_flag state bucket (Some (DetachedBy sender)) = return_of state bucket
give_detached_flag state bucket _ = passed state

-- a party gives back a detached bucket, which it may if it is idle
abbrev pub give_detached : PoolState → ℕ → Option (Option ℕ) → PoolMove
give_detached state bucket (Some None) = give_detached_flag state bucket (slice_get state.flags bucket)
give_detached state bucket _ = passed state

-- the move of a step in this state
abbrev pub pool_step : PoolState → PoolStep → PoolMove
pool_step state (Try party) = try_next state party (slice_get state.calls party)
pool_step state (GiveBack party bucket) = give_flag state party bucket (slice_get state.flags bucket)
pool_step state (TryAt party bucket) = try_at state party bucket (slice_get state.calls party)
pool_step state (Detach party bucket) = detach_flag state party bucket (slice_get state.flags bucket)
pool_step state (Attach party bucket) = attach state party bucket (slice_get state.calls party)
pool_step state (AttachFrom party bucket from) = attach_from state party bucket from (slice_get state.calls party)
pool_step state (FindToken party bucket from) = find_token state bucket from (slice_get state.calls party)
pool_step state (GiveBackDetached party bucket) = give_detached state bucket (slice_get state.calls party)

-- the state after these steps
abbrev pub pool_after : PoolState → List PoolStep → PoolState
pool_after state [] = state
pool_after state (step ∷ steps) = pool_after (pool_step state step).state steps

-- the state after these steps from the opening
abbrev pub left_by : PoolScene → List PoolStep → PoolState
left_by scene steps = pool_after (opening_state scene) steps
