-- What the parts of a settler's call do.
use Rattle.bb_memory_file.specs.FileCalls.{Gets, IsLifeOf, IsOver, counting, freed_in, has_some, is_tried, moves_message, on_life, recovers, strays, unseen}
use Rattle.bb_memory_file.specs.FileCode.{Event, FileLog, IsWalk, LoadLife, StoreLife, Unknown, known_of}
use Rattle.bb_memory_file.specs.FileNames.{Count, Counting, FileStep, Flags, Settled}
use Rattle.std.specs.Prelude.{Bool, List, None, Option, Some, [], false, if◌then◌else◌, true, ℕ, ◌%◌, ◌+◌, ◌-◌, ◌<◌, ◌^◌, ◌∷◌, ◌≡◌, ◌≢◌, ◌⊎◌}

-- the settler has gone on from one bucket to the next, and says whether it has given the bucket back
pub record IsSettledAt (process : ℕ) (old : FileLog) (bucket : ℕ) (answer : Bool) (new : FileLog) : Type 0 where
  pub events : List Event
  pub gets : Gets old events new
  pub taken : List FileStep
  pub walk : IsWalk process old (Flags old.party bucket) new taken (Flags old.party (bucket + 1))
  pub frees : freed_in events ≡ (if answer then 1 else 0)
  pub recovers_none : has_some recovers taken ≡ false
  pub settles : has_some strays taken ≡ false
  pub moves_none : has_some moves_message events ≡ false
  pub quiet : on_life events ≡ []
  pub unknown : known_of new bucket ≡ Unknown
  pub others : (other : ℕ) → other ≢ bucket → unseen (known_of new other) ≡ unseen (known_of old other)

-- the settler has taken back the bucket, or found that it isn't detached by the party
pub record IsRecover (process : ℕ) (old : FileLog) (bucket : ℕ) (new : FileLog) : Type 0 where
  pub events : List Event
  pub gets : Gets old events new
  pub taken : List FileStep
  pub walk : IsWalk process old (Flags old.party bucket) new taken (Flags old.party bucket)
  pub frees : freed_in events ≡ 0
  pub tried : is_tried old.party bucket events ≡ true
  pub settles : has_some strays taken ≡ false
  pub moves_none : has_some moves_message events ≡ false
  pub quiet : on_life events ≡ []
  pub others : (other : ℕ) → other ≢ bucket → known_of new other ≡ known_of old other

-- the process has found this life, and has counted that it has taken the number's lock; or it found
-- the life to be over
abbrev pub IsCounted : ℕ → FileLog → Option ℕ → FileLog → Type 0
IsCounted process old (Some life) new =
    Gets old (StoreLife (life + 2) ∷ LoadLife life ∷ []) new
    × IsWalk process old (Counting old.party) new (Count process (life + 2) ∷ []) (Flags old.party 0) × (life + 4 < 2 ^ 64)
IsCounted process old None new = IsOver old new

-- the process has counted that it has joined or leaves, if the life didn't say so: it has this parity
-- now, or is as great as it can be
pub record IsCountedOn (process : ℕ) (old : FileLog) (parity : ℕ) (new : FileLog) : Type 0 where
  pub life : ℕ
  pub is_life : IsLifeOf new life
  pub says : (life % 2 ≡ parity) ⊎ (life ≡ 2 ^ 64 - 1)
  pub events : List Event
  pub gets : Gets old events new
  pub frees : freed_in events ≡ 0
  pub taken : List FileStep
  pub walk : IsWalk process old (Settled old.party) new taken (Settled old.party)
  pub recovers_none : has_some recovers taken ≡ false
  pub settles : has_some strays taken ≡ false
  pub moves_none : has_some moves_message events ≡ false
  pub found : ℕ
  pub counts : on_life events ≡ counting parity found
  pub same : (bucket : ℕ) → known_of new bucket ≡ known_of old bucket
