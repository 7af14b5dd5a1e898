-- Steps of the machine that an event makes, whatever the words are.
use Rattle.bb_memory_file.specs.FileCode.{EmptySlot, ExchangeFlag, ExchangeSlot, FileLog, Has, HasNot, Holds, IsKnown, IsLifeIf, IsSilent, IsStep, Known, LoadFlag, MayBe, Seen, StoreEntry, StoreFlag, StoreLife, Unknown, known_of, life_by}
use Rattle.bb_memory_file.specs.FileLog.{is_clear}
use Rattle.bb_memory_file.specs.FileNames.{Allocate, AttachNumber, Clearing, Count, Counting, Deallocate, DetachNumber, DetachedBy, Done, Empty, Entry, FileFlag, Fill, Flags, Free, HeldBy, In, Leave, Message, Next, Nowhere, Outside, Post, Posting, PutBack, Recover, Sending, SentTo, Settled, Take}
use Rattle.bb_memory_file_machine.proofs.FileTests as machine
use Rattle.bb_memory_file_machine.specs.FileLaws.{IsFlag, IsIn, IsLife, IsSlot}
use Rattle.bb_memory_file_machine.specs.FileMachine.{FileWords, finds_empty, finds_flag, finds_less, finds_nowhere, finds_own, has_clear, is_flag, lap_in, lap_of, may_call, same_flag}
use Rattle.bb_memory_pool_machine.proofs.PoolSteps.{test_same}
use Rattle.std.proofs.Common.{Bool, None, Option, Some, ap, false, length, refl, subst, sym, true, ℕ, ◌+◌, ◌<◌, ◌∙◌, ◌≡◌, ◌≤◌}
use Rattle.std.proofs.lemmas.Bool.{le-ltb, lt-ltb}
use Rattle.std.specs.Prelude.{nat_lt, slice_get}

-- TESTS

pub flag_itself : (flag : FileFlag) → same_flag flag flag ≡ true
flag_itself Free = refl
flag_itself (HeldBy party) = test_same party party refl
flag_itself (DetachedBy party) = test_same party party refl
flag_itself (SentTo slot lap) = rw (test_same slot slot refl) (test_same lap lap refl)

-- the test of a flag that was found
pub flag_is : (words : FileWords) (bucket : ℕ) (found asked : FileFlag) (same : Bool) → IsFlag words bucket found →
    same_flag found asked ≡ same → is_flag words bucket asked ≡ same
flag_is words bucket found asked same there test = ap (finds_flag asked) there ∙ test

-- the test of the flag that is there
pub flag_there : (words : FileWords) (bucket : ℕ) (flag : FileFlag) → IsFlag words bucket flag → is_flag words bucket flag ≡ true
flag_there words bucket flag there = flag_is words bucket flag flag true there (flag_itself flag)

-- the lap of a slot that has the bucket
pub lap_there : (words : FileWords) (slot bucket lap : ℕ) → IsSlot words slot (Message lap bucket) →
    lap_of words slot bucket ≡ Some lap
lap_there words slot bucket lap there = ap (lap_in bucket) there ∙ rw (test_same bucket bucket refl) refl

module _ (log : FileLog) (process : ℕ) (words : FileWords) (may : MayBe log process words) where
  -- the process may call
  pub own : may_call words process Outside log.party ≡ true
  own = ap (finds_own process) may.lock ∙ test_same process process refl

  -- what the words are of a bucket of which this is known
  pub known_in : (bucket : ℕ) (known : Known) → known_of log bucket ≡ known → IsKnown words log.party bucket known
  known_in bucket known is = rw (sym is) (may.known bucket)

  clear_by : (bucket : ℕ) (known : Known) → IsKnown words log.party bucket known → is_clear known ≡ true →
      has_clear words log.party bucket ≡ true
  clear_by bucket Unknown is clear = absurd (cc)
  clear_by bucket (Holds None seen) is clear = absurd (cc)
  clear_by bucket (Holds (Some (In slot size)) seen) is clear = absurd (cc)
  clear_by bucket (Holds (Some Nowhere) seen) is clear =
      rw (flag_there words bucket (HeldBy log.party) is.0) (ap finds_nowhere is.1)

  -- the test of a bucket that the party holds, and whose entry says that it is in no slot
  pub clear_in : (bucket : ℕ) → is_clear (known_of log bucket) ≡ true → has_clear words log.party bucket ≡ true
  clear_in bucket clear = clear_by bucket (known_of log bucket) (may.known bucket) clear

-- CALLS

pub allocates : (log : FileLog) (process bucket : ℕ) →
    IsStep log process Outside (ExchangeFlag bucket Free (HeldBy log.party)) (Allocate process log.party bucket) Outside
allocates log process bucket words may found =
    rw (own log process words may, flag_there words bucket Free found)
    (record { allowed = λ e. absurd (cc); words = refl; place = refl })

pub deallocates : (log : FileLog) (process bucket : ℕ) → is_clear (known_of log bucket) ≡ true →
    IsStep log process Outside (StoreFlag bucket Free) (Deallocate process log.party bucket) Outside
deallocates log process bucket clear words may found =
    rw (own log process words may, clear_in log process words may bucket clear)
    (record { allowed = λ e. absurd (cc); words = refl; place = refl })

pub detaches : (log : FileLog) (process bucket : ℕ) → is_clear (known_of log bucket) ≡ true →
    IsStep log process Outside (StoreFlag bucket (DetachedBy log.party)) (DetachNumber process log.party bucket) Outside
detaches log process bucket clear words may found =
    rw (own log process words may, clear_in log process words may bucket clear)
    (record { allowed = λ e. absurd (cc); words = refl; place = refl })

pub attaches : (log : FileLog) (process bucket from : ℕ) →
    IsStep log process Outside (ExchangeFlag bucket (DetachedBy from) (HeldBy log.party))
    (AttachNumber process log.party bucket from) Outside
attaches log process bucket from words may found =
    rw (own log process words may, flag_there words bucket (DetachedBy from) found)
    (record { allowed = λ e. absurd (cc); words = refl; place = refl })

-- MESSAGES

pub posts : (log : FileLog) (process slot bucket size : ℕ) → is_clear (known_of log bucket) ≡ true →
    IsStep log process Outside (StoreEntry bucket (In slot size)) (Post process log.party slot bucket size)
    (Posting log.party slot bucket)
posts log process slot bucket size clear words may found =
    rw (own log process words may, clear_in log process words may bucket clear)
    (record { allowed = λ e. absurd (cc); words = refl; place = refl })

pub fills : (log : FileLog) (process slot bucket lap : ℕ) →
    IsStep log process (Posting log.party slot bucket) (ExchangeSlot slot (Empty lap) (Message lap bucket)) (Fill process lap)
    (Sending log.party slot bucket lap)
fills log process slot bucket lap words may found =
    rw (ap (finds_empty lap) found ∙ test_same lap lap refl) (record { allowed = λ e. absurd (cc); words = refl; place = refl })

pub gives_up : (log : FileLog) (process slot bucket : ℕ) →
    IsStep log process (Posting log.party slot bucket) (StoreEntry bucket Nowhere) (Next process) Outside
gives_up log process slot bucket words may found = record { allowed = λ e. absurd (cc); words = refl; place = refl }

pub sends : (log : FileLog) (process slot bucket lap : ℕ) →
    IsStep log process (Sending log.party slot bucket lap) (StoreFlag bucket (SentTo slot lap)) (Next process) Outside
sends log process slot bucket lap words may found = record { allowed = λ e. absurd (cc); words = refl; place = refl }

pub takes : (log : FileLog) (process slot bucket lap : ℕ) →
    IsStep log process Outside (ExchangeFlag bucket (SentTo slot lap) (HeldBy log.party))
    (Take process log.party slot bucket lap) Outside
takes log process slot bucket lap words may found =
    rw (own log process words may, flag_there words bucket (SentTo slot lap) found)
    (record { allowed = λ e. absurd (cc); words = refl; place = refl })

-- the party holds a bucket that a slot has
module _ (log : FileLog) (process slot bucket lap : ℕ) (entry : Option Entry)
    (known : known_of log bucket ≡ Holds entry (Has slot lap)) where
  pub empties : (next : ℕ) →
      IsStep log process Outside (EmptySlot slot next) (Done process log.party slot bucket next) (Clearing log.party bucket)
  empties next words may found =
      let is = known_in log process words may bucket (Holds entry (Has slot lap)) known in
      rw (own log process words may, flag_there words bucket (HeldBy log.party) is.0, lap_there words slot bucket lap is.2)
      (record { allowed = λ e. absurd (cc); words = refl; place = refl })

  pub puts_back :
      IsStep log process Outside (StoreFlag bucket (SentTo slot lap)) (PutBack process log.party slot bucket) Outside
  puts_back words may found =
      let is = known_in log process words may bucket (Holds entry (Has slot lap)) known in
      rw (own log process words may, flag_there words bucket (HeldBy log.party) is.0, lap_there words slot bucket lap is.2)
      (record { allowed = λ e. absurd (cc); words = refl; place = refl })

pub clears : (log : FileLog) (process bucket : ℕ) →
    IsStep log process (Clearing log.party bucket) (StoreEntry bucket Nowhere) (Next process) Outside
clears log process bucket words may found = record { allowed = λ e. absurd (cc); words = refl; place = refl }

-- LIVES

module _ (log : FileLog) (process life more : ℕ) (known : life_by log.events ≡ Some life) (less : life < more) where
  life_less : (words : FileWords) → MayBe log process words → finds_less more (slice_get words.lives log.party) ≡ true
  life_less words may =
      let is : IsLife words log.party life = subst (λ l. IsLifeIf words log.party l) known may.life in
      ap (finds_less more) is ∙ lt-ltb life more less

  pub counts : IsStep log process (Counting log.party) (StoreLife more) (Count process more) (Flags log.party 0)
  counts words may found = rw (life_less words may) (record { allowed = λ e. absurd (cc); words = refl; place = refl })

  pub counts_on : IsStep log process (Settled log.party) (StoreLife more) (Count process more) (Settled log.party)
  counts_on words may found = rw (life_less words may) (record { allowed = λ e. absurd (cc); words = refl; place = refl })

-- SETTLERS

pub leaves : (log : FileLog) (process : ℕ) → IsSilent log process Outside (Leave process log.party) (Flags log.party 0)
leaves log process words may = rw (own log process words may) (record { allowed = λ e. absurd (cc); words = refl; place = refl })

pub stays : (log : FileLog) (process : ℕ) → IsSilent log process (Settled log.party) (Next process) Outside
stays log process words may = record { allowed = λ e. absurd (cc); words = refl; place = refl }

pub ends : (log : FileLog) (process bucket : ℕ) → log.scene.buckets ≤ bucket →
    IsSilent log process (Flags log.party bucket) (Next process) (Settled log.party)
ends log process bucket past words may =
    let test : nat_lt bucket (length words.flags) ≡ false = le-ltb bucket (length words.flags) (rw may.buckets past) in
    rw test (record { allowed = λ e. absurd (cc); words = refl; place = refl })

pub recovers : (log : FileLog) (process bucket : ℕ) →
    IsStep log process (Flags log.party bucket) (ExchangeFlag bucket (DetachedBy log.party) (HeldBy log.party))
    (Recover process) (Flags log.party bucket)
recovers log process bucket words may found =
    rw (flag_there words bucket (DetachedBy log.party) found) (record { allowed = λ e. absurd (cc); words = refl; place = refl })

module _ (log : FileLog) (process bucket : ℕ) (below : bucket < log.scene.buckets) where
  in_file : (words : FileWords) → MayBe log process words → nat_lt bucket (length words.flags) ≡ true
  in_file words may = lt-ltb bucket (length words.flags) (rw may.buckets below)

  pub passes : (found : FileFlag) → same_flag found (HeldBy log.party) ≡ false →
      IsStep log process (Flags log.party bucket) (LoadFlag bucket found) (Next process) (Flags log.party (bucket + 1))
  passes found other words may there =
      rw (in_file words may, flag_is words bucket found (HeldBy log.party) false there other)
      (record { allowed = λ e. absurd (cc); words = refl; place = refl })

  pub settles_free : (seen : Seen) → known_of log bucket ≡ Holds (Some Nowhere) seen →
      IsStep log process (Flags log.party bucket) (StoreFlag bucket Free) (Next process) (Flags log.party (bucket + 1))
  settles_free seen known words may found =
      let is = known_in log process words may bucket (Holds (Some Nowhere) seen) known in
      rw (in_file words may, flag_there words bucket (HeldBy log.party) is.0, is.1)
      (record { allowed = λ e. absurd (cc); words = refl; place = refl })

  module _ (slot size : ℕ) where
    pub settles_sent : (lap : ℕ) → known_of log bucket ≡ Holds (Some (In slot size)) (Has slot lap) →
        IsStep log process (Flags log.party bucket) (StoreFlag bucket (SentTo slot lap)) (Next process)
        (Flags log.party (bucket + 1))
    settles_sent lap known words may found =
        let is = known_in log process words may bucket (Holds (Some (In slot size)) (Has slot lap)) known in
        rw (in_file words may, flag_there words bucket (HeldBy log.party) is.0, is.1, lap_there words slot bucket lap is.2)
        (record { allowed = λ e. absurd (cc); words = refl; place = refl })

    -- a slot that doesn't have the bucket has it at no lap
    no_lap : (words : FileWords) (lap : Option ℕ) → lap_of words slot bucket ≡ lap → ¬ IsIn words bucket slot → lap ≡ None
    no_lap words None is apart = refl
    no_lap words (Some lap) is apart = absurd (apart (lap, machine.lap_there words slot bucket lap is))

    pub settles_clear : known_of log bucket ≡ Holds (Some (In slot size)) (HasNot slot) →
        IsStep log process (Flags log.party bucket) (StoreEntry bucket Nowhere) (Next process) (Flags log.party bucket)
    settles_clear known words may found =
        let is = known_in log process words may bucket (Holds (Some (In slot size)) (HasNot slot)) known in
        rw (
          in_file words may,
          flag_there words bucket (HeldBy log.party) is.0,
          is.1,
          no_lap words (lap_of words slot bucket) refl is.2,
        ) (record { allowed = λ e. absurd (cc); words = refl; place = refl })
