use Rattle.bb_memory_file_machine.proofs.FileTests.{flag_there, lap_there}
use Rattle.bb_memory_file_machine.proofs.steps.file_steps.file_steps_law.Goals as goal
use Rattle.bb_memory_file_machine.specs.FileLaws.{IsFlag, IsHolder, IsIn}
use Rattle.bb_memory_file_machine.specs.FileMachine.{FileFlag, FileWords, HeldBy, is_flag, lap_of}
use Rattle.std.proofs.Common.{None, Option, Some, eq-eqb, false, le-ltb, length, lt-ltb, refl, true, ℕ, ◌≡◌}
use Rattle.std.proofs.lemmas.Bool.{false_from_ne_true}
use Rattle.std.proofs.lemmas.Option.{slice_get_within}
use Rattle.std.specs.Prelude.{nat_lt, ◌==◌}

itself : (n : ℕ) → (n == n) ≡ true
itself n = eq-eqb n n refl

not_flag : (words : FileWords) (bucket : ℕ) (flag : FileFlag) → ¬ IsFlag words bucket flag → is_flag words bucket flag ≡ false
not_flag words bucket flag not =
    false_from_ne_true (is_flag words bucket flag) (λ is. not (flag_there words bucket flag is))

no_lap_found : (words : FileWords) (slot bucket : ℕ) (found : Option ℕ) → lap_of words slot bucket ≡ found →
    ¬ IsIn words bucket slot → lap_of words slot bucket ≡ None
no_lap_found words slot bucket None e not = e
no_lap_found words slot bucket (Some lap) e not = absurd (not (lap, lap_there words slot bucket lap e))

-- a slot that hasn't the bucket has it at no lap
no_lap : (words : FileWords) (slot bucket : ℕ) → ¬ IsIn words bucket slot → lap_of words slot bucket ≡ None
no_lap words slot bucket not = no_lap_found words slot bucket (lap_of words slot bucket) refl not

-- a settler at a bucket that a party holds hasn't been over all flags
held_below : (words : FileWords) (bucket party : ℕ) → IsHolder words bucket party → nat_lt bucket (length words.flags) ≡ true
held_below words bucket party held =
    lt-ltb bucket (length words.flags) (slice_get_within words.flags bucket (HeldBy party) held)

pub returns : goal.returns
returns c = record {
  locks = λ state process party there free. simp (there, free) refl;
  counts = λ state process party life more there is less. simp (there, is, lt-ltb life more less) refl;
  leaves = λ state process party may. simp (may.place, may.lock, itself) refl;
  allocates = λ state process party bucket may free. simp (may.place, may.lock, free, itself) refl;
  deallocates = λ state process party bucket may held clear. simp (may.place, may.lock, held, clear, itself) refl;
  detaches = λ state process party bucket may held clear. simp (may.place, may.lock, held, clear, itself) refl;
  attaches = λ state process party bucket from may is. simp (may.place, may.lock, is, itself) refl;
  posts = λ state process party slot bucket size may held clear. simp (may.place, may.lock, held, clear, itself) refl;
  post_fills = λ state process party slot bucket lap there empty. simp (there, empty, itself) refl;
  post_sends = λ state process party slot bucket lap there. simp there refl;
  post_gives_up = λ state process party slot bucket there. simp there refl;
  takes = λ state process party slot bucket lap may is. simp (may.place, may.lock, is, itself) refl;
  puts_back = λ state process party slot bucket lap may held has. simp (may.place, may.lock, held, has, itself) refl;
  says_done = λ state process party slot bucket lap next may held has.
      simp (may.place, may.lock, held, has, itself) refl;
  done_clears = λ state process party bucket there. simp there refl;
  settler_sends = λ state process party bucket slot size lap there held entry has.
      simp (there, held, entry, has, held_below state.words bucket party held, itself) refl;
  settler_clears = λ state process party bucket slot size there held entry not.
      simp (there, held, entry, no_lap state.words slot bucket not, held_below state.words bucket party held, itself) refl;
  settler_gives_back = λ state process party bucket there held clear.
      simp (there, held, clear, held_below state.words bucket party held, itself) refl;
  settler_passes_unheld = λ state process party bucket there not below.
      simp (there, not_flag state.words bucket (HeldBy party) not, lt-ltb bucket (length state.words.flags) below) refl;
  settler_ends_flags = λ state process party bucket there end.
      simp (there, le-ltb bucket (length state.words.flags) end) refl;
  settler_recovers = λ state process party bucket there is. simp (there, is, itself) refl;
  settler_counts = λ state process party life more there is less. simp (there, is, lt-ltb life more less) refl;
  settler_joins = λ state process party there. simp there refl;
  settler_unlocks = λ state process party there. simp there refl;
  settler_gives_up = λ state process party there. simp there refl;
  dies = λ state process place there. simp there refl;
  releases = λ state process party there lock. simp (there, lock, itself) refl;
}
