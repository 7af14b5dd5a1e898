-- A settler that keeps stepping is done after some steps.
use Rattle.bb_memory_file_machine.specs.FileLaws.{CanSettle, IsEntry, IsPlace, IsSettling, settled_by}
use Rattle.bb_memory_file_machine.specs.FileMachine.{Entry, FileMove, FileScene, FileState, FileStep, Flags, Free, HeldBy, In, Moves, Next, Nowhere, Place, SentTo, Settled, change_at, change_by, clearing, file_after, giving_back, is_flag, lap_of, left_by, move_of, next, sending, settle_at, settle_entry, settle_flag}
use Rattle.bb_memory_lists.proofs.SliceGets.{length-set_at, slice_get-set_same}
use Rattle.std.proofs.Common.{List, None, Option, Some, ap, arith, length, refl, replicate, subst, suc, sym, zero, ℕ, ◌+◌, ◌∙◌, ◌≡◌, ◌≤◌}
use Rattle.std.proofs.lemmas.Bool.{cond_both, ltb-true}
use Rattle.std.proofs.lemmas.Option.{same_Some}
use Rattle.std.specs.Prelude.{nat_lt, slice_get}

-- the state after this move of the process
abbrev moved : FileState → ℕ → FileMove → FileState
moved state process move = (change_by state process move).state

-- the process is there after its move
there_after : (state : FileState) (process : ℕ) (place : Place) (move : FileMove) → IsPlace state process place →
    IsPlace (moved state process move) process move.place
there_after state process place move is = slice_get-set_same state.places process move.place place is

-- a process that can settle after its next step can do so before it
goes_on : (state : FileState) (process party : ℕ) (place : Place) → IsPlace state process place →
    CanSettle (moved state process (next state.words place)) process party → CanSettle state process party
goes_on state process party place is (steps, done) = (
  suc steps,
  subst (λ (found : Option Place).
      IsPlace (file_after (change_at state (Next process) found).state (replicate steps (Next process))) process (Settled party))
      (sym is) done,
)

-- FLAGS

module _ (process party : ℕ) where
  done_with_flags : (state : FileState) → IsPlace state process (Settled party) → CanSettle state process party
  done_with_flags state is = (0, is)

  -- the process can settle from the bucket after this one
  abbrev GoesPast : FileState → ℕ → Type 0
  GoesPast state bucket = (later : FileState) → length later.words.flags ≡ length state.words.flags →
      IsPlace later process (Flags party (bucket + 1)) → CanSettle later process party

  -- the move by which a settler passes a bucket
  abbrev passing : FileState → ℕ → FileMove
  passing state bucket = move_of Moves state.words (Flags party (bucket + 1))

  -- the move by which a settler ends
  abbrev ending : FileState → FileMove
  ending state = move_of Moves state.words (Settled party)

  from_given : (state : FileState) (bucket : ℕ) → IsPlace state process (Flags party bucket) → GoesPast state bucket →
      CanSettle (moved state process (giving_back state.words party bucket (Flags party (bucket + 1)))) process party
  from_given state bucket is past =
      let move : FileMove = giving_back state.words party bucket (Flags party (bucket + 1)) in
      past (moved state process move) (length-set_at state.words.flags bucket Free)
      (there_after state process (Flags party bucket) move is)

  -- from a bucket that can be settled if the number holds it
  from_bucket : (state : FileState) (bucket : ℕ) → IsPlace state process (Flags party bucket) → GoesPast state bucket →
      CanSettle (moved state process (settle_entry state.words party bucket (slice_get state.words.entries bucket))) process party →
      CanSettle state process party
  from_bucket state bucket is past held =
      let here : Place = Flags party bucket in
      goes_on state process party here is
      (cond_both (nat_lt bucket (length state.words.flags)) (settle_flag state.words party bucket) (ending state)
      (λ move. CanSettle (moved state process move) process party)
      (λ below. cond_both (is_flag state.words bucket (HeldBy party))
      (settle_entry state.words party bucket (slice_get state.words.entries bucket)) (passing state bucket)
      (λ move. CanSettle (moved state process move) process party)
      (λ e. held)
      (λ e. past (moved state process (passing state bucket)) refl (there_after state process here (passing state bucket) is)))
      (λ e. done_with_flags (moved state process (ending state)) (there_after state process here (ending state) is)))

  -- from a bucket whose entry says that it is in no slot
  from_nowhere : (state : FileState) (bucket : ℕ) → IsPlace state process (Flags party bucket) →
      IsEntry state.words bucket Nowhere → GoesPast state bucket → CanSettle state process party
  from_nowhere state bucket is nowhere past = from_bucket state bucket is past
      (subst (λ (found : Option Entry).
      CanSettle (moved state process (settle_entry state.words party bucket found)) process party) (sym nowhere)
      (from_given state bucket is past))

  from_lap : (state : FileState) (bucket slot size : ℕ) (found : Option ℕ) → IsPlace state process (Flags party bucket) →
      IsEntry state.words bucket (In slot size) → GoesPast state bucket →
      CanSettle (moved state process (settle_at state.words party bucket slot found)) process party
  from_lap state bucket slot size (Some lap) is entry past =
      let move : FileMove = sending state.words party bucket slot lap (Flags party (bucket + 1)) in
      past (moved state process move) (length-set_at state.words.flags bucket (SentTo slot lap))
      (there_after state process (Flags party bucket) move is)
  from_lap state bucket slot size None is entry past =
      let move : FileMove = clearing state.words bucket (Flags party bucket) in
      from_nowhere (moved state process move) bucket (there_after state process (Flags party bucket) move is)
      (slice_get-set_same state.words.entries bucket Nowhere (In slot size) entry) past

  from_entry : (state : FileState) (bucket : ℕ) (found : Option Entry) → slice_get state.words.entries bucket ≡ found →
      IsPlace state process (Flags party bucket) → GoesPast state bucket →
      CanSettle (moved state process (settle_entry state.words party bucket found)) process party
  from_entry state bucket None entry is past = from_given state bucket is past
  from_entry state bucket (Some Nowhere) entry is past = from_given state bucket is past
  from_entry state bucket (Some (In slot size)) entry is past =
      from_lap state bucket slot size (lap_of state.words slot bucket) is entry past

  from_flags : (left : ℕ) (state : FileState) (bucket : ℕ) → IsPlace state process (Flags party bucket) →
      length state.words.flags ≤ bucket + left → CanSettle state process party
  from_flags zero state bucket is end =
      goes_on state process party (Flags party bucket) is
      (cond_both (nat_lt bucket (length state.words.flags)) (settle_flag state.words party bucket) (ending state)
      (λ move. CanSettle (moved state process move) process party)
      (λ e. let below = ltb-true bucket (length state.words.flags) e in absurd (omega (arith, below, end)))
      (λ e. done_with_flags (moved state process (ending state))
      (there_after state process (Flags party bucket) (ending state) is)))
  from_flags (suc left) state bucket is end =
      let past : GoesPast state bucket =
      λ later same there. from_flags left later (bucket + 1) there (omega (arith, same, end)) in
      from_bucket state bucket is past (from_entry state bucket (slice_get state.words.entries bucket) refl is past)

-- a settler that has come so far is done after some steps of its own
settles_at : (state : FileState) (process party : ℕ) (place : Place) → IsPlace state process place →
    settled_by place ≡ Some party → CanSettle state process party
settles_at state process party (Flags number bucket) is e =
    let same = same_Some number party e in
    from_flags process party (length state.words.flags) state bucket
    (is ∙ ap (λ (k : ℕ). Some (Flags k bucket)) same) (omega arith)
settles_at state process party (Settled number) is e =
    let same = same_Some number party e in
    done_with_flags process party state (is ∙ ap (λ (k : ℕ). Some (Settled k)) same)
settles_at state process party place is e = absurd (cc)

pub can_settle : (scene : FileScene) (steps : List FileStep) (process party : ℕ) →
    IsSettling (left_by scene steps) process party → CanSettle (left_by scene steps) process party
can_settle scene steps process party (place, is, settles) = settles_at (left_by scene steps) process party place is settles
