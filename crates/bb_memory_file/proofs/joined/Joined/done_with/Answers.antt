use Rattle.bb_memory_file.proofs.FileCaches.{cached_while, in_use_apart, undone_apart}
use Rattle.bb_memory_file.proofs.FileEnds.{keeps_done_with}
use Rattle.bb_memory_file.proofs.FileNotes.{after_done_entered, after_done_in, after_done_nowhere, undone_held, within}
use Rattle.bb_memory_file.proofs.joined.Joined.done_with.Goals as goal
use Rattle.bb_memory_file.specs.FileCalls.whereabouts as whereabouts
use Rattle.bb_memory_file.specs.FileNotes.{HasNoMessage, InUse, Undone}
use Rattle.std.proofs.Common.{Some, inl, inr, refl, rules, ◌≡◌}
use Rattle.std.specs.Prelude.{slice_get}

pub done_with-requires-clause-held : goal.done_with-requires-clause-held
done_with-requires-clause-held g c =
    let there : slice_get c.args.self.now.notes c.args.bucket ≡ Some Undone = cc in
    let was = rw (← c.self.view_is) at there in
    undone_held _ c.self.inside.notes.items c.self.invariant.0 c.args.bucket was

pub index_mut-requires : goal.index_mut-requires
index_mut-requires g c =
    let there : slice_get c.args.self.now.notes c.args.bucket ≡ Some Undone = cc in
    let was = rw (← c.self.view_is) at there in
    within c.self.inside.notes.items c.args.bucket _ _ c.self.inside.notes.ok.0 was

pub invariant_of-self : goal.invariant_of-self
invariant_of-self g c =
    let there : slice_get c.args.self.now.notes c.args.bucket ≡ Some Undone = cc in
    let was = rw (← c.self.view_is) at there in (
      after_done_in _ _ c.self.inside.notes.items c.self.invariant.0 c.args.bucket was c.in-In.ensures.others c.in-In.slot
          c.in-In.lap c.in-In.ensures.done,
      cached_while c.self.inside.notes.items c.self.inside.cached.items c.args.bucket Undone InUse c.self.invariant.1 was
          undone_apart in_use_apart,
      c.self.invariant.2,
      c.self.invariant.3,
      c.self.invariant.4,
      keeps_done_with _ _ _ c.self.inside.ends.items c.args.bucket (whereabouts.In c.in-In.slot c.in-In.lap) c.self.invariant.5
          c.in-In.ensures.done c.in-In.ensures.obeys,
    )

pub invariant_of-self-in-Entered : goal.invariant_of-self-in-Entered
invariant_of-self-in-Entered g c =
    let there : slice_get c.args.self.now.notes c.args.bucket ≡ Some Undone = cc in
    let was = rw (← c.self.view_is) at there in (
      after_done_entered _ _ c.self.inside.notes.items c.self.invariant.0 c.args.bucket was c.in-Entered.ensures.others
          c.in-Entered.ensures.done,
      c.self.invariant.1,
      c.self.invariant.2,
      c.self.invariant.3,
      c.self.invariant.4,
      keeps_done_with _ _ _ c.self.inside.ends.items c.args.bucket whereabouts.Entered c.self.invariant.5
          c.in-Entered.ensures.done c.in-Entered.ensures.obeys,
    )

pub index_mut-requires-in-Nowhere : goal.index_mut-requires-in-Nowhere
index_mut-requires-in-Nowhere g c =
    let there : slice_get c.args.self.now.notes c.args.bucket ≡ Some Undone = cc in
    let was = rw (← c.self.view_is) at there in
    within c.self.inside.notes.items c.args.bucket _ _ c.self.inside.notes.ok.0 was

pub invariant_of-self-in-Nowhere : goal.invariant_of-self-in-Nowhere
invariant_of-self-in-Nowhere g c =
    let there : slice_get c.args.self.now.notes c.args.bucket ≡ Some Undone = cc in
    let was = rw (← c.self.view_is) at there in (
      after_done_nowhere _ _ c.self.inside.notes.items c.self.invariant.0 c.args.bucket was c.in-Nowhere.ensures.others
          c.in-Nowhere.ensures.done,
      cached_while c.self.inside.notes.items c.self.inside.cached.items c.args.bucket Undone InUse c.self.invariant.1 was
          undone_apart in_use_apart,
      c.self.invariant.2,
      c.self.invariant.3,
      c.self.invariant.4,
      keeps_done_with _ _ _ c.self.inside.ends.items c.args.bucket whereabouts.Nowhere c.self.invariant.5
          c.in-Nowhere.ensures.done c.in-Nowhere.ensures.obeys,
    )

pub returns-in-In : goal.returns-in-In
returns-in-In g c =
    let there : slice_get c.args.self.now.notes c.args.bucket ≡ Some Undone = cc in
    let was = rw (← c.self.view_is) at there in
    rw (← c.self.view_is) (was, (c.in-In.lap, (c.in-In.ensures.done, refl)))

pub returns-in-Entered : goal.returns-in-Entered
returns-in-Entered g c =
    let there : slice_get c.args.self.now.notes c.args.bucket ≡ Some Undone = cc in
    let was = rw (← c.self.view_is) at there in
    rw (← c.self.view_is) (was, inl (c.in-Entered.ensures.done, refl))

pub returns-in-Nowhere : goal.returns-in-Nowhere
returns-in-Nowhere g c =
    let there : slice_get c.args.self.now.notes c.args.bucket ≡ Some Undone = cc in
    let was = rw (← c.self.view_is) at there in
    rw (← c.self.view_is) (was, inr (c.in-Nowhere.ensures.done, refl))

pub returns-in_default : goal.returns-in_default
returns-in_default g c =
    let none : HasNoMessage (slice_get c.args.self.now.notes c.args.bucket) = search rules in (none, refl)
