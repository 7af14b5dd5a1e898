use Rattle.bb_memory_file.proofs.FileCaches.{cached_while, in_use_apart, undone_apart, unheld_apart}
use Rattle.bb_memory_file.proofs.FileEnds.{keeps_still, put_back_still}
use Rattle.bb_memory_file.proofs.FileNotes.{after_entered, after_nowhere, after_put_back, undone_held, within}
use Rattle.bb_memory_file.proofs.joined.Joined.put_back.Goals as goal
use Rattle.bb_memory_file.specs.FileCalls.whereabouts as whereabouts
use Rattle.bb_memory_file.specs.FileNotes.{InUse, Undone, Unheld}
use Rattle.std.proofs.Common.{inl, inr, refl}

pub put_back-requires-clause-held : goal.put_back-requires-clause-held
put_back-requires-clause-held g c =
    undone_held _ c.self.inside.notes.items c.self.invariant.0 c.args.bucket (rw (← c.self.view_is) at c.requires)

pub index_mut-requires : goal.index_mut-requires
index_mut-requires g c =
    within c.self.inside.notes.items c.args.bucket _ _ c.self.inside.notes.ok.0 (rw (← c.self.view_is) at c.requires)

pub invariant_of-self : goal.invariant_of-self
invariant_of-self g c = (
  after_put_back _ _ c.self.inside.notes.items c.self.invariant.0 c.args.bucket c.in-In.slot c.in-In.lap
      (rw (← c.self.view_is) at c.requires) c.in-In.ensures,
  cached_while c.self.inside.notes.items c.self.inside.cached.items c.args.bucket Undone Unheld c.self.invariant.1
      (rw (← c.self.view_is) at c.requires) undone_apart unheld_apart,
  c.self.invariant.2,
  c.self.invariant.3,
  c.self.invariant.4,
  keeps_still _ _ _ c.self.inside.ends.items c.self.invariant.5 (put_back_still _ _ c.args.bucket (whereabouts.In c.in-In.slot c.in-In.lap) c.in-In.ensures),
)

pub invariant_of-self-in-Entered : goal.invariant_of-self-in-Entered
invariant_of-self-in-Entered g c = (
  after_entered _ _ c.self.inside.notes.items c.self.invariant.0 c.args.bucket (rw (← c.self.view_is) at c.requires)
      c.in-Entered.ensures,
  c.self.invariant.1,
  c.self.invariant.2,
  c.self.invariant.3,
  c.self.invariant.4,
  keeps_still _ _ _ c.self.inside.ends.items c.self.invariant.5 (put_back_still _ _ c.args.bucket whereabouts.Entered c.in-Entered.ensures),
)

pub index_mut-requires-in-Nowhere : goal.index_mut-requires-in-Nowhere
index_mut-requires-in-Nowhere g c =
    within c.self.inside.notes.items c.args.bucket _ _ c.self.inside.notes.ok.0 (rw (← c.self.view_is) at c.requires)

pub invariant_of-self-in-Nowhere : goal.invariant_of-self-in-Nowhere
invariant_of-self-in-Nowhere g c = (
  after_nowhere _ _ c.self.inside.notes.items c.self.invariant.0 c.args.bucket (rw (← c.self.view_is) at c.requires)
      c.in-Nowhere.ensures,
  cached_while c.self.inside.notes.items c.self.inside.cached.items c.args.bucket Undone InUse c.self.invariant.1
      (rw (← c.self.view_is) at c.requires) undone_apart in_use_apart,
  c.self.invariant.2,
  c.self.invariant.3,
  c.self.invariant.4,
  keeps_still _ _ _ c.self.inside.ends.items c.self.invariant.5 (put_back_still _ _ c.args.bucket whereabouts.Nowhere c.in-Nowhere.ensures),
)

pub returns-in-In : goal.returns-in-In
returns-in-In g c = rw (← c.self.view_is) (
  (rw (← c.self.view_is) at c.requires),
  (c.in-In.lap, (c.in-In.ensures, refl)),
)

pub returns-in-Entered : goal.returns-in-Entered
returns-in-Entered g c =
    let was = rw (← c.self.view_is) at c.requires in
    rw (← c.self.view_is) (rw was tt, inr (was, inl (c.in-Entered.ensures, refl)))

pub returns-in-Nowhere : goal.returns-in-Nowhere
returns-in-Nowhere g c =
    let was = rw (← c.self.view_is) at c.requires in
    rw (← c.self.view_is) (rw was tt, inr (was, inr (c.in-Nowhere.ensures, refl)))
