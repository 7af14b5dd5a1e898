use Rattle.bb_memory_file.proofs.FileCaches.{cached_less, last_cached, unheld_apart}
use Rattle.bb_memory_file.proofs.FileEnds.{deallocate_still, keeps_still}
use Rattle.bb_memory_file.proofs.FileNotes.{after_deallocate, below_by, cached_clear, within}
use Rattle.bb_memory_file.proofs.joined.Joined.free_last.Goals as goal
use Rattle.bb_memory_file.specs.FileNotes.{Cached, Unheld}
use Rattle.std.proofs.Common.{ap, arith, length}
use Rattle.std.proofs.lemmas.List.{length_push}
use Rattle.std.specs.Prelude.{slice_set}

pub deallocate-requires-clause-below : goal.deallocate-requires-clause-below
deallocate-requires-clause-below g c =
    below_by _ c.self.inside.notes.items c.self.invariant.0 c.in-Some.bucket Cached
    (last_cached c.self.inside.notes.items c.self.inside.cached.items c.pop.new.self.items c.in-Some.bucket c.self.invariant.1
    c.in-Some.ensures.items)

pub deallocate-requires-clause-clear : goal.deallocate-requires-clause-clear
deallocate-requires-clause-clear g c =
    cached_clear _ c.self.inside.notes.items c.self.invariant.0 c.in-Some.bucket
    (last_cached c.self.inside.notes.items c.self.inside.cached.items c.pop.new.self.items c.in-Some.bucket c.self.invariant.1
    c.in-Some.ensures.items)

pub index_mut-requires : goal.index_mut-requires
index_mut-requires g c =
    within c.self.inside.notes.items c.in-Some.bucket _ _ c.self.inside.notes.ok.0
    (last_cached c.self.inside.notes.items c.self.inside.cached.items c.pop.new.self.items c.in-Some.bucket c.self.invariant.1
    c.in-Some.ensures.items)

pub invariant_of-self-2 : goal.invariant_of-self-2
invariant_of-self-2 g c =
    let rest = c.pop.new.self.items in
    let last = c.in-Some.bucket in
    let long = length_push rest last in
    let was = last_cached c.self.inside.notes.items c.self.inside.cached.items rest last c.self.invariant.1
    c.in-Some.ensures.items in (
      after_deallocate _ _ c.self.inside.notes.items c.self.invariant.0 last Cached was c.deallocate.ensures,
      cached_less c.self.inside.notes.items c.self.inside.cached.items rest last Unheld c.self.invariant.1 c.in-Some.ensures.items
          unheld_apart,
      omega (arith, ap length c.in-Some.ensures.items),
      omega arith,
      c.self.invariant.4,
      keeps_still _ _ _ c.self.inside.ends.items c.self.invariant.5 (deallocate_still _ _ last c.deallocate.ensures),
    )

pub returns : goal.returns
returns g c = rw (← c.self.view_is) (
  c.pop.new.self.items,
  c.in-Some.bucket,
  c.in-Some.ensures.items,
  c.deallocate.ensures,
  λ i. record {
    words = c.deallocate.new.words;
    notes = slice_set c.self.inside.notes.items c.in-Some.bucket Unheld;
    hint = c.follow_return.ensures i;
    cached = c.pop.new.self.items;
    most = c.self.inside.most;
    depth = c.self.inside.depth;
    ends = c.self.inside.ends.items;
  },
)
