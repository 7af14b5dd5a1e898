use Rattle.bb_memory_file.proofs.FileCaches.{cached_still_none, in_use_apart}
use Rattle.bb_memory_file.proofs.FileEnds.{begun_still, keeps_still, takes_still}
use Rattle.bb_memory_file.proofs.FileNotes.{after_allocate, after_no_first}
use Rattle.bb_memory_file.proofs.FileSearches.{allocate_takes}
use Rattle.bb_memory_file.proofs.FileTakings.{not_last}
use Rattle.bb_memory_file.proofs.joined.Joined.search_first.Goals as goal
use Rattle.bb_memory_file.specs.FileNotes.{InUse}
use Rattle.std.proofs.Common.{Some, [], ◌≡◌}
use Rattle.std.specs.Prelude.{slice_set}

pub invariant_of-self : goal.invariant_of-self
invariant_of-self g c = (
  after_no_first _ _ c.self.inside.notes.items c.self.invariant.0 c.self.inside.hint.bucket c.if-not-allocate_first.ensures.answer,
  c.self.invariant.1,
  c.self.invariant.2,
  c.self.invariant.3,
  c.self.invariant.4,
  keeps_still _ _ _ c.self.inside.ends.items c.self.invariant.5 (begun_still _ _ c.self.inside.hint.bucket c.if-not-allocate_first.ensures.answer),
)

pub invariant_of-self-2 : goal.invariant_of-self-2
invariant_of-self-2 g c =
    let none : c.self.inside.cached.items ≡ [] = rw (← c.self.view_is) at c.requires in (
      after_allocate _ _ c.self.inside.notes.items c.self.invariant.0 c.self.inside.hint.bucket
          (allocate_takes _ _ c.self.inside.hint.bucket (Some c.self.inside.hint.bucket) c.if-not-allocate_first.ensures.answer),
      cached_still_none c.self.inside.notes.items c.self.inside.cached.items c.self.inside.hint.bucket InUse c.self.invariant.1 none
          in_use_apart,
      c.self.invariant.2,
      c.self.invariant.3,
      c.self.invariant.4,
      keeps_still _ _ _ c.self.inside.ends.items c.self.invariant.5 (takes_still _ _ (Some c.self.inside.hint.bucket) (allocate_takes _ _ c.self.inside.hint.bucket (Some c.self.inside.hint.bucket) c.if-not-allocate_first.ensures.answer)),
    )

pub returns-clause-taken : goal.returns-clause-taken
returns-clause-taken g c =
    let none : c.self.inside.cached.items ≡ [] = rw (← c.self.view_is) at c.requires in
    rw (← c.self.view_is) (record {
      cached = λ before last is. absurd (not_last c.self.inside.cached.items before last none is);
      searched = λ empty. (
        c.if-not-allocate_first.ensures.answer,
        λ i. record {
          words = c.allocate_first.new.words;
          notes = slice_set c.self.inside.notes.items c.self.inside.hint.bucket InUse;
          hint = c.follow_first.ensures i;
          cached = c.self.inside.cached.items;
          most = c.self.inside.most;
          depth = c.self.inside.depth;
          ends = c.self.inside.ends.items;
        },
      );
    })
