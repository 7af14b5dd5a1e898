use Rattle.bb_memory_file.proofs.FileCaches.{cached_still_none, in_use_apart}
use Rattle.bb_memory_file.proofs.FileEnds.{keeps_still, takes_still}
use Rattle.bb_memory_file.proofs.FileNotes.{after_allocate, after_no_allocate}
use Rattle.bb_memory_file.proofs.FileTakings.{later_took, none_left}
use Rattle.bb_memory_file.proofs.joined.Joined.allocate_later.Goals as goal
use Rattle.bb_memory_file.specs.FileNotes.{InUse}
use Rattle.std.proofs.Common.{None, Some, [], ◌≡◌}

pub invariant_of-self : goal.invariant_of-self
invariant_of-self g c = (
  after_no_allocate _ _ c.self.inside.notes.items c.self.invariant.0 c.in_default.ensures.takes,
  c.self.invariant.1,
  c.self.invariant.2,
  c.self.invariant.3,
  c.self.invariant.4,
  keeps_still _ _ _ c.self.inside.ends.items c.self.invariant.5 (takes_still _ _ None c.in_default.ensures.takes),
)

pub invariant_of-self-2 : goal.invariant_of-self-2
invariant_of-self-2 g c =
    let misses = rw (← c.self.view_is) at c.requires.1 in
    let none : c.self.inside.cached.items ≡ [] = none_left g.W.Words.log c.requires.0 _ misses in (
      after_allocate _ _ c.self.inside.notes.items c.self.invariant.0 c.in-Some.bucket c.in-Some.ensures.takes,
      cached_still_none c.self.inside.notes.items c.self.inside.cached.items c.in-Some.bucket InUse c.self.invariant.1 none
          in_use_apart,
      c.self.invariant.2,
      c.self.invariant.3,
      c.self.invariant.4,
      keeps_still _ _ _ c.self.inside.ends.items c.self.invariant.5 (takes_still _ _ (Some c.in-Some.bucket) c.in-Some.ensures.takes),
    )

pub returns : goal.returns
returns g c before misses =
    later_took g.W.Words.log before _ (rw (← c.self.view_is) at misses) c.allocate_later.new.words c.follow_taking.new.self
    c.in-Some.bucket c.in-Some.ensures.answer c.follow_taking.ensures
