use Rattle.bb_memory_file.proofs.FileCaches.{cached_while, in_use_apart, unheld_apart}
use Rattle.bb_memory_file.proofs.FileEnds.{keeps_no_post, keeps_post}
use Rattle.bb_memory_file.proofs.FileNotes.{after_no_post, after_post, in_use_clear, within}
use Rattle.bb_memory_file.proofs.joined.Joined.post.Goals as goal
use Rattle.bb_memory_file.specs.FileNotes.{InUse, Unheld}
use Rattle.std.proofs.Common.{refl}

pub post-is_posted-requires-clause-clear : goal.post-is_posted-requires-clause-clear
post-is_posted-requires-clause-clear g c =
    in_use_clear _ c.self.inside.notes.items c.self.invariant.0 c.args.bucket
    (rw (← c.self.view_is) at c.in_ok-check.ensures.held)

pub index_mut-requires : goal.index_mut-requires
index_mut-requires g c =
    within c.self.inside.notes.items c.args.bucket _ _ c.self.inside.notes.ok.0
    (rw (← c.self.view_is) at c.in_ok-check.ensures.held)

pub invariant_of-self : goal.invariant_of-self
invariant_of-self g c = (
  after_post _ _ c.self.inside.notes.items c.self.invariant.0 c.args.bucket c.args.slot c.args.length
      (rw (← c.self.view_is) at c.in_ok-check.ensures.held) c.if-is_posted.ensures,
  cached_while c.self.inside.notes.items c.self.inside.cached.items c.args.bucket InUse Unheld c.self.invariant.1
      (rw (← c.self.view_is) at c.in_ok-check.ensures.held) in_use_apart unheld_apart,
  c.self.invariant.2,
  c.self.invariant.3,
  c.self.invariant.4,
  keeps_post _ _ _ c.self.inside.ends.items c.self.invariant.5 c.args.slot c.args.bucket (rw (← c.self.view_is) at c.requires.single) c.args.length c.if-is_posted.ensures,
)

pub invariant_of-self-else-is_posted : goal.invariant_of-self-else-is_posted
invariant_of-self-else-is_posted g c = (
  after_no_post _ _ c.self.inside.notes.items c.self.invariant.0 c.args.bucket c.args.slot c.args.length
      (rw (← c.self.view_is) at c.in_ok-check.ensures.held) c.if-is_posted.ensures,
  c.self.invariant.1,
  c.self.invariant.2,
  c.self.invariant.3,
  c.self.invariant.4,
  keeps_no_post _ _ _ c.self.inside.ends.items c.self.invariant.5 c.args.slot c.args.bucket (rw (← c.self.view_is) at c.requires.single) c.args.length c.if-is_posted.ensures,
)

pub returns-then-is_posted : goal.returns-then-is_posted
returns-then-is_posted g c = rw (c.if-is_posted.true, ← c.self.view_is) (
  (rw (← c.self.view_is) at c.in_ok-check.ensures.held),
  (c.if-is_posted.ensures, refl),
)

pub returns-else-is_posted : goal.returns-else-is_posted
returns-else-is_posted g c = rw (c.if-is_posted.false, ← c.self.view_is) (
  (rw (← c.self.view_is) at c.in_ok-check.ensures.held),
  (c.if-is_posted.ensures, refl),
)
