use Rattle.bb_memory_file.proofs.FileCaches.{cached_while, undone_apart, unheld_apart}
use Rattle.bb_memory_file.proofs.FileEnds.{fits, has_ends, keeps_head, whole}
use Rattle.bb_memory_file.proofs.FileNotes.{after_receipt, received_unheld, unreceived_notes, within}
use Rattle.bb_memory_file.proofs.joined.Joined.receive.Goals as goal
use Rattle.bb_memory_file.specs.FileNotes.{AreNoted, Note, Undone, Unheld}
use Rattle.bb_memory_file.specs.FileQueueCalls.{noted_after}
use Rattle.std.proofs.Common.{List, ap, subst, sym}
use Rattle.std.specs.Prelude.{slice_set}

pub receive-receiver-requires-clause-whole : goal.receive-receiver-requires-clause-whole
receive-receiver-requires-clause-whole g c =
    let below = rw (← c.self.view_is) at c.requires in
    let depth = rw (← c.self.view_is) at c.queue-its.ensures.depth in
    rw (c.queue-its.ensures.number, depth) (whole _ c.self.inside.depth c.self.inside.ends.items c.self.invariant.5 c.args.queue below)

pub receive-receiver-requires-clause-fits : goal.receive-receiver-requires-clause-fits
receive-receiver-requires-clause-fits g c =
    let below = rw (← c.self.view_is) at c.requires in
    let depth = rw (← c.self.view_is) at c.queue-its.ensures.depth in
    rw (c.queue-its.ensures.number, depth) (fits _ c.self.inside.depth c.self.inside.ends.items c.self.invariant.5 c.args.queue below)

pub receive-receiver-requires-clause-head : goal.receive-receiver-requires-clause-head
receive-receiver-requires-clause-head g c =
    let below = rw (← c.self.view_is) at c.requires in
    let depth = rw (← c.self.view_is) at c.queue-its.ensures.depth in
    let was = has_ends _ c.self.inside.depth c.self.inside.ends.items c.self.invariant.5 c.args.queue below c.index-ends.result.now
    c.index-ends.ensures in
    rw (c.queue-its.ensures.number, depth) (c.self.invariant.5.known c.args.queue c.index-ends.result.now was).head

pub index_mut-requires-in-Message : goal.index_mut-requires-in-Message
index_mut-requires-in-Message g c =
    let receives = rw c.deref.ensures.value at c.receive-receiver.ensures.receives in
    let unheld = received_unheld 0 _ _ c.self.inside.notes.items _ c.args.size c.receive-receiver.result.taken c.in-Message.bucket
    c.in-Message.length c.in-Message.is (receives 0) in
    within c.self.inside.notes.items c.in-Message.bucket _ _ c.self.inside.notes.ok.0 unheld

pub invariant_of-self : goal.invariant_of-self
invariant_of-self g c =
    let below = rw (← c.self.view_is) at c.requires in
    let depth = rw (← c.self.view_is) at c.queue-its.ensures.depth in
    let was = has_ends _ c.self.inside.depth c.self.inside.ends.items c.self.invariant.5 c.args.queue below
    c.index_mut.result.now c.index_mut.ensures.value in
    let receives = rw c.deref.ensures.value at c.receive-receiver.ensures.receives in
    let unheld = received_unheld 0 _ _ c.self.inside.notes.items _ c.args.size c.receive-receiver.result.taken c.in-Message.bucket
    c.in-Message.length c.in-Message.is (receives 0) in (
      after_receipt _ _ c.self.inside.notes.items _ _ c.args.size c.receive-receiver.result.taken c.self.invariant.0
          receives
          (subst (λ (notes : List Note). AreNoted (g.W.Words.log c.receive-receiver.new.words) notes) (ap (noted_after c.self.inside.notes.items) c.in-Message.is)
          (rw c.deref.ensures.value at c.receive-receiver.ensures.noted)),
      cached_while c.self.inside.notes.items c.self.inside.cached.items c.in-Message.bucket Unheld Undone c.self.invariant.1
          unheld unheld_apart undone_apart,
      c.self.invariant.2,
      c.self.invariant.3,
      c.self.invariant.4,
      keeps_head _ _ c.self.inside.depth c.self.inside.ends.items c.self.invariant.5 c.args.queue c.index_mut.result.now was
          c.receive-receiver.ensures.grows (rw depth at c.receive-receiver.ensures.obeys) c.receive-receiver.result.head
          (rw (c.queue-its.ensures.number, depth) at c.receive-receiver.ensures.head),
    )

pub invariant_of-self-in_default : goal.invariant_of-self-in_default
invariant_of-self-in_default g c =
    let below = rw (← c.self.view_is) at c.requires in
    let depth = rw (← c.self.view_is) at c.queue-its.ensures.depth in
    let was = has_ends _ c.self.inside.depth c.self.inside.ends.items c.self.invariant.5 c.args.queue below
    c.index_mut.result.now c.index_mut.ensures.value in
    let receives = rw c.deref.ensures.value at c.receive-receiver.ensures.receives in (
      after_receipt _ _ c.self.inside.notes.items _ _ c.args.size c.receive-receiver.result.taken c.self.invariant.0
          receives
          (subst (λ (notes : List Note). AreNoted (g.W.Words.log c.receive-receiver.new.words) notes)
          (unreceived_notes c.self.inside.notes.items c.receive-receiver.result.taken c.in_default.not-Message)
          (rw c.deref.ensures.value at c.receive-receiver.ensures.noted)),
      c.self.invariant.1,
      c.self.invariant.2,
      c.self.invariant.3,
      c.self.invariant.4,
      keeps_head _ _ c.self.inside.depth c.self.inside.ends.items c.self.invariant.5 c.args.queue c.index_mut.result.now was
          c.receive-receiver.ensures.grows (rw depth at c.receive-receiver.ensures.obeys) c.receive-receiver.result.head
          (rw (c.queue-its.ensures.number, depth) at c.receive-receiver.ensures.head),
    )

pub returns-in-Message : goal.returns-in-Message
returns-in-Message g c =
    let below = rw (← c.self.view_is) at c.requires in
    let depth = rw (← c.self.view_is) at c.queue-its.ensures.depth in
    let was = has_ends _ c.self.inside.depth c.self.inside.ends.items c.self.invariant.5 c.args.queue below
    c.index_mut.result.now c.index_mut.ensures.value in
    let noted = ap (noted_after c.self.inside.notes.items) c.in-Message.is in
    rw (← c.self.view_is) (
      (rw (c.deref.ensures.value, c.queue-its.ensures.number, depth) at c.receive-receiver.ensures.receives),
      (
        c.index_mut.result.now,
        c.receive-receiver.result.head,
        was,
        λ i. record {
          words = c.receive-receiver.new.words;
          notes = sym noted i;
          hint = c.self.inside.hint;
          cached = c.self.inside.cached.items;
          most = c.self.inside.most;
          depth = c.self.inside.depth;
          ends = slice_set c.self.inside.ends.items c.args.queue
              (record c.index_mut.result.now { head = c.receive-receiver.result.head });
        },
      ),
    )

pub returns-in_default : goal.returns-in_default
returns-in_default g c =
    let below = rw (← c.self.view_is) at c.requires in
    let depth = rw (← c.self.view_is) at c.queue-its.ensures.depth in
    let was = has_ends _ c.self.inside.depth c.self.inside.ends.items c.self.invariant.5 c.args.queue below
    c.index_mut.result.now c.index_mut.ensures.value in
    let noted = unreceived_notes c.self.inside.notes.items c.receive-receiver.result.taken c.in_default.not-Message in
    rw (← c.self.view_is) (
      (rw (c.deref.ensures.value, c.queue-its.ensures.number, depth) at c.receive-receiver.ensures.receives),
      (
        c.index_mut.result.now,
        c.receive-receiver.result.head,
        was,
        λ i. record {
          words = c.receive-receiver.new.words;
          notes = sym noted i;
          hint = c.self.inside.hint;
          cached = c.self.inside.cached.items;
          most = c.self.inside.most;
          depth = c.self.inside.depth;
          ends = slice_set c.self.inside.ends.items c.args.queue
              (record c.index_mut.result.now { head = c.receive-receiver.result.head });
        },
      ),
    )
