use Rattle.bb_memory_file.proofs.FileCaches.{cached_while, in_use_apart, unheld_apart}
use Rattle.bb_memory_file.proofs.FileEnds.{fits, has_ends, keeps_tail, whole}
use Rattle.bb_memory_file.proofs.FileNotes.{after_sent, after_unsent, below_by, in_use_clear, unsent_notes, within}
use Rattle.bb_memory_file.proofs.joined.Joined.send.Goals as goal
use Rattle.bb_memory_file.specs.FileNotes.{InUse, Unheld, notes_sent}
use Rattle.std.proofs.Common.{Some, ap, sym}
use Rattle.std.specs.Prelude.{slice_set}

pub send-sender-requires-clause-whole : goal.send-sender-requires-clause-whole
send-sender-requires-clause-whole g c =
    let below = rw (← c.self.view_is) at c.requires in
    let depth = rw (← c.self.view_is) at c.queue-its.ensures.depth in
    rw (c.queue-its.ensures.number, depth) (whole _ c.self.inside.depth c.self.inside.ends.items c.self.invariant.5 c.args.queue below)

pub send-sender-requires-clause-fits : goal.send-sender-requires-clause-fits
send-sender-requires-clause-fits g c =
    let below = rw (← c.self.view_is) at c.requires in
    let depth = rw (← c.self.view_is) at c.queue-its.ensures.depth in
    rw (c.queue-its.ensures.number, depth) (fits _ c.self.inside.depth c.self.inside.ends.items c.self.invariant.5 c.args.queue below)

pub send-sender-requires-clause-tail : goal.send-sender-requires-clause-tail
send-sender-requires-clause-tail g c =
    let below = rw (← c.self.view_is) at c.requires in
    let depth = rw (← c.self.view_is) at c.queue-its.ensures.depth in
    let was = has_ends _ c.self.inside.depth c.self.inside.ends.items c.self.invariant.5 c.args.queue below c.index-ends.result.now
    c.index-ends.ensures in
    rw (c.queue-its.ensures.number, depth) (c.self.invariant.5.known c.args.queue c.index-ends.result.now was).tail

pub send-sender-requires-clause-below : goal.send-sender-requires-clause-below
send-sender-requires-clause-below g c =
    below_by _ c.self.inside.notes.items c.self.invariant.0 c.args.bucket InUse
    (rw (← c.self.view_is) at c.in_ok-check.ensures.held)

pub send-sender-requires-clause-clear : goal.send-sender-requires-clause-clear
send-sender-requires-clause-clear g c =
    in_use_clear _ c.self.inside.notes.items c.self.invariant.0 c.args.bucket
    (rw (← c.self.view_is) at c.in_ok-check.ensures.held)

pub index_mut-requires-in-Sent : goal.index_mut-requires-in-Sent
index_mut-requires-in-Sent g c =
    within c.self.inside.notes.items c.args.bucket _ _ c.self.inside.notes.ok.0
    (rw (← c.self.view_is) at c.in_ok-check.ensures.held)

pub invariant_of-self : goal.invariant_of-self
invariant_of-self g c =
    let below = rw (← c.self.view_is) at c.requires in
    let depth = rw (← c.self.view_is) at c.queue-its.ensures.depth in
    let held = rw (← c.self.view_is) at c.in_ok-check.ensures.held in
    let was = has_ends _ c.self.inside.depth c.self.inside.ends.items c.self.invariant.5 c.args.queue below
    c.index_mut.result.now c.index_mut.ensures.value in (
      after_sent _ _ c.self.inside.notes.items c.self.invariant.0 c.args.bucket _ c.args.length held
          c.send-sender.ensures.others c.send-sender.result.sending c.in-Sent.slot c.in-Sent.is c.send-sender.ensures.sends,
      cached_while c.self.inside.notes.items c.self.inside.cached.items c.args.bucket InUse Unheld c.self.invariant.1 held
          in_use_apart unheld_apart,
      c.self.invariant.2,
      c.self.invariant.3,
      c.self.invariant.4,
      keeps_tail _ _ c.self.inside.depth c.self.inside.ends.items c.self.invariant.5 c.args.queue c.index_mut.result.now was
          c.send-sender.ensures.grows (rw depth at c.send-sender.ensures.obeys) c.send-sender.result.tail
          (rw (c.queue-its.ensures.number, depth) at c.send-sender.ensures.tail),
    )

pub invariant_of-self-in_default : goal.invariant_of-self-in_default
invariant_of-self-in_default g c =
    let below = rw (← c.self.view_is) at c.requires in
    let depth = rw (← c.self.view_is) at c.queue-its.ensures.depth in
    let held = rw (← c.self.view_is) at c.in_ok-check.ensures.held in
    let was = has_ends _ c.self.inside.depth c.self.inside.ends.items c.self.invariant.5 c.args.queue below
    c.index_mut.result.now c.index_mut.ensures.value in (
      after_unsent _ _ c.self.inside.notes.items c.self.invariant.0 c.args.bucket _ c.args.length held
          c.send-sender.ensures.others c.send-sender.result.sending c.in_default.not-Sent c.send-sender.ensures.sends,
      c.self.invariant.1,
      c.self.invariant.2,
      c.self.invariant.3,
      c.self.invariant.4,
      keeps_tail _ _ c.self.inside.depth c.self.inside.ends.items c.self.invariant.5 c.args.queue c.index_mut.result.now was
          c.send-sender.ensures.grows (rw depth at c.send-sender.ensures.obeys) c.send-sender.result.tail
          (rw (c.queue-its.ensures.number, depth) at c.send-sender.ensures.tail),
    )

pub returns-in-Sent : goal.returns-in-Sent
returns-in-Sent g c =
    let below = rw (← c.self.view_is) at c.requires in
    let depth = rw (← c.self.view_is) at c.queue-its.ensures.depth in
    let held = rw (← c.self.view_is) at c.in_ok-check.ensures.held in
    let was = has_ends _ c.self.inside.depth c.self.inside.ends.items c.self.invariant.5 c.args.queue below
    c.index_mut.result.now c.index_mut.ensures.value in
    let sent = ap (notes_sent c.self.inside.notes.items c.args.bucket) c.in-Sent.is in
    rw (← c.self.view_is) (
      held,
      (rw (c.queue-its.ensures.number, depth) at c.send-sender.ensures.sends),
      (
        c.index_mut.result.now,
        c.send-sender.result.tail,
        was,
        λ i. record {
          words = c.send-sender.new.words;
          notes = sym sent i;
          hint = c.self.inside.hint;
          cached = c.self.inside.cached.items;
          most = c.self.inside.most;
          depth = c.self.inside.depth;
          ends = slice_set c.self.inside.ends.items c.args.queue
              (record c.index_mut.result.now { tail = Some c.send-sender.result.tail });
        },
      ),
    )

pub returns-in_default : goal.returns-in_default
returns-in_default g c =
    let below = rw (← c.self.view_is) at c.requires in
    let depth = rw (← c.self.view_is) at c.queue-its.ensures.depth in
    let held = rw (← c.self.view_is) at c.in_ok-check.ensures.held in
    let was = has_ends _ c.self.inside.depth c.self.inside.ends.items c.self.invariant.5 c.args.queue below
    c.index_mut.result.now c.index_mut.ensures.value in
    let unsent = unsent_notes c.self.inside.notes.items c.args.bucket c.send-sender.result.sending c.in_default.not-Sent in
    rw (← c.self.view_is) (
      held,
      (rw (c.queue-its.ensures.number, depth) at c.send-sender.ensures.sends),
      (
        c.index_mut.result.now,
        c.send-sender.result.tail,
        was,
        λ i. record {
          words = c.send-sender.new.words;
          notes = sym unsent i;
          hint = c.self.inside.hint;
          cached = c.self.inside.cached.items;
          most = c.self.inside.most;
          depth = c.self.inside.depth;
          ends = slice_set c.self.inside.ends.items c.args.queue
              (record c.index_mut.result.now { tail = Some c.send-sender.result.tail });
        },
      ),
    )
