use Rattle.bb_memory_file.proofs.FileNotes.{within}
use Rattle.bb_memory_file.proofs.FileQueueNotes.{noted_message, noted_missed, noted_wrong}
use Rattle.bb_memory_file.proofs.FileQueueReceipts.{begun_on, head_can_take, head_message, oldest_begun, oldest_stray, receipt_as, receipt_empty, receipt_message, receipt_unfit, receive_grows, seen_oldest, take_obeys}
use Rattle.bb_memory_file.proofs.FileQueueSends.{grows_on}
use Rattle.bb_memory_file.proofs.FileQueueWalks.{head_later, looks_look, looks_moment, same_scene}
use Rattle.bb_memory_file.proofs.queues.receive_from.Goals as goal
use Rattle.bb_memory_file.specs.FileCalls.received as received
use Rattle.bb_memory_file.specs.FileCode.{MissFlag}
use Rattle.bb_memory_file.specs.FileNames.{SentTo}
use Rattle.bb_memory_file.specs.FileNotes.{Unheld}
use Rattle.bb_memory_file.specs.FileQueueCalls.{IsStray}
use Rattle.bb_memory_file.specs.FileQueueLooks.{Look, queue_in}
use Rattle.bb_memory_file_machine.specs.FileMachine.{FileScene}
use Rattle.bb_memory_file_machine.specs.FileQueues.{IsWhole}
use Rattle.std.proofs.Common.{Some, [], refl, rules, subst, sym, ◌≡◌}
use Rattle.std.specs.Prelude.{slice_get}

pub returns-in_default : goal.returns-in_default
returns-in_default g c = record {
  receives = λ begun found. receipt_empty (queue_in (g.W.Words.log c.args.words.now).scene c.args.queue) c.args.notes.now c.args.size begun c.args.oldest (g.W.Words.log c.args.words.now) c.in_default.field-0 found
      c.in_default.is;
  obeys = λ obey. obey;
  noted = c.requires.noted;
  grows = ([], refl);
}

pub receive_later-requires : goal.receive_later-requires
receive_later-requires g c =
    let was : slice_get c.args.notes.now c.in-Message.bucket ≡ Some Unheld = cc in
    record {
      whole = subst (λ (scene : FileScene). IsWhole (queue_in scene c.args.queue))
          (sym (same_scene (g.W.Words.log c.args.words.now) (g.W.Words.log c.receive.new.words) (looks_look (g.W.Words.log c.args.words.now) (g.W.Words.log c.receive.new.words) (MissFlag c.in-Message.bucket (SentTo c.args.oldest.position.slot c.args.oldest.position.lap)) tt (c.in-NotSent.ensures 0).1))) c.requires.whole;
      depth = c.requires.depth;
      fits = c.requires.fits;
      noted = noted_missed (g.W.Words.log c.args.words.now) c.args.notes.now c.in-Message.bucket was c.requires.noted c.args.oldest.position.slot c.args.oldest.position.lap c.args.size (g.W.Words.log c.receive.new.words)
          (c.in-NotSent.ensures 0);
      head = head_later (queue_in (g.W.Words.log c.args.words.now).scene c.args.queue) (g.W.Words.log c.args.words.now).events (g.W.Words.log c.receive.new.words).events c.args.oldest.position (looks_moment (g.W.Words.log c.args.words.now) (g.W.Words.log c.receive.new.words) (looks_look (g.W.Words.log c.args.words.now) (g.W.Words.log c.receive.new.words) (MissFlag c.in-Message.bucket (SentTo c.args.oldest.position.slot c.args.oldest.position.lap)) tt (c.in-NotSent.ensures 0).1)) c.requires.head;
    }

pub returns-in-NotSent : goal.returns-in-NotSent
returns-in-NotSent g c = record {
  receives = λ begun found. receipt_as (g.W.Words.log c.receive.new.words).scene (g.W.Words.log c.args.words.now).scene c.args.queue begun c.args.notes.now c.args.size c.receive_later.result
      (g.W.Words.log c.receive_later.new.words) (same_scene (g.W.Words.log c.args.words.now) (g.W.Words.log c.receive.new.words) (looks_look (g.W.Words.log c.args.words.now) (g.W.Words.log c.receive.new.words) (MissFlag c.in-Message.bucket (SentTo c.args.oldest.position.slot c.args.oldest.position.lap)) tt (c.in-NotSent.ensures 0).1))
      (c.receive_later.ensures.receives begun (begun_on (queue_in (g.W.Words.log c.args.words.now).scene c.args.queue) c.args.notes.now begun c.args.oldest.position (g.W.Words.log c.args.words.now)
      (oldest_begun (queue_in (g.W.Words.log c.args.words.now).scene c.args.queue) begun c.args.oldest (g.W.Words.log c.args.words.now) found c.in-Message.lap c.in-Message.bucket c.in-Message.is) (g.W.Words.log c.receive.new.words) (looks_look (g.W.Words.log c.args.words.now) (g.W.Words.log c.receive.new.words) (MissFlag c.in-Message.bucket (SentTo c.args.oldest.position.slot c.args.oldest.position.lap)) tt (c.in-NotSent.ensures 0).1)));
  obeys = λ obey. c.receive_later.ensures.obeys (take_obeys (queue_in (g.W.Words.log c.args.words.now).scene c.args.queue) (g.W.Words.log c.args.words.now) refl c.args.oldest.position.slot c.args.oldest.position.lap c.in-Message.bucket
      c.args.size c.requires.head.0.0 (head_can_take (queue_in (g.W.Words.log c.args.words.now).scene c.args.queue) (g.W.Words.log c.args.words.now) c.args.oldest.position c.in-Message.bucket c.requires.head
      (subst (λ word. Look (g.W.Words.log c.args.words.now).events c.args.oldest.position.slot word)
      (head_message c.args.oldest.word c.in-Message.lap c.in-Message.bucket c.args.oldest.position.lap c.in-Message.is c.requires.lap)
      c.requires.look)) received.NotSent (g.W.Words.log c.receive.new.words) (c.in-NotSent.ensures 0) obey);
  noted = c.receive_later.ensures.noted;
  grows = grows_on (g.W.Words.log c.args.words.now) (g.W.Words.log c.receive.new.words) (g.W.Words.log c.receive_later.new.words) (receive_grows (g.W.Words.log c.args.words.now) c.args.oldest.position.slot c.args.oldest.position.lap c.in-Message.bucket
      c.args.size received.NotSent (g.W.Words.log c.receive.new.words) (c.in-NotSent.ensures 0)) c.receive_later.ensures.grows;
}

pub receive-requires : goal.receive-requires
receive-requires g c =
    let was : slice_get c.args.notes.now c.in-Message.bucket ≡ Some Unheld = cc in
    record {
      lap = c.requires.head.0.1;
      below = within c.args.notes.now c.in-Message.bucket Unheld (g.W.Words.log c.args.words.now).scene.buckets (sym c.requires.noted.enough) was;
    }

pub returns-in-Wrong : goal.returns-in-Wrong
returns-in-Wrong g c =
    let was : slice_get c.args.notes.now c.in-Message.bucket ≡ Some Unheld = cc in
    record {
      receives = λ begun found. receipt_unfit (queue_in (g.W.Words.log c.args.words.now).scene c.args.queue) c.args.notes.now c.args.size begun (g.W.Words.log c.args.words.now) c.args.oldest.position.slot c.args.oldest.position.lap c.in-Message.bucket
          (g.W.Words.log c.receive.new.words) (seen_oldest (queue_in (g.W.Words.log c.args.words.now).scene c.args.queue) begun c.args.oldest (g.W.Words.log c.args.words.now) found) c.requires.head.0.0 c.in-Wrong.ensures;
      obeys = take_obeys (queue_in (g.W.Words.log c.args.words.now).scene c.args.queue) (g.W.Words.log c.args.words.now) refl c.args.oldest.position.slot c.args.oldest.position.lap c.in-Message.bucket
          c.args.size c.requires.head.0.0 (head_can_take (queue_in (g.W.Words.log c.args.words.now).scene c.args.queue) (g.W.Words.log c.args.words.now) c.args.oldest.position c.in-Message.bucket c.requires.head
          (subst (λ word. Look (g.W.Words.log c.args.words.now).events c.args.oldest.position.slot word)
          (head_message c.args.oldest.word c.in-Message.lap c.in-Message.bucket c.args.oldest.position.lap c.in-Message.is c.requires.lap)
          c.requires.look)) received.Wrong (g.W.Words.log c.receive.new.words) (c.in-Wrong.ensures 0);
      noted = noted_wrong (g.W.Words.log c.args.words.now) c.args.notes.now c.in-Message.bucket was c.requires.noted c.args.oldest.position.slot c.args.oldest.position.lap c.args.size (g.W.Words.log c.receive.new.words)
          (c.in-Wrong.ensures 0);
      grows = (receive_grows (g.W.Words.log c.args.words.now) c.args.oldest.position.slot c.args.oldest.position.lap c.in-Message.bucket
          c.args.size received.Wrong (g.W.Words.log c.receive.new.words) (c.in-Wrong.ensures 0));
    }

pub returns-in-Message-receive : goal.returns-in-Message-receive
returns-in-Message-receive g c =
    let was : slice_get c.args.notes.now c.in-Message.bucket ≡ Some Unheld = cc in
    record {
      receives = λ begun found. receipt_message (queue_in (g.W.Words.log c.args.words.now).scene c.args.queue) c.args.notes.now c.args.size begun (g.W.Words.log c.args.words.now) c.args.oldest.position.slot c.args.oldest.position.lap c.in-Message.bucket
          c.in-Message-receive.length (g.W.Words.log c.receive.new.words) (seen_oldest (queue_in (g.W.Words.log c.args.words.now).scene c.args.queue) begun c.args.oldest (g.W.Words.log c.args.words.now) found) c.requires.head.0.0 was (head_can_take (queue_in (g.W.Words.log c.args.words.now).scene c.args.queue) (g.W.Words.log c.args.words.now) c.args.oldest.position c.in-Message.bucket c.requires.head
          (subst (λ word. Look (g.W.Words.log c.args.words.now).events c.args.oldest.position.slot word)
          (head_message c.args.oldest.word c.in-Message.lap c.in-Message.bucket c.args.oldest.position.lap c.in-Message.is c.requires.lap)
          c.requires.look))
          c.in-Message-receive.ensures;
      obeys = take_obeys (queue_in (g.W.Words.log c.args.words.now).scene c.args.queue) (g.W.Words.log c.args.words.now) refl c.args.oldest.position.slot c.args.oldest.position.lap c.in-Message.bucket
          c.args.size c.requires.head.0.0 (head_can_take (queue_in (g.W.Words.log c.args.words.now).scene c.args.queue) (g.W.Words.log c.args.words.now) c.args.oldest.position c.in-Message.bucket c.requires.head
          (subst (λ word. Look (g.W.Words.log c.args.words.now).events c.args.oldest.position.slot word)
          (head_message c.args.oldest.word c.in-Message.lap c.in-Message.bucket c.args.oldest.position.lap c.in-Message.is c.requires.lap)
          c.requires.look)) (received.Message c.in-Message-receive.length) (g.W.Words.log c.receive.new.words) (c.in-Message-receive.ensures 0);
      noted = noted_message (g.W.Words.log c.args.words.now) c.args.notes.now c.in-Message.bucket was c.requires.noted c.args.oldest.position.slot c.args.oldest.position.lap c.args.size (g.W.Words.log c.receive.new.words)
          c.in-Message-receive.length (c.in-Message-receive.ensures 0);
      grows = (receive_grows (g.W.Words.log c.args.words.now) c.args.oldest.position.slot c.args.oldest.position.lap c.in-Message.bucket
          c.args.size (received.Message c.in-Message-receive.length) (g.W.Words.log c.receive.new.words) (c.in-Message-receive.ensures 0));
    }

pub returns-in-Some-Undone : goal.returns-in-Some-Undone
returns-in-Some-Undone g c = record {
  receives = λ begun found. c.receive_later-in-Some-Undone.ensures.receives begun
      (oldest_begun (queue_in (g.W.Words.log c.args.words.now).scene c.args.queue) begun c.args.oldest (g.W.Words.log c.args.words.now) found c.in-Message.lap c.in-Message.bucket c.in-Message.is);
  obeys = c.receive_later-in-Some-Undone.ensures.obeys;
  noted = c.receive_later-in-Some-Undone.ensures.noted;
  grows = c.receive_later-in-Some-Undone.ensures.grows;
}

pub returns-in_default-note_of-clause-receives : goal.returns-in_default-note_of-clause-receives
returns-in_default-note_of-clause-receives g c begun found =
    let strays : IsStray (slice_get c.args.notes.now c.in-Message.bucket) = search rules in
    oldest_stray (queue_in (g.W.Words.log c.args.words.now).scene c.args.queue) begun c.args.oldest (g.W.Words.log c.args.words.now) found c.in-Message.lap c.in-Message.bucket c.in-Message.is c.args.notes.now c.args.size
    strays

pub returns-in_default-note_of-2-clause-receives : goal.returns-in_default-note_of-2-clause-receives
returns-in_default-note_of-2-clause-receives g c begun found =
    let strays : IsStray (slice_get c.args.notes.now c.in-Message.bucket) = search rules in
    oldest_stray (queue_in (g.W.Words.log c.args.words.now).scene c.args.queue) begun c.args.oldest (g.W.Words.log c.args.words.now) found c.in-Message.lap c.in-Message.bucket c.in-Message.is c.args.notes.now c.args.size
    strays
