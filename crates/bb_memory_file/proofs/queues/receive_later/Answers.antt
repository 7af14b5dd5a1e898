use Rattle.bb_memory_file.proofs.FileQueueOldest.{loses_on}
use Rattle.bb_memory_file.proofs.FileQueueReceipts.{begun_on, loses_as, receipt_as, receipt_lost}
use Rattle.bb_memory_file.proofs.FileQueueSends.{grows_on}
use Rattle.bb_memory_file.proofs.FileQueueWalks.{head_later, looks_gets, looks_moment, looks_obey, loses_look, same_scene}
use Rattle.bb_memory_file.proofs.queues.receive_later.Goals as goal
use Rattle.bb_memory_file.specs.FileQueueCalls.{Loses, searched, unbeaten}
use Rattle.bb_memory_file.specs.FileQueueLooks.{queue_in}
use Rattle.bb_memory_file_machine.specs.FileMachine.{FileScene}
use Rattle.bb_memory_file_machine.specs.FileQueues.{IsWhole}
use Rattle.std.proofs.Common.{arith, subst, sym, ℕ, ◌+◌, ◌≡◌}
use Rattle.std.specs.Prelude.{◌^◌}

pub loop-attempt-init : goal.loop-attempt-init
loop-attempt-init g c = record { lost = unbeaten; noted = c.requires.noted; most = omega arith }

pub try_to_receive-requires : goal.try_to_receive-requires
try_to_receive-requires g c = record {
  whole = subst (λ (scene : FileScene). IsWhole (queue_in scene c.args.queue))
      (sym (same_scene (g.W.Words.log c.args.words.now) (g.W.Words.log c.loop-attempt.words) (loses_look (queue_in (g.W.Words.log c.args.words.now).scene c.args.queue) (g.W.Words.log c.args.words.now)
      c.loop-attempt._attempt (g.W.Words.log c.loop-attempt.words) c.loop-attempt.invariant.lost))) c.requires.whole;
  depth = c.requires.depth;
  fits = c.requires.fits;
  noted = c.loop-attempt.invariant.noted;
  head = head_later (queue_in (g.W.Words.log c.args.words.now).scene c.args.queue) (g.W.Words.log c.args.words.now).events (g.W.Words.log c.loop-attempt.words).events
      c.args.head (looks_moment (g.W.Words.log c.args.words.now) (g.W.Words.log c.loop-attempt.words) (loses_look (queue_in (g.W.Words.log c.args.words.now).scene c.args.queue) (g.W.Words.log c.args.words.now)
      c.loop-attempt._attempt (g.W.Words.log c.loop-attempt.words) c.loop-attempt.invariant.lost)) c.requires.head;
}

pub returns-in-Some : goal.returns-in-Some
returns-in-Some g c = record {
  receives = λ begun has. receipt_as (g.W.Words.log c.loop-attempt.words).scene (g.W.Words.log c.args.words.now).scene c.args.queue
      begun c.args.notes.now c.args.size c.in-Some.taken (g.W.Words.log c.try_to_receive.new.words)
      (same_scene (g.W.Words.log c.args.words.now) (g.W.Words.log c.loop-attempt.words) (loses_look (queue_in (g.W.Words.log c.args.words.now).scene c.args.queue) (g.W.Words.log c.args.words.now)
      c.loop-attempt._attempt (g.W.Words.log c.loop-attempt.words) c.loop-attempt.invariant.lost))
      (c.in-Some.ensures.receives begun (begun_on (queue_in (g.W.Words.log c.args.words.now).scene c.args.queue) c.args.notes.now begun c.args.head
      (g.W.Words.log c.args.words.now) has (g.W.Words.log c.loop-attempt.words) (loses_look (queue_in (g.W.Words.log c.args.words.now).scene c.args.queue) (g.W.Words.log c.args.words.now)
      c.loop-attempt._attempt (g.W.Words.log c.loop-attempt.words) c.loop-attempt.invariant.lost)));
  obeys = λ obey. c.in-Some.ensures.obeys (looks_obey (g.W.Words.log c.args.words.now) c.args.queue.depth (g.W.Words.log c.loop-attempt.words) (loses_look (queue_in (g.W.Words.log c.args.words.now).scene c.args.queue) (g.W.Words.log c.args.words.now)
      c.loop-attempt._attempt (g.W.Words.log c.loop-attempt.words) c.loop-attempt.invariant.lost) obey);
  noted = c.in-Some.ensures.noted;
  grows = grows_on (g.W.Words.log c.args.words.now) (g.W.Words.log c.loop-attempt.words) (g.W.Words.log c.try_to_receive.new.words) (looks_gets (g.W.Words.log c.args.words.now) (g.W.Words.log c.loop-attempt.words) (loses_look (queue_in (g.W.Words.log c.args.words.now).scene c.args.queue) (g.W.Words.log c.args.words.now)
      c.loop-attempt._attempt (g.W.Words.log c.loop-attempt.words) c.loop-attempt.invariant.lost)) c.in-Some.ensures.grows;
}

pub loop-attempt-preserved : goal.loop-attempt-preserved
loop-attempt-preserved g c =
    let one : 1 + c.loop-attempt._attempt ≡ c.loop-attempt._attempt + 1 = omega arith in
    let queue = queue_in (g.W.Words.log c.args.words.now).scene c.args.queue in
    record {
      lost = subst (λ (n : ℕ). Loses queue (g.W.Words.log c.args.words.now) n (g.W.Words.log c.try_to_receive.new.words)) one
          (loses_on queue (g.W.Words.log c.args.words.now) (g.W.Words.log c.loop-attempt.words) c.loop-attempt._attempt c.loop-attempt.invariant.lost 1 (g.W.Words.log c.try_to_receive.new.words)
          (loses_as (g.W.Words.log c.loop-attempt.words).scene (g.W.Words.log c.args.words.now).scene c.args.queue (g.W.Words.log c.loop-attempt.words) 1 (g.W.Words.log c.try_to_receive.new.words) (same_scene (g.W.Words.log c.args.words.now) (g.W.Words.log c.loop-attempt.words) (loses_look (queue_in (g.W.Words.log c.args.words.now).scene c.args.queue) (g.W.Words.log c.args.words.now)
          c.loop-attempt._attempt (g.W.Words.log c.loop-attempt.words) c.loop-attempt.invariant.lost)) c.in_default.ensures.receives));
      noted = c.in_default.ensures.noted;
      most = (let less = c.loop-attempt-test.true in omega (arith, less));
    }

pub returns : goal.returns
returns g c =
    let past = c.loop-attempt-test.false in
    let most = c.loop-attempt.invariant.most in
    let all : c.loop-attempt._attempt ≡ 2 ^ 16 = omega (arith, past, most) in
    let sum : 2 ^ 16 + 0 ≡ 2 ^ 16 = omega arith in
    let queue = queue_in (g.W.Words.log c.args.words.now).scene c.args.queue in
    record {
      receives = λ begun has. receipt_lost queue c.args.notes.now c.args.size begun (g.W.Words.log c.loop-attempt.words)
          (subst (λ (n : ℕ). Loses queue begun n (g.W.Words.log c.loop-attempt.words)) sum
          (loses_on queue begun (g.W.Words.log c.args.words.now) 0 (searched 0 begun (g.W.Words.log c.args.words.now) unbeaten has.0) (2 ^ 16)
          (g.W.Words.log c.loop-attempt.words) (subst (λ (n : ℕ). Loses queue (g.W.Words.log c.args.words.now) n (g.W.Words.log c.loop-attempt.words)) all
          c.loop-attempt.invariant.lost)));
      obeys = looks_obey (g.W.Words.log c.args.words.now) c.args.queue.depth (g.W.Words.log c.loop-attempt.words) (loses_look (queue_in (g.W.Words.log c.args.words.now).scene c.args.queue) (g.W.Words.log c.args.words.now)
          c.loop-attempt._attempt (g.W.Words.log c.loop-attempt.words) c.loop-attempt.invariant.lost);
      noted = c.loop-attempt.invariant.noted;
      grows = looks_gets (g.W.Words.log c.args.words.now) (g.W.Words.log c.loop-attempt.words) (loses_look (queue_in (g.W.Words.log c.args.words.now).scene c.args.queue) (g.W.Words.log c.args.words.now)
          c.loop-attempt._attempt (g.W.Words.log c.loop-attempt.words) c.loop-attempt.invariant.lost);
    }
