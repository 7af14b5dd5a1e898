use Rattle.bb_memory_file.proofs.FileQueueSends.{Tried, grows_then, obeys_then, others_then, tail_then, tried_again, tried_begins, tried_clear, tried_ends, tried_scene}
use Rattle.bb_memory_file.proofs.FileQueueWalks.{sees_tail}
use Rattle.bb_memory_file.proofs.queues.send.Goals.{in-None, in-Some}
use Rattle.bb_memory_file.proofs.queues.send.Goals as goal
use Rattle.bb_memory_file.specs.FileQueueCalls.{Overtaken, Sending, SendsBy, nothing}
use Rattle.bb_memory_file.specs.FileQueueLooks.{KnowsTail, Position, queue_in}
use Rattle.bb_memory_file_machine.specs.FileMachine.{FileScene}
use Rattle.bb_memory_file_machine.specs.FileQueues.{IsWhole}
use Rattle.std.proofs.Common.{Option, arith, refl, subst, sym, ℕ, ◌<◌, ◌≡◌}
use Rattle.std.specs.Prelude.{IfSome, ◌^◌}

pub loop-attempt-init : goal.loop-attempt-init
loop-attempt-init g c =
    let old = g.W.Words.log c.args.words.now in
    let queue = queue_in old.scene c.args.queue in
    record {
      tried = elim c.match-tail.branch [
        | in-Some w ↦
            subst (λ (p : Position). Tried queue c.args.bucket c.args.length old 0 p (g.W.Words.log c.match-tail.words)) (sym w.tail-is)
            (subst (λ (words : g.row.W.Denot). Tried queue c.args.bucket c.args.length old 0 w.in-Some.tail (g.W.Words.log words))
            (sym w.words-is)
            (tried_begins queue c.args.bucket c.args.length old old w.in-Some.tail c.requires.clear nothing (λ bucket. refl)
            (subst (λ (tail : Option Position). IfSome tail (λ position. KnowsTail queue old.events position)) w.in-Some.is
            c.requires.tail)))
        | in-None w ↦
            let one = g.W.Words.log w.find_tail-tail.new.words in
            subst (λ (p : Position). Tried queue c.args.bucket c.args.length old 0 p (g.W.Words.log c.match-tail.words)) (sym w.tail-is)
            (subst (λ (words : g.row.W.Denot). Tried queue c.args.bucket c.args.length old 0 w.find_tail-tail.result
            (g.W.Words.log words)) (sym w.words-is)
            (tried_begins queue c.args.bucket c.args.length old one w.find_tail-tail.result c.requires.clear
            w.find_tail-tail.ensures.looks w.find_tail-tail.ensures.same
            (sees_tail queue c.requires.depth old.events one.events w.find_tail-tail.result w.find_tail-tail.ensures.position
            w.find_tail-tail.ensures.before)))
      ];
      most = omega arith;
    }

pub try_to_send-sender-requires : goal.try_to_send-sender-requires
try_to_send-sender-requires g c =
    let same = sym (tried_scene (g.W.Words.log c.args.words.now).scene c.args.queue c.args.bucket c.args.length (g.W.Words.log c.args.words.now)
    (g.W.Words.log c.loop-attempt.words) c.loop-attempt._attempt c.loop-attempt.tail refl c.loop-attempt.invariant.tried) in
    record {
      whole = subst (λ (s : FileScene). IsWhole (queue_in s c.args.queue)) same c.requires.whole;
      depth = c.requires.depth;
      fits = c.requires.fits;
      tail = subst (λ (s : FileScene). KnowsTail (queue_in s c.args.queue) (g.W.Words.log c.loop-attempt.words).events
          c.loop-attempt.tail) same c.loop-attempt.invariant.tried.tail_known;
      below = subst (λ (s : FileScene). c.args.bucket < s.buckets) same c.requires.below;
      clear = tried_clear (g.W.Words.log c.args.words.now).scene c.args.queue c.args.bucket c.args.length (g.W.Words.log c.args.words.now)
          (g.W.Words.log c.loop-attempt.words) c.loop-attempt._attempt c.loop-attempt.tail refl c.loop-attempt.invariant.tried;
    }

pub returns-in_default : goal.returns-in_default
returns-in_default g c = record {
  sends = tried_ends (g.W.Words.log c.args.words.now).scene c.args.queue c.args.bucket c.args.length (g.W.Words.log c.args.words.now)
      (g.W.Words.log c.loop-attempt.words) c.loop-attempt._attempt c.loop-attempt.tail refl c.loop-attempt.invariant.tried
      (g.W.Words.log c.try_to_send-sender.new.words) c.try_to_send-sender.result.sending c.in_default.not-Overtaken
      c.loop-attempt-test.true c.try_to_send-sender.ensures.sends;
  tail = tail_then (g.W.Words.log c.args.words.now).scene c.args.queue c.args.bucket c.args.length (g.W.Words.log c.args.words.now)
      (g.W.Words.log c.loop-attempt.words) c.loop-attempt._attempt c.loop-attempt.tail refl c.loop-attempt.invariant.tried
      (g.W.Words.log c.try_to_send-sender.new.words) c.try_to_send-sender.result.tail c.try_to_send-sender.ensures.tail
      c.try_to_send-sender.ensures.obeys c.try_to_send-sender.ensures.others c.try_to_send-sender.ensures.grows;
  obeys = obeys_then (g.W.Words.log c.args.words.now).scene c.args.queue c.args.bucket c.args.length (g.W.Words.log c.args.words.now)
      (g.W.Words.log c.loop-attempt.words) c.loop-attempt._attempt c.loop-attempt.tail refl c.loop-attempt.invariant.tried
      (g.W.Words.log c.try_to_send-sender.new.words) c.try_to_send-sender.result.tail c.try_to_send-sender.ensures.tail
      c.try_to_send-sender.ensures.obeys c.try_to_send-sender.ensures.others c.try_to_send-sender.ensures.grows;
  others = others_then (g.W.Words.log c.args.words.now).scene c.args.queue c.args.bucket c.args.length (g.W.Words.log c.args.words.now)
      (g.W.Words.log c.loop-attempt.words) c.loop-attempt._attempt c.loop-attempt.tail refl c.loop-attempt.invariant.tried
      (g.W.Words.log c.try_to_send-sender.new.words) c.try_to_send-sender.result.tail c.try_to_send-sender.ensures.tail
      c.try_to_send-sender.ensures.obeys c.try_to_send-sender.ensures.others c.try_to_send-sender.ensures.grows;
  grows = grows_then (g.W.Words.log c.args.words.now).scene c.args.queue c.args.bucket c.args.length (g.W.Words.log c.args.words.now)
      (g.W.Words.log c.loop-attempt.words) c.loop-attempt._attempt c.loop-attempt.tail refl c.loop-attempt.invariant.tried
      (g.W.Words.log c.try_to_send-sender.new.words) c.try_to_send-sender.result.tail c.try_to_send-sender.ensures.tail
      c.try_to_send-sender.ensures.obeys c.try_to_send-sender.ensures.others c.try_to_send-sender.ensures.grows;
}

pub loop-attempt-preserved : goal.loop-attempt-preserved
loop-attempt-preserved g c = record {
  tried = tried_again (g.W.Words.log c.args.words.now).scene c.args.queue c.args.bucket c.args.length (g.W.Words.log c.args.words.now)
      (g.W.Words.log c.loop-attempt.words) c.loop-attempt._attempt c.loop-attempt.tail refl c.loop-attempt.invariant.tried
      (g.W.Words.log c.try_to_send-sender.new.words) c.try_to_send-sender.result.tail c.try_to_send-sender.ensures.tail
      c.try_to_send-sender.ensures.obeys c.try_to_send-sender.ensures.others c.try_to_send-sender.ensures.grows
      (subst (λ (sending : Sending). (process : ℕ) → SendsBy 1 process (g.W.Words.log c.loop-attempt.words)
      (queue_in (g.W.Words.log c.loop-attempt.words).scene c.args.queue) c.args.bucket c.args.length sending
      (g.W.Words.log c.try_to_send-sender.new.words)) c.in-Overtaken.is c.try_to_send-sender.ensures.sends);
  most = (let less = c.loop-attempt-test.true in omega (arith, less));
}

pub returns : goal.returns
returns g c =
    let tried = c.loop-attempt.invariant.tried in
    let past = c.loop-attempt-test.false in
    let most = c.loop-attempt.invariant.most in
    let all : c.loop-attempt._attempt ≡ 2 ^ 16 = omega (arith, past, most) in
    record {
      sends = λ process. subst (λ (n : ℕ). SendsBy n process (g.W.Words.log c.args.words.now)
          (queue_in (g.W.Words.log c.args.words.now).scene c.args.queue) c.args.bucket c.args.length Overtaken
          (g.W.Words.log c.loop-attempt.words)) all (tried.sends process);
      tail = tried.tail_known;
      obeys = tried.obeys;
      others = tried.others;
      grows = tried.grows;
    }
