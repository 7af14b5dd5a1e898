use Rattle.scripts.proofs.Sending.{all_sent, appends_again, appends_kept, appends_nothing, keeps_same, kept_by_none, part_sent, sent_more}
use Rattle.scripts.proofs.answering.send.Goals.{in-Err-write, in-Ok-write}
use Rattle.scripts.proofs.answering.send.Goals as goal
use Rattle.std.proofs.Common.{[], ap, refl, sym, take, ◌++◌, ◌∙◌}

pub loop-preserved : goal.loop-preserved
loop-preserved g c =
    let (sent, whole, wrote) = c.loop.invariant in
    let left = c.loop.left.now in
    elim c.match-write.branch [
      | in-Ok-write w ↦
          let part = take w.in-Ok-write.count left in (
            sent ++ part,
            sent_more c.args.text.now sent left c.match-write.left.now w.in-Ok-write.count whole
                (ap (λ b. b.now) w.left-is),
            appends_again _ _ _ sent part wrote w.in-Ok-write.ensures.bytes,
          )
      | in-Err-write w ↦
          (sent, whole ∙ ap (λ b. sent ++ b.now) (sym w.left-is), appends_kept _ _ _ sent wrote w.in-Err-write.ensures.bytes)
    ]

pub loop-init : goal.loop-init
loop-init g c = ([], refl, appends_nothing (g.W.Write.contents c.args.writer.now))

pub returns-in-Ok : goal.returns-in-Ok
returns-in-Ok g c =
    all_sent _ _ _ c.args.text.now c.loop.left.now c.args.status c.loop.invariant c.if-is_empty.ensures c.flush.ensures.bytes

pub returns-in-Err : goal.returns-in-Err
returns-in-Err g c = part_sent _ _ _ c.args.text.now c.loop.left.now c.args.status c.loop.invariant c.flush.ensures.bytes

pub returns-in-Err-2 : goal.returns-in-Err-2
returns-in-Err-2 g c = part_sent _ _ _ c.args.text.now c.loop.left.now c.args.status c.loop.invariant c.in-Err-2.ensures.bytes

pub returns-in-Ok-eq0 : goal.returns-in-Ok-eq0
returns-in-Ok-eq0 g c =
    let wrote = rw c.in-Ok-eq0.is at c.write.ensures.bytes in
    part_sent _ _ _ c.args.text.now c.loop.left.now c.args.status c.loop.invariant
    (kept_by_none _ _ c.loop.left.now c.in-Ok-eq0.field-0 c.in-Ok-eq0.field-0-test wrote)

pub returns : goal.returns
returns g c = part_sent _ _ _ c.args.text.now c.loop.left.now c.args.status c.loop.invariant (keeps_same _)
