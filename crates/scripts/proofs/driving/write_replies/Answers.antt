use Rattle.scripts.proofs.Telling.{texts_more}
use Rattle.scripts.proofs.driving.write_replies.Goals as goal
use Rattle.std.proofs.Common.{append-nil, sym, take_all}

pub loop-reply-init : goal.loop-reply-init
loop-reply-init g c = sym (append-nil c.args.text.now.items)

pub loop-reply-preserved : goal.loop-reply-preserved
loop-reply-preserved g c =
    texts_more g.K.ScriptKind.rules.reply_text c.args.text.now.items c.loop-reply.text.items c.write.new.line.items _
    c.deref-reply-items.result.now c.loop-reply.reply-index c.reply-item.result c.loop-reply-test.true c.reply-item.is
    c.loop-reply.invariant c.in_ok-write.ensures c.reply_text.ensures

pub returns : goal.returns
returns g c =
    let told =
    rw (take_all c.loop-reply.reply-index c.deref-reply-items.result.now c.loop-reply-test.false) at c.loop-reply.invariant in
    (c.in_ok-replies.replies.items, c.in_ok-replies.ensures, rw c.deref-reply-items.ensures.value at told)
