use Rattle.scripts.proofs.driving.write_replies.Given as goal
use Rattle.std.proofs.Common.{take, ◌++◌, ◌≡◌}
use Rattle.std.specs.List.{flat_map}

-- the lines of the replies so far are added
abbrev pub invariant-loop-reply : goal.invariant-loop-reply
invariant-loop-reply g l =
    l.text.items ≡ l.fn.text.items ++ flat_map g.K.ScriptKind.rules.reply_text (take l.reply-index l.reply-items)
