use Rattle.scripts.proofs.Sending.{Sent}
use Rattle.scripts.proofs.answering.send.Given as goal

-- the part that isn't left is written
abbrev pub invariant-loop : goal.invariant-loop
invariant-loop g l = Sent l.text l.left (g.W.Write.contents l.fn.writer) (g.W.Write.contents l.writer)
