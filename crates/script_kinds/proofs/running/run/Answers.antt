use Rattle.script_kinds.proofs.running.run.Goals as goal
use Rattle.script_kinds.specs.Kinds.{kinds}
use Rattle.scripts.proofs.Sending.{keeps_same, left_all}
use Rattle.std.proofs.Common.{refl}

pub answer-requires : goal.answer-requires
unfolding kinds
answer-requires g c = refl

pub returns-in-Ok : goal.returns-in-Ok
unfolding kinds
returns-in-Ok g c =
    let input = c.read_to_end.new.buf.items in
    let all = left_all (g.R.Read.remaining c.args.reader) c.new-input.result.items input c.new-input.ensures.items
    c.in-Ok.ensures.bytes in
    let ends = rw c.deref.ensures.value at c.answer.ensures in
    record {
      done = λ is. let (text, answered, wrote) = ends.done is in (input, text, all, answered, wrote);
      unreadable = λ is. let (number, unread, wrote) = ends.unreadable is in (input, number, all, unread, wrote);
      input_failed = λ is. absurd (ends.input_read is);
      out_of_memory = ends.out_of_memory;
      output_failed = λ is. let (sent, begins, wrote) = ends.output_failed is in (input, sent, all, begins, wrote);
    }

pub returns-in-Err-clause-out_of_memory : goal.returns-in-Err-clause-out_of_memory
returns-in-Err-clause-out_of_memory g c is = keeps_same _

pub returns-clause-input_failed : goal.returns-clause-input_failed
returns-clause-input_failed g c is = keeps_same _
