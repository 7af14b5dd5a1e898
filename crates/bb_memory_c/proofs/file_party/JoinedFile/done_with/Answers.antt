use Rattle.bb_memory_c.proofs.FileParties.{finished-same}
use Rattle.bb_memory_c.proofs.FileTold.{finished, finishes-a-bucket, not-finished, unfinished}
use Rattle.bb_memory_c.proofs.file_party.JoinedFile.done_with.Goals.{in-Err-NotABucket, in-Err-NotDone, in-Err-NotHeld, in-Ok}
use Rattle.bb_memory_c.proofs.file_party.JoinedFile.done_with.Goals as goal
use Rattle.std.proofs.Common.{sym, ◌∙◌}

pub invariant_of-self : goal.invariant_of-self
invariant_of-self c = c.self.invariant
    ∙ sym (finished-same c.self.inside.party c.in-Some.number c.done_with.result c.done_with.new.self c.done_with.ensures)

pub returns : goal.returns
returns c =
    let below = rw (← c.self.view_is) at c.in-Some.ensures.below in
    let there = rw (← c.self.view_is) at c.in-Some.ensures.there in
    let one = rw (← c.self.view_is) at c.in-Some.ensures.one in
    rw (← c.self.view_is) (elim c.match-done_with.branch [
      | in-Ok w ↦
          let did = rw w.in-Ok.is at c.done_with.ensures in
          rw (w.result-is, w.of.ensures)
          (finished _ c.args.place c.in-Some.number below there one c.done_with.new.self w.in-Ok.slot did)
      | in-Err-NotHeld w ↦
          let did = rw (w.in-Err-NotHeld.is, w.in-Err-NotHeld.field-0-is) at c.done_with.ensures in
          rw (w.result-is, w.refusal-in-Err-NotHeld.ensures)
          (not-finished _ c.args.place c.in-Some.number below there one c.done_with.new.self did)
      | in-Err-NotDone w ↦
          let did = rw (w.in-Err-NotDone.is, w.in-Err-NotDone.field-0-is) at c.done_with.ensures in
          rw (w.result-is, w.refusal-in-Err-NotDone.ensures)
          (unfinished _ c.args.place c.in-Some.number below there one c.done_with.new.self did)
      | in-Err-NotABucket w ↦
          let did = rw (w.in-Err-NotABucket.is, w.in-Err-NotABucket.field-0-is) at c.done_with.ensures in
          finishes-a-bucket (record { party = c.self.inside.party; places = c.self.inside.places }) c.args.place c.in-Some.number
          below there one c.done_with.new.self did
    ])
