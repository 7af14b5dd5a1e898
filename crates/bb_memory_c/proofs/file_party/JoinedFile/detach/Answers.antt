use Rattle.bb_memory_c.proofs.FileParties.{detached-same}
use Rattle.bb_memory_c.proofs.FileTold.{detached, is-a-bucket, not-detached, put-back, stays-in}
use Rattle.bb_memory_c.proofs.file_party.JoinedFile.detach.Goals.{in-Err-NotABucket, in-Err-NotDone, in-Err-NotHeld, in-Ok-None, in-Ok-Some}
use Rattle.bb_memory_c.proofs.file_party.JoinedFile.detach.Goals as goal
use Rattle.std.proofs.Common.{inl, inr, refl, sym, ◌∙◌}

pub returns-in_default : goal.returns-in_default
returns-in_default c = let none = c.in_default.ensures.none in record {
  not_held = λ _. (c.refusal.ensures, refl);
  detached = λ free. absurd (none (inl free));
  undone = λ undone. absurd (none (inr undone));
}

pub invariant_of-self : goal.invariant_of-self
invariant_of-self c = c.self.invariant
    ∙ sym (detached-same c.self.inside.party c.in-Some.number c.detach.result c.detach.new.self c.detach.ensures)

pub returns : goal.returns
returns c =
    let below = rw (← c.self.view_is) at c.in-Some.ensures.below in
    let there = rw (← c.self.view_is) at c.in-Some.ensures.there in
    let one = rw (← c.self.view_is) at c.in-Some.ensures.one in
    rw (← c.self.view_is) (elim c.match-detach.branch [
      | in-Ok-None w ↦
          let did = rw (w.in-Ok-None.is, w.in-Ok-None.field-0-is) at c.detach.ensures in
          rw (w.result-is, w.detached.ensures)
          (detached _ c.args.place c.in-Some.number below there one c.detach.new.self did)
      | in-Ok-Some w ↦
          let did = rw (w.in-Ok-Some.is, w.in-Ok-Some.field-0-is) at c.detach.ensures in
          rw (w.result-is, w.put_back.ensures)
          (put-back _ c.args.place c.in-Some.number below there one c.detach.new.self w.in-Ok-Some.slot did)
      | in-Err-NotDone w ↦
          let did = rw (w.in-Err-NotDone.is, w.in-Err-NotDone.field-0-is) at c.detach.ensures in
          rw (w.result-is, w.refusal-in-Err-NotDone.ensures)
          (stays-in _ c.args.place c.in-Some.number below there one c.detach.new.self did)
      | in-Err-NotHeld w ↦
          let did = rw (w.in-Err-NotHeld.is, w.in-Err-NotHeld.field-0-is) at c.detach.ensures in
          rw (w.result-is, w.refusal-in-Err-NotHeld.ensures)
          (not-detached _ c.args.place c.in-Some.number below there one c.detach.new.self did)
      | in-Err-NotABucket w ↦
          let did = rw (w.in-Err-NotABucket.is, w.in-Err-NotABucket.field-0-is) at c.detach.ensures in
          is-a-bucket (record { party = c.self.inside.party; places = c.self.inside.places }) c.args.place c.in-Some.number below there one c.detach.new.self did
    ])
