use Rattle.bb_memory_c.proofs.FileParties.{attached-same}
use Rattle.bb_memory_c.proofs.FileTold.{attach-past, attached-below, attached-told}
use Rattle.bb_memory_c.proofs.file_party.JoinedFile.attach.Goals.{in-Err, in-Ok-false, in-Ok-true}
use Rattle.bb_memory_c.proofs.file_party.JoinedFile.attach.Goals as goal
use Rattle.bb_memory_c_calls.specs.declared.code.TheConstants.{OK as ok}
use Rattle.bb_memory_traits.specs.PoolObject.{bucket_place}
use Rattle.std.proofs.Common.{arith, false, rules, sym, true, ◌∙◌, ◌≡◌}

pub chunk-requires-clause-below : goal.chunk-requires-clause-below
chunk-requires-clause-below c =
    let long = rw (← c.self.view_is) at c.invariant.ensures.noted in
    omega (arith, long, attached-below c.self.inside.party c.args.number true c.attach.new.self (search rules))

pub invariant_of-self : goal.invariant_of-self
invariant_of-self c = c.self.invariant
    ∙ sym (attached-same c.self.inside.party c.args.number c.attach.result c.attach.new.self c.attach.ensures)

pub returns : goal.returns
returns c =
    let long = rw (← c.self.view_is) at c.invariant.ensures.noted in
    rw (← c.self.view_is) (elim c.match-attach.branch [
      | in-Ok-true w ↦
          let did = rw (w.in-Ok-true.is, w.in-Ok-true.field-0-test) at c.attach.ensures in
          let told : c.match-attach.result ≡ record { code = ok; place = bucket_place c.self.inside.places c.args.number } =
          search rules in
          rw told (attached-told _ c.args.number true c.attach.new.self long did)
      | in-Ok-false w ↦
          let did = rw (w.in-Ok-false.is, w.in-Ok-false.field-0-test) at c.attach.ensures in
          rw (w.result-is, w.refusal.ensures) (attached-told _ c.args.number false c.attach.new.self long did)
      | in-Err w ↦
          let did = rw w.in-Err.is at c.attach.ensures in
          rw (w.result-is, w.refusal-in-Err.ensures) (attach-past _ c.args.number w.in-Err.field-0 c.attach.new.self long did)
    ])
