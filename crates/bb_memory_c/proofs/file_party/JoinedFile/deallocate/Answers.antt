use Rattle.bb_memory_c.proofs.FileParties.{returned-same}
use Rattle.bb_memory_c.proofs.FileTold.{given-back, not-given-back}
use Rattle.bb_memory_c.proofs.file_party.JoinedFile.deallocate.Goals.{else-is_free, then-is_free}
use Rattle.bb_memory_c.proofs.file_party.JoinedFile.deallocate.Goals as goal
use Rattle.std.proofs.Common.{arith, sym, ◌∙◌}

pub invariant_of-self : goal.invariant_of-self
invariant_of-self c = c.self.invariant
    ∙ sym (returned-same c.self.inside.party c.in-Ok.number c.give_back-is_free.new.self c.give_back-is_free.ensures.returned)

pub returns-after-is_free : goal.returns-after-is_free
returns-after-is_free c =
    let noted = rw (← c.self.view_is) at c.in-Ok.ensures.there in
    let done = rw (← c.self.view_is) at c.in-Ok.ensures.done in
    let did = c.give_back-is_free.ensures in
    rw (← c.self.view_is) (rw c.of.ensures (elim c.if-is_free.branch [
      | then-is_free w ↦ given-back _ c.args.place c.in-Ok.number _ c.give_back-is_free.new.self noted done
          (λ _. did.free.0 w.if-is_free.true, λ _. w.free-is) (λ not. absurd (not w.free-is)) did.returned
      | else-is_free w ↦ given-back _ c.args.place c.in-Ok.number _ c.give_back-is_free.new.self noted done (
        λ one. let none = w.free-is in absurd (omega (arith, one, none)),
        λ all. let yes = did.free.1 all in let no = w.if-is_free.false in absurd (cc),
      )
          (λ _. w.free-is) did.returned
    ]))

pub returns-in-Err : goal.returns-in-Err
returns-in-Err c =
    let told = c.in-Err.ensures in
    rw c.refusal.ensures (not-given-back c.args.self.now c.args.place c.in-Err.code told.refused told.not_held told.not_done)
