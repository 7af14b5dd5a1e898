use Rattle.atomic_table.specs.Table.{Me}
use Rattle.bb_memory_bump.proofs.SharedBumpAnswers.{Says, nothing_found, nothing_lost, says_refused, says_won}
use Rattle.bb_memory_bump.proofs.SharedBumpParties.{party_kept}
use Rattle.bb_memory_bump.proofs.shared_bump.SharedBumpAllocator.allocate.Goals.{in-None, in-Some}
use Rattle.bb_memory_bump.proofs.shared_bump.SharedBumpAllocator.allocate.Goals as goal
use Rattle.bb_memory_bump.specs.SharedBump.{BumpParty}
use Rattle.bb_memory_bump.specs.SharedBumpRule.{IsPartySeat, SeatView, party_in}
use Rattle.bb_memory_seats.specs.Seats.{number_of}
use Rattle.std.proofs.Common.{ap, arith, rules, ℕ, ◌<◌, ◌∙◌}

pub returns-then-size-eq0-clause-found : goal.returns-then-size-eq0-clause-found
returns-then-size-eq0-clause-found c = nothing_found c.args.party.now

pub returns-then-size-eq0-clause-losses : goal.returns-then-size-eq0-clause-losses
returns-then-size-eq0-clause-losses c = λ added. nothing_lost c.args.party.now added c.args.self.now.scene.region.size

says : (c : goal.Joined-claim) → Says c.args.self.now.scene c.args.party.now
    (party_in c.claim.new.seat.table_id c.party.inside.number c.claim.new.seat.me.0) c.args.layout c.match-claim.result
says c =
    let scene = c.args.self.now.scene in
    let old = c.party.inside in
    let new = c.claim.new.seat in
    let apart = c.if-size-eq0.false in
    let asks : 0 < c.args.layout.size = grind (arith, apart) in
    let own = ap (λ (m : Me ℕ SeatView). number_of m.0) c.party.invariant.seat.seat.is in
    let is = ap (λ b. b.scene) c.requires.party in
    elim c.match-claim.branch [
      | in-Some w ↦ rw w.result-is (says_won scene new.table_id old.seat.table_id old.number old.seat.me new.me c.args.party.now
          c.claim.ensures.call.table c.party.view_is is c.args.layout asks own w.in-Some.chunk w.in-Some.ensures.call.step)
      | in-None w ↦ rw w.result-is (says_refused scene new.table_id old.seat.table_id old.number old.seat.me new.me
          c.args.party.now c.claim.ensures.call.table c.party.view_is is c.args.layout asks own w.in-None.ensures.call.step)
    ]

pub returns-clause-answer : goal.returns-clause-answer
returns-clause-answer c = (says c).answer

pub returns-clause-found : goal.returns-clause-found
returns-clause-found c = (says c).found

pub returns-clause-losses : goal.returns-clause-losses
returns-clause-losses c = (says c).losses

pub returns-clause-won : goal.returns-clause-won
returns-clause-won c = (says c).won

pub returns-clause-none_won : goal.returns-clause-none_won
returns-clause-none_won c = (says c).none_won

pub returns-clause-alone : goal.returns-clause-alone
returns-clause-alone c = (says c).alone

pub invariant_of-party : goal.invariant_of-party
invariant_of-party c =
    let scene = c.args.self.now.scene in
    let same = ap (λ (p : BumpParty). p.allocator.scene) c.party.view_is ∙ ap (λ b. b.scene) c.requires.party in
    elim c.match-claim.branch [
      | in-Some w ↦ party_kept scene c.party.inside.number _ _ _ c.party.invariant same w.in-Some.ensures.call.step.ended
      | in-None w ↦ party_kept scene c.party.inside.number _ _ _ c.party.invariant same w.in-None.ensures.call.step.ended
    ]

pub returns-clause-is_party : goal.returns-clause-is_party
returns-clause-is_party c =
    let kept : IsPartySeat c.party.inside.number c.claim.new.seat.me = invariant_of-party c in search rules
