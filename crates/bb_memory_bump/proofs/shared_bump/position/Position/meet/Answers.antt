use Rattle.atomic_table.specs.Table.{Me}
use Rattle.bb_memory_bump.proofs.SharedBumpMeetings.{two_met}
use Rattle.bb_memory_bump.proofs.shared_bump.position.Position.meet.Goals as goal
use Rattle.bb_memory_bump.specs.SharedBumpRule.{AfterMeetingLoad, NumberedLog, SeatView, met_by}
use Rattle.bb_memory_seats.specs.Seats.{head_of, number_of, view_log}
use Rattle.std.proofs.Common.{List, ap, subst, ℕ, ◌++◌, ◌∙◌}

pub returns-clause-met : goal.returns-clause-met
returns-clause-met c =
    let scene = c.args.self.now.scene in
    let a = c.args.a.now.me in
    let b = c.args.b.now.me in
    let met = met_by c.merge.new.seat.me.0 in
    let own = ap (λ (m : Me ℕ SeatView). m.0.parties) c.requires.a.seat.is in
    let guest = ap (λ (m : Me ℕ SeatView). m.0.parties) c.split_first-guest.ensures.first
    ∙ ap (λ (m : Me ℕ SeatView). head_of m.0.parties) c.requires.b.seat.is in
    let both = ap (λ (m : Me ℕ SeatView). m.0.parties) c.merge.ensures.step ∙ λ i. guest i ++ own i in
    two_met scene (number_of a.0) (view_log a.0) (number_of b.0) (view_log b.0) met c.load_for_meeting-found.result
    (subst (λ (parties : List NumberedLog). AfterMeetingLoad scene parties met c.load_for_meeting-found.result) both
    c.load_for_meeting-found.ensures.step)
