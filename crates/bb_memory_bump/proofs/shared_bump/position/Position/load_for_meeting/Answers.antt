use Rattle.bb_memory_bump.proofs.SharedBumpMeetings.{meets_as}
use Rattle.bb_memory_bump.proofs.shared_bump.position.Position.load_for_meeting.Goals as goal
use Rattle.bb_memory_bump.specs.SharedBumpRule.{met_by, sight}
use Rattle.bb_memory_bump_machine.specs.BumpMachine.{BumpScene}
use Rattle.bb_memory_seats.specs.Seats.{standing_for}
use Rattle.std.proofs.Common.{[], ap, arith, sym, ◌∙◌}

pub load-requires : goal.load-requires
load-requires c =
    let me = c.args.seat.now.me in
    let scene = ap (λ b. b.scene) c.self.view_is in (
      c.requires.table ∙ sym (ap (λ b. b.table) c.self.view_is),
      omega (arith, c.self.invariant.words),
      meets_as c.self.inside.table.shared.key _ _ (met_by me.0) me.0.parties me
          (c.requires.seat
          ∙ ap (λ (s : BumpScene). (standing_for (sight s (met_by me.0)) me.0.parties, [])) (sym scene)),
    )
