use Rattle.bb_memory_bump.proofs.SharedBumpClosings.{closes}
use Rattle.bb_memory_bump.proofs.shared_bump.position.Position.close.Goals as goal
use Rattle.bb_memory_bump.specs.SharedBump.{SharedBump}
use Rattle.bb_memory_bump.specs.SharedBumpRule.{AfterMeetingLoad, met_by}
use Rattle.std.proofs.Common.{subst}

pub returns : goal.returns
returns c =
    let me = c.args.seat.me in record {
      last = subst (λ (b : SharedBump). AfterMeetingLoad b.scene me.0.parties (met_by me.0) c.word-position.result) c.self.view_is
          (closes c.self.inside.table.shared.key c.args.seat.id me.0 _ _ c.word-position.result
          c.close_with-closed.ensures.values.2 c.word-position.ensures);
    }
