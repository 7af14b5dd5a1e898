use Rattle.bb_memory_shared_pools.proofs.SharedPoolMerges.{of_same_numbers, parties_at, stands_for}
use Rattle.bb_memory_shared_pools.proofs.shared_pool.flags.Flags.meet_rest.Goals as goal
use Rattle.bb_memory_shared_pools.specs.SharedPoolRule.{AfterMeetingLoad}
use Rattle.std.proofs.Common.{ap, arith, subst, sym, ◌∙◌}
use Rattle.std.proofs.lemmas.Grind.{common_steps}

pub load_for_meeting-requires : goal.load_for_meeting-requires
load_for_meeting-requires c = record {
  table = c.gather.ensures.table ∙ c.requires.seat.table;
  seat = stands_for c.args.self.now.scene _ c.gather.new.seat.me c.gather.ensures.seat;
}

pub part-requires-clause-seat : goal.part-requires-clause-seat
part-requires-clause-seat c =
    let behind = c.args.seat.now.me.0.parties in (
      behind,
      c.load_for_meeting.ensures.seat
          ∙ parties_at c.args.self.now.scene behind c.gather.new.seat.me c.gather.ensures.seat c.gather.ensures.parties,
    )

pub returns : goal.returns
returns c =
    let scene = c.args.self.now.scene in
    let behind = c.args.seat.now.me.0.parties in
    let at = c.load_for_meeting.ensures.seat
    ∙ parties_at scene behind c.gather.new.seat.me c.gather.ensures.seat c.gather.ensures.parties in
    record {
      table = c.part.ensures.table ∙ c.load_for_meeting.ensures.table ∙ c.gather.ensures.table;
      seat = c.part.ensures.seat behind at ∙ sym c.requires.seat.seat;
      step = subst (AfterMeetingLoad scene) (ap (λ m. m.0.parties) c.gather.ensures.seat) c.load_for_meeting.ensures.step;
      rest = record {
        items = c.part.ensures.parties.items
            ∙ of_same_numbers c.args.self.now c.args.rest.now.items c.gather.new.rest.items c.requires.rest c.gather.ensures.parties;
        len = grind (arith, common_steps);
        capacity = grind (arith, common_steps);
      };
    }
