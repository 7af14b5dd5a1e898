use Rattle.bb_memory_shared_pools.proofs.SharedPoolMerges.{of_same_numbers, parties_at, stands_for}
use Rattle.bb_memory_shared_pools.proofs.shared_pool.flags.Flags.meet_detached.Goals as goal
use Rattle.bb_memory_shared_pools.specs.SharedPoolRule.{AfterMeetingLooks, NumberedLog}
use Rattle.std.proofs.Common.{List, ap, arith, subst, sym, ◌∙◌}
use Rattle.std.proofs.lemmas.Grind.{common_steps}

pub have_detached-told-requires : goal.have_detached-told-requires
have_detached-told-requires c = record {
  table = c.gather.ensures.table ∙ c.requires.seat.table;
  seat = stands_for c.args.self.now.scene _ c.gather.new.seat.me c.gather.ensures.seat;
}

pub part-requires-clause-seat : goal.part-requires-clause-seat
part-requires-clause-seat c =
    let behind = c.args.seat.now.me.0.parties in (
      behind,
      c.have_detached-told.ensures.seat
          ∙ parties_at c.args.self.now.scene behind c.gather.new.seat.me c.gather.ensures.seat c.gather.ensures.parties,
    )

pub returns : goal.returns
returns c =
    let scene = c.args.self.now.scene in
    let behind = c.args.seat.now.me.0.parties in
    let at = c.have_detached-told.ensures.seat
    ∙ parties_at scene behind c.gather.new.seat.me c.gather.ensures.seat c.gather.ensures.parties in
    record {
      table = c.part.ensures.table ∙ c.have_detached-told.ensures.table ∙ c.gather.ensures.table;
      seat = c.part.ensures.seat behind at ∙ sym c.requires.seat.seat;
      step = subst (λ (parties : List NumberedLog). AfterMeetingLooks scene parties c.have_detached-told.result) (ap (λ m. m.0.parties) c.gather.ensures.seat) c.have_detached-told.ensures.step;
      rest = record {
        items = c.part.ensures.parties.items
            ∙ of_same_numbers c.args.self.now c.args.rest.now.items c.gather.new.rest.items c.requires.rest c.gather.ensures.parties;
        len = grind (arith, common_steps);
        capacity = grind (arith, common_steps);
      };
    }
