use Rattle.bb_memory_seats.specs.Seats.{both_detached}
use Rattle.bb_memory_shared_pools.proofs.SharedPoolSeats.{takes_in}
use Rattle.bb_memory_shared_pools.proofs.shared_pool.flags.Flags.take_in.Goals as goal
use Rattle.bb_memory_shared_pools.specs.SharedPool.{SharedPool}
use Rattle.std.proofs.Common.{ap, arith, sym, ◌∙◌}

pub join_seat-requires : goal.join_seat-requires
join_seat-requires c =
    let own = sym (ap (λ (p : SharedPool). p.table) c.self.view_is) in (
      c.requires.seat.table ∙ own,
      c.requires.detached.at.table ∙ own,
      ap (λ m. m.1) c.requires.detached.at.seat,
      omega (arith, c.self.invariant.1.words),
      takes_in c.self.inside.table.shared.key c.args.seat.now.id c.args.detached.id c.args.seat.now.me.0 c.args.detached.me.0,
    )

pub returns : goal.returns
returns c =
    let own = c.requires.seat.seat.seat.is in
    let guest = c.requires.detached.at.seat in record {
      table = c.join_seat.ensures.0;
      step = c.join_seat.ensures.2 ∙ λ i. (both_detached (own i).0 (guest i).0, (own i).1);
    }
