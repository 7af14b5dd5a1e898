use Rattle.bb_memory_shared_pools.proofs.SharedPoolSeats.{merges}
use Rattle.bb_memory_shared_pools.proofs.shared_pool.flags.Flags.merge.Goals as goal
use Rattle.bb_memory_shared_pools.specs.SharedPool.{SharedPool}
use Rattle.std.proofs.Common.{ap, arith, sym, ◌∙◌}

pub join_seat-requires : goal.join_seat-requires
join_seat-requires c =
    let own = sym (ap (λ (p : SharedPool). p.table) c.self.view_is) in
    let has = c.self.invariant.1.words in (
      c.requires.tables.0 ∙ own,
      c.requires.tables.1 ∙ own,
      c.requires.guest,
      omega (arith, has),
      merges c.self.inside.table.shared.key c.args.seat.now.id c.args.guest.id c.args.seat.now.me.0 c.args.guest.me.0,
    )
