use Rattle.bb_memory_shared_pools.proofs.SharedPoolSeats.{gives_first}
use Rattle.bb_memory_shared_pools.proofs.shared_pool.flags.Flags.split_first.Goals as goal
use Rattle.std.proofs.Common.{ap, arith, sym, ◌∙◌}

pub split_seat-requires : goal.split_seat-requires
split_seat-requires c = (
  c.requires ∙ sym (ap (λ b. b.table) c.self.view_is),
  omega (arith, c.self.invariant.1.words),
  gives_first c.self.inside.table.shared.key c.args.rest.now.id c.args.rest.now.me.0,
)
