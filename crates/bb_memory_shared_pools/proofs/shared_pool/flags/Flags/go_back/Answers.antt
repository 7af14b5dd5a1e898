use Rattle.atomic_table.specs.Table.{Me}
use Rattle.bb_memory_seats.specs.Seats.{first_of}
use Rattle.bb_memory_shared_pools.proofs.SharedPoolMerges.{same_seat}
use Rattle.bb_memory_shared_pools.proofs.shared_pool.flags.Flags.go_back.Goals as goal
use Rattle.bb_memory_shared_pools.specs.SharedPoolRule.{IsPartySeat, SeatView}
use Rattle.std.proofs.Common.{[], ap, subst, sym, ℕ, ◌∙◌}

-- the party's own seat has the view that its stand-in had
pub invariant_of-party : goal.invariant_of-party
invariant_of-party c =
    let old = c.party.inside in
    let back = same_seat c.args.self.now.scene old.seat.table_id old.number old.hint old.seat.me _ c.args.party.now
    c.party.invariant c.party.view_is c.requires.scene
    (c.split_first.ensures.first ∙ ap (λ (m : Me ℕ SeatView). (first_of m.0, [])) c.requires.seat) in
    subst (IsPartySeat old.number old.hint) (sym back) c.party.invariant
