use Rattle.bb_memory_pool_machine.specs.PoolMachine.{PoolScene}
use Rattle.bb_memory_seats.specs.Seats.{standing_for}
use Rattle.bb_memory_shared_pools.proofs.SharedPoolMeetings.{meets_as}
use Rattle.bb_memory_shared_pools.proofs.shared_pool.flags.Flags.load_for_meeting.Goals as goal
use Rattle.bb_memory_shared_pools.specs.SharedPool.{SharedPool}
use Rattle.std.proofs.Common.{[], ap, arith, sym, ◌∙◌}

pub load-requires : goal.load-requires
load-requires c =
    let me = c.args.seat.now.me in
    let key = c.self.invariant.0 ∙ ap (λ (p : SharedPool). p.scene) c.self.view_is in
    let has = c.self.invariant.1.words in (
      c.requires.table ∙ sym (ap (λ (p : SharedPool). p.table) c.self.view_is),
      omega (arith, has),
      meets_as c.self.inside.table.shared.key _ _ 0 me.0.parties me
          (c.requires.seat ∙ ap (λ (s : PoolScene). (standing_for s me.0.parties, [])) (sym key)),
    )
