use Rattle.bb_memory_pool_machine.specs.PoolMachine.{PoolScene}
use Rattle.bb_memory_seats.specs.Seats.{alone, number_of, view_log}
use Rattle.bb_memory_shared_pools.proofs.SharedPoolKeeps.{looks_at_as}
use Rattle.bb_memory_shared_pools.proofs.shared_pool.flags.Flags.probe_to_send.Goals as goal
use Rattle.bb_memory_shared_pools.specs.SharedPool.{SharedPool}
use Rattle.std.proofs.Common.{[], ap, arith, subst, sym, ◌<◌, ◌∙◌, ◌≡◌}

pub load-loaded-requires : goal.load-loaded-requires
load-loaded-requires c =
    let me = c.args.seat.now.me in
    let key : c.self.inside.table.shared.key ≡ c.args.self.now.scene =
    c.self.invariant.0 ∙ ap (λ (p : SharedPool). p.scene) c.self.view_is in
    let below = rw (← c.self.view_is) at c.requires.below in
    let counted = c.self.invariant.1.words in (
      c.requires.seat.table ∙ sym (ap (λ (p : SharedPool). p.table) c.self.view_is),
      omega arith,
      looks_at_as c.self.inside.table.shared.key _ _ c.word_of.result (number_of me.0) c.args.bucket (view_log me.0) me
          c.word_of.ensures
          (c.requires.seat.seat.seat.is ∙ ap (λ (s : PoolScene). (alone s (number_of me.0) (view_log me.0), [])) (sym key))
          (subst (λ (s : PoolScene). c.args.bucket < s.geometry.buckets) (sym key) c.requires.below) c.requires.seat.seat.idle,
    )
