use Rattle.bb_memory_pool_machine.specs.PoolMachine.{PoolScene}
use Rattle.bb_memory_seats.specs.Seats.{alone_with, number_of, view_log}
use Rattle.bb_memory_shared_pools.proofs.SharedPoolDetaching.{returns_detached_as}
use Rattle.bb_memory_shared_pools.proofs.shared_pool.flags.Flags.return_detached.Goals as goal
use Rattle.bb_memory_shared_pools.specs.SharedPool.{SharedPool}
use Rattle.std.proofs.Common.{[], ap, arith, refl, sym, ◌∙◌}

pub store-requires : goal.store-requires
store-requires c =
    let me = c.args.seat.now.me in
    let key = c.self.invariant.0 ∙ ap (λ (p : SharedPool). p.scene) c.self.view_is in
    let both = c.take_in.ensures.step
    ∙ ap (λ (s : PoolScene). (alone_with s (number_of me.0) (view_log me.0) c.args.bucket, [])) (sym key) in
    let below = rw (← c.self.view_is) at c.requires.detached.below in
    let counted = c.self.invariant.1.words in (
      c.take_in.ensures.table ∙ c.requires.seat.table ∙ sym (ap (λ (p : SharedPool). p.table) c.self.view_is),
      omega arith,
      returns_detached_as c.self.inside.table.shared.key _ _ c.word_of.result (number_of me.0) c.args.bucket _
          (view_log me.0) c.take_in.new.seat.me c.word_of.ensures both c.requires.seat.seat.idle refl,
    )
