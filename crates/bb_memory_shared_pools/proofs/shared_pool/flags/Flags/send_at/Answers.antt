use Rattle.bb_memory_pool_machine.specs.PoolMachine.{PoolScene}
use Rattle.bb_memory_pool_machine.specs.declared.steps.pool.Flag.TheVariants.{DetachedBy}
use Rattle.bb_memory_seats.specs.Seats.{alone, number_of, view_log}
use Rattle.bb_memory_shared_pools.proofs.SharedPoolSending.{sends_as}
use Rattle.bb_memory_shared_pools.proofs.shared_pool.flags.Flags.send_at.Goals as goal
use Rattle.bb_memory_shared_pools.specs.FlagWords.{as_word}
use Rattle.bb_memory_shared_pools.specs.SharedPool.{SharedPool}
use Rattle.std.proofs.Common.{[], ap, arith, subst, sym, ℕ, ◌<◌, ◌∙◌, ◌≡◌}

pub compare_exchange-flag-requires : goal.compare_exchange-flag-requires
compare_exchange-flag-requires c =
    let me = c.args.seat.now.me in
    let key : c.self.inside.table.shared.key ≡ c.args.self.now.scene =
    c.self.invariant.0 ∙ ap (λ (p : SharedPool). p.scene) c.self.view_is in
    let below = rw (← c.self.view_is) at c.requires.below in
    let counted = c.self.invariant.1.words in (
      c.requires.seat.table ∙ sym (ap (λ (p : SharedPool). p.table) c.self.view_is),
      omega arith,
      sends_as c.self.inside.table.shared.key _ _ c.word_of-word.result (number_of me.0) c.args.bucket (view_log me.0) me
          c.word_of-word.ensures
          (c.requires.seat.seat.seat.is ∙ ap (λ (s : PoolScene). (alone s (number_of me.0) (view_log me.0), [])) (sym key))
          (subst (λ (s : PoolScene). c.args.bucket < s.geometry.buckets) (sym key) c.requires.below)
          (omega (arith, c.requires.party)) (subst (λ (s : PoolScene). 1 < s.parties) (sym key) c.requires.others)
          c.requires.seat.seat.idle c.detached_by.result
          (c.detached_by.ensures ∙ ap (λ (party : ℕ). as_word (DetachedBy party)) (sym c.requires.party)),
    )
