use Rattle.bb_memory_pool_machine.specs.PoolMachine.{PoolScene}
use Rattle.bb_memory_seats.specs.Seats.{alone, number_of, view_log}
use Rattle.bb_memory_shared_pools.proofs.SharedPoolDetaching.{detaches_as}
use Rattle.bb_memory_shared_pools.proofs.SharedPoolSeats.{gives_detached}
use Rattle.bb_memory_shared_pools.proofs.shared_pool.flags.Flags.detach.Goals as goal
use Rattle.bb_memory_shared_pools.specs.FlagWords.{as_word, with_token}
use Rattle.bb_memory_shared_pools.specs.SharedPool.{SharedPool}
use Rattle.std.proofs.Common.{[], ap, arith, subst, sym, ℕ, ◌<◌, ◌∙◌}

pub store-requires : goal.store-requires
store-requires c =
    let me = c.args.seat.now.me in
    let key = c.self.invariant.0 ∙ ap (λ (p : SharedPool). p.scene) c.self.view_is in
    let below = rw (← c.self.view_is) at c.requires.held.below in
    let counted = c.self.invariant.1.words in (
      c.requires.seat.table ∙ sym (ap (λ (p : SharedPool). p.table) c.self.view_is),
      omega arith,
      detaches_as c.self.inside.table.shared.key _ _ c.word_of.result (number_of me.0) c.args.bucket c.detached_with_token.result
          (view_log me.0) me c.word_of.ensures
          (c.requires.seat.seat.is ∙ ap (λ (s : PoolScene). (alone s (number_of me.0) (view_log me.0), [])) (sym key))
          (c.detached_with_token.ensures ∙ ap (λ (party : ℕ). as_word (with_token party)) (sym c.requires.party))
          (omega (arith, c.requires.party))
          (subst (λ (s : PoolScene). 1 < s.parties) (sym key) c.requires.others) c.requires.held.held,
    )

pub split_seat-requires : goal.split_seat-requires
split_seat-requires c = (
  c.store.ensures.0 ∙ c.requires.seat.table ∙ sym (ap (λ (p : SharedPool). p.table) c.self.view_is),
  omega (arith, c.self.invariant.1.words),
  gives_detached c.self.inside.table.shared.key c.store.new.seat.id c.store.new.seat.me.0,
)
