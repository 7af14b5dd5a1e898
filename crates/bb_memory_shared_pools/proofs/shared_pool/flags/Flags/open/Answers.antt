use Rattle.bb_memory_pool_machine.specs.PoolMachine.{PoolScene}
use Rattle.bb_memory_shared_pools.proofs.SharedPoolSeats.{opens}
use Rattle.bb_memory_shared_pools.proofs.shared_pool.flags.Flags.open.Goals as goal
use Rattle.bb_memory_shared_pools.specs.FlagWords.{words_for}
use Rattle.std.proofs.Common.{ap, replicate, ℕ, ◌∙◌}

pub of_words-requires : goal.of_words-requires
of_words-requires c = opens c.args.scene c.as_slice.result.now
    (c.as_slice.ensures.value ∙ c.in_ok-words.ensures.items_if_clones_equal (λ y e. e)
    ∙ ap (λ (n : ℕ). replicate n 0) (ap words_for (c.count.ensures.value
    ∙ ap (λ (s : PoolScene). s.geometry.buckets) c.scene.view_is)))
    c.requires
