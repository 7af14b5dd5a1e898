use Rattle.bb_memory_owned.proofs.pool_allocator.PoolAllocator+Global.memory_size.Goals as goal
use Rattle.bb_memory_traits.proofs.Cuts.{cut-most}
use Rattle.bb_memory_traits.specs.Chunk.{region_at}
use Rattle.std.proofs.Common.{ap, arith, ◌*◌, ◌/◌, ◌≡◌}

pub returns-clause-enough : goal.returns-clause-enough
returns-clause-enough c = λ start geometry cut.
    let most = cut-most (region_at start c.args.size) c.args.bucket_layout geometry c.requires.filled cut in
    let same : c.args.size / c.size.result ≡ c.args.size / c.args.bucket_layout.size = ap (λ n. c.args.size / n) c.size.ensures in
    omega (arith, most, same)

pub returns-clause-value : goal.returns-clause-value
returns-clause-value c = ap (λ n. 8 * (c.args.size / n)) c.size.ensures
