use Rattle.bb_memory_traits.proofs.geometry.Geometry.cut_at_most.Goals as goal
use Rattle.bb_memory_traits.specs.Chunk.{region_at}
use Rattle.bb_memory_traits.specs.PoolObject.{at_most, pool_geometry}
use Rattle.std.proofs.Common.{ap, ◌∙◌}

pub returns : goal.returns
returns c =
    let inside = c.geometry.inside in
    record {
      whole = c.new-geometry.result;
      cut = c.new-geometry.ensures;
      first = ap (λ n. pool_geometry (region_at inside.region_start inside.region_size) inside.bucket n) c.min.ensures
          ∙ ap (at_most c.args.most) c.geometry.view_is;
    }
