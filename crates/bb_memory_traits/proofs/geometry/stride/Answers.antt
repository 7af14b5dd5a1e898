use Rattle.bb_memory_traits.proofs.Cuts.{some-if, stride-small}
use Rattle.bb_memory_traits.proofs.geometry.stride.Goals as goal
use Rattle.bb_memory_traits.specs.LeastPlace.{least_place}
use Rattle.std.proofs.Common.{arith, ◌<◌, ◌^◌, ◌≡◌}

pub unwrap-requires : goal.unwrap-requires
unwrap-requires c =
    let same : least_place c.size.result c.align.result ≡ least_place c.args.bucket_layout.size c.args.bucket_layout.align = cc in
    let small : least_place c.size.result c.align.result < 2 ^ 64 = omega (arith, same, stride-small c.args.bucket_layout) in
    some-if c.round_up.result _ _ c.round_up.ensures.value small
