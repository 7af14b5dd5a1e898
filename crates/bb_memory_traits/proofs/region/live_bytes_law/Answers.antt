use Rattle.bb_memory_traits.proofs.LiveBytes.{apart_at, contents_set, inside_at, others_kept}
use Rattle.bb_memory_traits.proofs.region.live_bytes_law.Goals as goal
use Rattle.bb_memory_traits.specs.HeldBytes.{held_region}

pub returns : goal.returns
returns c = record {
  inside = λ held. inside_at (held_region held);
  apart = λ held. apart_at (held_region held);
  others = others_kept;
  contents = contents_set;
}
