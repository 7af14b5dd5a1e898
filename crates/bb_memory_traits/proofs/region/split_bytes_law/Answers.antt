use Rattle.bb_memory_traits.proofs.ApartBytes.{split-bytes}
use Rattle.bb_memory_traits.proofs.region.split_bytes_law.Goals as goal

pub returns : goal.returns
returns c = split-bytes
