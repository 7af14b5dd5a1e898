use Rattle.bb_memory_traits.proofs.LeastPlaces.{least_place-is, least_place-unique}
use Rattle.bb_memory_traits.proofs.layout.least_place_law.Goals as goal

pub returns-clause-is_least : goal.returns-clause-is_least
returns-clause-is_least c = least_place-is

pub returns-clause-one : goal.returns-clause-one
returns-clause-one c = least_place-unique
