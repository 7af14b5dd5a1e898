-- Lemmas of std under one name, for the attribute `using`, which takes no name with a dash.
use Rattle.std.proofs.Math.Seq.{map-set_same, set-append_seam}
use Rattle.std.proofs.lemmas.List.{drop-map, map-append, map-set, take-map}
use Rattle.std.proofs.lemmas.Option.{slice_get-map}

-- results about appending to lists, changing, cutting and mapping them
pub ruleset parts_of_lists = (
  map-append,
  map-set,
  take-map,
  drop-map,
  map-set_same,
  slice_get-map,
  set-append_seam,
)
