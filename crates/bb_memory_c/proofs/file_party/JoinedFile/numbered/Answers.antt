use Rattle.bb_memory_c.proofs.FileParties.{holds-none, none-so}
use Rattle.bb_memory_c.proofs.file_party.JoinedFile.numbered.Goals as goal
use Rattle.bb_memory_c.specs.Files.{JoinedFile}
use Rattle.bb_memory_traits.specs.Geometry.{IsPlaceOfBucket}
use Rattle.std.proofs.Common.{subst}

pub returns-clause-none : goal.returns-clause-none
returns-clause-none c = none-so c.number_at.result _ _ (λ away. holds-none c.args.self.now c.args.place c.invariant.ensures.noted
    (subst (λ (f : JoinedFile). ¬ IsPlaceOfBucket f.places c.args.place) c.self.view_is away)) c.number_at.ensures.none
