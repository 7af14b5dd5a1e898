use Rattle.bb_memory_c.proofs.FileParties.{allocated-below, allocated-same, buckets_of}
use Rattle.bb_memory_c.proofs.file_party.JoinedFileGivesSharedPoolInfo.give.Goals as goal
use Rattle.bb_memory_c.specs.Files.{JoinedFile}
use Rattle.bb_memory_file.specs.FileNotes.{Allocates}
use Rattle.bb_memory_file.specs.FileParties.{log_of}
use Rattle.bb_memory_traits.specs.PoolObject.{IsWithin}
use Rattle.std.proofs.Common.{Some, ap, arith, length, rules, subst, sym, ◌<◌, ◌∙◌, ◌≡◌}

pub invariant_of-self : goal.invariant_of-self
invariant_of-self c = c.self.invariant
    ∙ sym (allocated-same c.self.inside.party c.allocate.result c.allocate.new.self c.allocate.ensures)

pub chunk-requires-clause-below : goal.chunk-requires-clause-below
chunk-requires-clause-below c =
    let long = rw (← c.self.view_is) at c.invariant.ensures.noted in
    let cached = rw (← c.self.view_is) at c.invariant.ensures.cached in
    omega (
      arith,
      c.self.invariant,
      allocated-below c.self.inside.party c.in-Some.number c.allocate.new.self cached
          (long ∙ c.self.invariant) c.in-Some.ensures,
    )

pub invariant_of-self-2 : goal.invariant_of-self-2
invariant_of-self-2 c = c.self.invariant
    ∙ sym (allocated-same c.self.inside.party c.allocate.result c.allocate.new.self c.allocate.ensures)

pub returns : goal.returns
returns c =
    let number = c.in-Some.number in
    let did = subst (λ (f : JoinedFile). Allocates log_of f.party (Some number) c.allocate.new.self) c.self.view_is
    c.in-Some.ensures in
    let file_has = ap (λ (f : JoinedFile). buckets_of f.party) c.self.view_is in
    let process_has = ap (λ (f : JoinedFile). f.places.buckets) c.self.view_is in
    let long = c.invariant.ensures.noted in
    let same : length c.args.self.now.party.notes ≡ buckets_of c.args.self.now.party = omega (arith, long, file_has, process_has, c.self.invariant) in
    let room : number < c.args.self.now.places.buckets = omega (
      arith,
      file_has,
      process_has,
      c.self.invariant,
      allocated-below c.args.self.now.party number c.allocate.new.self c.invariant.ensures.cached same did,
    ) in
    let becomes = ap (λ (f : JoinedFile). record f { party = c.allocate.new.self }) c.self.view_is in
    let within = subst (λ (f : JoinedFile). IsWithin f.places.bucket c.args.layout) c.self.view_is c.in_ok-admit.ensures in
    (within, (number, room, search rules, (did, becomes)))
