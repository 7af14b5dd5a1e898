use Rattle.bb_memory_c.proofs.FileParties.{allocated-below, allocated-same}
use Rattle.bb_memory_c.proofs.file_party.JoinedFileBucketed.take_first.Goals as goal
use Rattle.bb_memory_c.specs.Files.{JoinedFile}
use Rattle.bb_memory_file.specs.FileNotes.{Allocates}
use Rattle.bb_memory_file.specs.FileParties.{log_of}
use Rattle.bb_memory_traits.specs.PoolObject.{IsWithin}
use Rattle.std.proofs.Common.{Some, ap, arith, rules, subst, sym, ◌<◌, ◌∙◌}

below : (c : goal.After-chunk-arg-1) → c.in_ok-number.number < c.self.inside.places.buckets
below c =
    let long = rw (← c.self.view_is) at c.invariant.ensures.noted in
    let cached = rw (← c.self.view_is) at c.invariant.ensures.cached in
    omega (
      arith,
      c.self.invariant,
      allocated-below c.self.inside.party c.in_ok-number.number c.allocate_first.new.self cached (long ∙ c.self.invariant)
          c.in_ok-number.ensures.taken,
    )

pub chunk-requires-clause-below : goal.chunk-requires-clause-below
chunk-requires-clause-below c = below c

pub invariant_of-self-2 : goal.invariant_of-self-2
invariant_of-self-2 c = c.self.invariant ∙ sym (allocated-same c.self.inside.party (Some c.in_ok-number.number)
    c.allocate_first.new.self c.in_ok-number.ensures.taken)

pub returns-clause-taken : goal.returns-clause-taken
returns-clause-taken c =
    let number = c.in_ok-number.number in
    let room = subst (λ (f : JoinedFile). number < f.places.buckets) c.self.view_is (below c.before) in
    let did = subst (λ (f : JoinedFile). Allocates log_of f.party (Some number) c.allocate_first.new.self) c.self.view_is
    c.in_ok-number.ensures.taken in
    let becomes = ap (λ (f : JoinedFile). record f { party = c.allocate_first.new.self }) c.self.view_is in
    let within : IsWithin c.args.self.now.places.bucket c.args.self.now.places.bucket =
    record { size = omega arith; align = omega arith } in
    (within, (number, room, search rules, (did, becomes)))
