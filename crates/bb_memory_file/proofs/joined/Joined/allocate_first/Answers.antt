use Rattle.bb_memory_file.proofs.FileCaches.{cached_less, in_use_apart, last_cached}
use Rattle.bb_memory_file.proofs.FileNotes.{after_popped, within}
use Rattle.bb_memory_file.proofs.joined.Joined.allocate_first.Goals as goal
use Rattle.bb_memory_file.specs.FileNotes.{InUse}
use Rattle.std.proofs.Common.{ap, arith, length}
use Rattle.std.proofs.lemmas.List.{length_push}

pub index_mut-requires : goal.index_mut-requires
index_mut-requires g c =
    within c.self.inside.notes.items c.in-Some.bucket _ _ c.self.inside.notes.ok.0
    (last_cached c.self.inside.notes.items c.self.inside.cached.items c.pop.new.self.items c.in-Some.bucket c.self.invariant.1
    c.in-Some.ensures.items)

pub invariant_of-self : goal.invariant_of-self
invariant_of-self g c =
    let rest = c.pop.new.self.items in
    let last = c.in-Some.bucket in
    let long = length_push rest last in
    let was = last_cached c.self.inside.notes.items c.self.inside.cached.items rest last c.self.invariant.1
    c.in-Some.ensures.items in (
      after_popped _ c.self.inside.notes.items last c.self.invariant.0 was,
      cached_less c.self.inside.notes.items c.self.inside.cached.items rest last InUse c.self.invariant.1 c.in-Some.ensures.items
          in_use_apart,
      omega (arith, ap length c.in-Some.ensures.items),
      omega arith,
      c.self.invariant.4,
      c.self.invariant.5,
    )
