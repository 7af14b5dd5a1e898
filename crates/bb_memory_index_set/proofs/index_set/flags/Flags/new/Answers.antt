use Rattle.bb_memory_index_set.proofs.NumberFlags.{flags_fresh}
use Rattle.bb_memory_index_set.proofs.Tallies.{left-fresh}
use Rattle.bb_memory_index_set.proofs.index_set.flags.Flags.new.Goals as goal
use Rattle.std.proofs.Common.{arith, false}
use Rattle.std.proofs.lemmas.List.{take-replicate}

pub invariant_of-result : goal.invariant_of-result
invariant_of-result g c =
    let bound = c.args.bound in
    let inv = c.loop-k.invariant in (
      flags_fresh g.row.N bound c.loop-k.free c.requires inv.len (λ j h. inv.named j (omega (arith, h))),
      omega arith,
      left-fresh bound _ (take-replicate bound g.row.N false c.requires),
    )

pub returns : goal.returns
returns g c = grind (arith, take-replicate)
