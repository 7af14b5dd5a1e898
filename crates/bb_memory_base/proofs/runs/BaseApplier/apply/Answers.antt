use Rattle.bb_memory_base.proofs.runs.BaseApplier.apply.Goals as goal
use Rattle.std.proofs.Common.{arith}
use Rattle.std.proofs.lemmas.Grind.{elements}

pub deallocate-requires : goal.deallocate-requires
deallocate-requires g c = grind (arith, elements)

pub returns-after-RELEASE_EMPTIES : goal.returns-after-RELEASE_EMPTIES
returns-after-RELEASE_EMPTIES g c = record {
  step = (
    grind arith,
    rw c.in-Release.is
        (c.in-Some.chunk, c.empty.result, grind (arith, elements), rw c.place.ensures.value at c.deallocate.ensures.value),
  );
  fits = grind arith;
  stands = grind (arith, elements);
  geometry = grind arith;
  note = grind arith;
  len = grind arith;
  capacity = grind arith;
}
