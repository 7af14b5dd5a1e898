use Rattle.bb_memory_index_set.proofs.LastFreed.{less_none}
use Rattle.bb_memory_index_set.proofs.Tallies.{member_count-released, tally-some}
use Rattle.bb_memory_index_set.proofs.index_set.words.WordsIndexSet.len.Goals as goal
use Rattle.std.proofs.Common.{arith}

pub overflow_sub-result : goal.overflow_sub-result
overflow_sub-result g c =
    let inside = c.self.inside in
    let has = c.self.invariant.1 (omega (arith, c.if-self.true)) in
    tally-some _ inside.count inside.most inside.last_freed c.self.invariant.2 has

pub returns-then-self : goal.returns-then-self
returns-then-self g c = grind (arith, member_count-released)

pub returns-else-self : goal.returns-else-self
returns-else-self g c = grind (arith, less_none)
