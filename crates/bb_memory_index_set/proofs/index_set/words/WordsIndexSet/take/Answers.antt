use Rattle.bb_memory_index_set.proofs.LastFreed.{given, less_none}
use Rattle.bb_memory_index_set.proofs.NumberWords.{length-numbers_of}
use Rattle.bb_memory_index_set.proofs.OpenWords.{current_open, current_taken, none_open, of_a_taking, set_filled, set_left}
use Rattle.bb_memory_index_set.proofs.Tallies.{tally-room, tally-taken}
use Rattle.bb_memory_index_set.proofs.index_set.words.WordsIndexSet.take.Goals.{else-left, then-left+else-self-gt0-2, then-left+then-self-gt0-2}
use Rattle.bb_memory_index_set.proofs.index_set.words.WordsIndexSet.take.Goals as goal
use Rattle.bb_memory_index_set.specs.IndexSets.{NumberSet, member_count, numbers_of}
use Rattle.std.proofs.Common.{ap, arith, max, sym, ◌<◌, ◌∙◌}
use Rattle.std.proofs.lemmas.Grind.{elements}

pub returns-then-number-clause-taken : goal.returns-then-number-clause-taken
returns-then-number-clause-taken g c =
    let inside = c.self.inside in
    less_none inside.bound inside.words.words _ (omega arith)
    ∙ (given (numbers_of inside.bound inside.words.words) _ inside.last_freed (ap (λ (s : NumberSet). s.numbers) c.self.view_is)
    (c.self.invariant.1 c.if-number.true)).1

pub returns-then-self-eq0-clause-full : goal.returns-then-self-eq0-clause-full
returns-then-self-eq0-clause-full g c =
    let inside = c.self.inside in
    let view = sym (less_none inside.bound inside.words.words inside.last_freed (omega (arith, c.if-number.false)))
    ∙ ap (λ (s : NumberSet). s.numbers) c.self.view_is in
    rw (← view) (none_open inside.bound inside.words.words _ inside.current inside.open_count c.self.invariant.0
    c.if-self-eq0.true)

pub returns-then-number-clause-most : goal.returns-then-number-clause-most
returns-then-number-clause-most g c = grind (arith, less_none)

pub returns-then-self-eq0-clause-most : goal.returns-then-self-eq0-clause-most
returns-then-self-eq0-clause-most g c = grind (arith, less_none)

pub overflow_add-self : goal.overflow_add-self
overflow_add-self g c =
    let inside = c.self.inside in
    let lacks = (current_taken inside.bound inside.words.words inside.words.listed inside.current inside.open_count _
    c.self.invariant.0
    (omega (arith, c.if-self-eq0.false)) c.word-word.ensures.value (omega (arith, c.word-word.type_inv))).0 in
    omega (
      arith,
      tally-room _ inside.count inside.most _ c.self.invariant.2 lacks,
      length-numbers_of inside.bound inside.words.words,
    )

pub returns-clause-most : goal.returns-clause-most
returns-clause-most g c =
    let inside = c.self.inside in
    let taken = current_taken inside.bound inside.words.words inside.words.listed inside.current inside.open_count _
    c.self.invariant.0
    (omega (arith, c.if-self-eq0.false)) c.word-word.ensures.value (omega (arith, c.word-word.type_inv)) in
    let more = tally-taken _ inside.count inside.most _ c.self.invariant.2 taken.0 in
    let less = less_none inside.bound _ inside.last_freed (omega (arith, c.if-number.false)) in
    let most = ap (λ n. max inside.most n) (more.members ∙ ap member_count (sym (less ∙ taken.2))) in
    elim c.if-left.branch [
      | then-left+then-self-gt0-2 w ↦
          rw (← c.self.view_is, c.put.ensures.words, w.self-inside-is, c.max-self-inside.ensures) most
      | then-left+else-self-gt0-2 w ↦
          rw (← c.self.view_is, c.put.ensures.words, w.self-inside-is, c.max-self-inside.ensures) most
      | else-left w ↦ rw (← c.self.view_is, c.put.ensures.words, w.self-inside-is, c.max-self-inside.ensures) most
    ]

pub put-requires : goal.put-requires
put-requires g c =
    let inside = c.self.inside in
    let within = (current_open inside.words.words inside.words.listed inside.current inside.open_count c.self.invariant.0.listing
    (omega (arith, c.if-self-eq0.false))).0 in
    elim c.if-left.branch [
      | then-left+then-self-gt0-2 w ↦ rw w.self-inside-is within
      | then-left+else-self-gt0-2 w ↦ rw w.self-inside-is within
      | else-left w ↦ rw w.self-inside-is within
    ]

pub overflow_add-result : goal.overflow_add-result
overflow_add-result g c =
    let inside = c.self.inside in
    let within = (current_open inside.words.words inside.words.listed inside.current inside.open_count c.self.invariant.0.listing
    (omega (arith, c.if-self-eq0.false))).0 in
    omega (arith, within, c.self.invariant.0.are.count)

pub invariant_of-self-2 : goal.invariant_of-self-2
invariant_of-self-2 g c =
    let inside = c.self.inside in
    let words = inside.words.words in
    let listed = inside.words.listed in
    let is = c.self.invariant.0 in
    let some : 0 < inside.open_count = omega (arith, c.if-self-eq0.false) in
    let taken = current_taken inside.bound words listed inside.current inside.open_count _ is some c.word-word.ensures.value
    (omega (arith, c.word-word.type_inv)) in
    let are = taken.1 in
    let more = tally-taken _ inside.count inside.most _ c.self.invariant.2 taken.0 in
    let tally = rw (← taken.2, ← c.max-self-inside.ensures) at more in
    elim c.if-left.branch [
      | then-left+then-self-gt0-2 w ↦
          rw (c.put.ensures.words, c.put.ensures.listed, w.self-inside-is) (
            set_filled inside.bound words listed inside.current inside.open_count _ w.listed-self-inside.result is are some
                w.if-left.true (λ more. w.listed-self-inside.ensures),
            λ is. absurd (is c.if-number.false),
            tally,
          )
      | then-left+else-self-gt0-2 w ↦
          rw (c.put.ensures.words, c.put.ensures.listed, w.self-inside-is) (
            set_filled inside.bound words listed inside.current inside.open_count _ inside.current is are some w.if-left.true
                (λ more. absurd (omega (arith, more, w.if-self-gt0-2.false))),
            λ is. absurd (is c.if-number.false),
            tally,
          )
      | else-left w ↦
          rw (c.put.ensures.words, c.put.ensures.listed, w.self-inside-is) (
            set_left inside.bound words listed inside.current inside.open_count _ is are some w.if-left.false,
            λ is. absurd (is c.if-number.false),
            tally,
          )
    ]

pub returns-clause-lacked : goal.returns-clause-lacked
returns-clause-lacked g c =
    let inside = c.self.inside in
    let view = sym (less_none inside.bound inside.words.words inside.last_freed (omega (arith, c.if-number.false)))
    ∙ ap (λ (s : NumberSet). s.numbers) c.self.view_is in
    rw (← view, c.trailing_ones.ensures)
    (current_taken inside.bound inside.words.words inside.words.listed inside.current inside.open_count _ c.self.invariant.0
    (omega (arith, c.if-self-eq0.false)) c.word-word.ensures.value (omega (arith, c.word-word.type_inv))).0

pub returns-clause-taken : goal.returns-clause-taken
returns-clause-taken g c =
    let inside = c.self.inside in
    let view = sym (less_none inside.bound inside.words.words inside.last_freed (omega (arith, c.if-number.false)))
    ∙ ap (λ (s : NumberSet). s.numbers) c.self.view_is in
    let set = (current_taken inside.bound inside.words.words inside.words.listed inside.current inside.open_count _
    c.self.invariant.0
    (omega (arith, c.if-self-eq0.false)) c.word-word.ensures.value (omega (arith, c.word-word.type_inv))).2 in
    let less = less_none inside.bound _ inside.last_freed (omega (arith, c.if-number.false)) in
    elim c.if-left.branch [
      | then-left+then-self-gt0-2 w ↦
          rw (← view, c.trailing_ones.ensures, c.put.ensures.words, w.self-inside-is) (less ∙ set)
      | then-left+else-self-gt0-2 w ↦
          rw (← view, c.trailing_ones.ensures, c.put.ensures.words, w.self-inside-is) (less ∙ set)
      | else-left w ↦ rw (← view, c.trailing_ones.ensures, c.put.ensures.words, w.self-inside-is) (less ∙ set)
    ]

pub returns-then-number-clause-lacked : goal.returns-then-number-clause-lacked
returns-then-number-clause-lacked g c = grind (arith, elements)

pub returns-then-number-clause-counted : goal.returns-then-number-clause-counted
returns-then-number-clause-counted g c = grind (arith, elements)

pub word-requires-clause-index : goal.word-requires-clause-index
word-requires-clause-index g c = grind (arith, of_a_taking)

pub returns-clause-counted : goal.returns-clause-counted
returns-clause-counted g c = grind (arith, of_a_taking)
