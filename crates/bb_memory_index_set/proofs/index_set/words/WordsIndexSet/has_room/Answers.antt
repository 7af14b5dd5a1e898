use Rattle.bb_memory_index_set.proofs.LastFreed.{last_freed_lacks, less_none}
use Rattle.bb_memory_index_set.proofs.NumberSets.{full_lacks_none}
use Rattle.bb_memory_index_set.proofs.NumberWords.{lacks}
use Rattle.bb_memory_index_set.proofs.OpenWords.{current_open, none_open}
use Rattle.bb_memory_index_set.proofs.index_set.words.WordsIndexSet.has_room.Goals as goal
use Rattle.bb_memory_index_set.specs.IndexSets.{NumberSet, numbers_of}
use Rattle.std.proofs.Common.{ap, arith, inl, inr, length, sym, ◌/◌, ◌<◌, ◌∙◌}
use Rattle.std.proofs.lemmas.Bool.{cases_Bool, lt-ltb, ltb-true}

pub returns-then-self : goal.returns-then-self
returns-then-self g c =
    let inside = c.self.inside in
    let has = c.self.invariant.1 (omega (arith, c.if-self.true)) in (
      λ told. (
        inside.last_freed,
        rw (← c.self.view_is)
            (last_freed_lacks (numbers_of inside.bound inside.words.words) inside.last_freed has),
      ),
      λ free. lt-ltb inside.last_freed inside.bound c.if-self.true,
    )

pub returns-then-self-gt0 : goal.returns-then-self-gt0
returns-then-self-gt0 g c =
    let inside = c.self.inside in
    let words = inside.words.words in
    let view = sym (less_none inside.bound inside.words.words inside.last_freed (omega (arith, c.if-self.false)))
    ∙ ap (λ (s : NumberSet). s.numbers) c.self.view_is in
    let is = c.self.invariant.0 in
    let current = current_open words inside.words.listed inside.current inside.open_count is.listing c.if-self-gt0.true in (
      λ told.
          let found = c.is_open.ensures.clear told in
          let at : found.0 / 64 < length words = omega (arith, found.1, current.0) in
          (found.0, rw (← view) (lacks inside.bound words found.0 is.are at found.2).1),
      λ free. elim (cases_Bool c.is_open.result) [
        | inl some ↦ some
        | inr none ↦ absurd (current.1 (c.is_open.ensures.full none))
      ],
    )

pub returns-else-self-gt0 : goal.returns-else-self-gt0
returns-else-self-gt0 g c =
    let inside = c.self.inside in
    let view = sym (less_none inside.bound inside.words.words inside.last_freed (omega (arith, c.if-self.false)))
    ∙ ap (λ (s : NumberSet). s.numbers) c.self.view_is in (
      λ told. absurd (omega (arith, ltb-true 0 inside.open_count told, c.if-self-gt0.false)),
      λ free. absurd (full_lacks_none c.args.self.now.numbers free.0 (rw (← view) (none_open inside.bound inside.words.words _
          inside.current inside.open_count c.self.invariant.0 (omega (arith, c.if-self-gt0.false)))) free.1),
    )
