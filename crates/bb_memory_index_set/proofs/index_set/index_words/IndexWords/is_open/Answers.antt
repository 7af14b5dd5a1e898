use Rattle.bb_memory_index_set.proofs.LowestBits.{lowest_set}
use Rattle.bb_memory_index_set.proofs.index_set.index_words.IndexWords.is_open.Goals as goal
use Rattle.std.proofs.Common.{ap, arith, eq-eqb, get_or, inl, inr, length, sym, take, w64, ℕ, ◌*◌, ◌+◌, ◌-◌, ◌<◌, ◌^◌, ◌∙◌, ◌≡◌}
use Rattle.std.proofs.lemmas.Bool.{cases_eq, false≢true}
use Rattle.std.proofs.lemmas.List.{get_or-take, get_or_default, length-take-le}
use Rattle.std.specs.Int.{trailing_ones}
use Rattle.std.specs.Prelude.{not}

pub returns-clause-clear : goal.returns-clause-clear
returns-clause-clear g c told =
    let items = c.self.inside.slots.items in
    let count = c.self.inside.count in
    let at = c.args.at in
    let word = c.index.result.now in
    let words = take count items in
    let within : at < length words = rw (← c.self.view_is) at c.requires in
    let len : length words ≡ count = length-take-le count items c.self.invariant in
    let inside : at < length items = omega (arith, within, len, c.self.invariant) in
    let read : word ≡ get_or words at 0 =
    c.index.ensures ∙ get_or_default items at word 0 inside ∙ sym (get_or-take count items at 0 (omega (arith, within, len))) in
    let small : word + 1 < 2 ^ 64 = elim (cases_eq word (2 ^ 64 - 1)) [
      | inl full ↦ absurd (false≢true (sym (ap not (eq-eqb word (2 ^ 64 - 1) full)) ∙ told))
      | inr other ↦ omega (arith, other)
    ] in
    let bit : ℕ = trailing_ones w64 word in
    let found = lowest_set words at word within read small in
    (at * 64 + bit, omega (arith, found.0), rw (← c.self.view_is) found.1)
