use Rattle.bb_memory_index_set.proofs.NumberWords.{cleared, cleared_is_open}
use Rattle.bb_memory_index_set.proofs.index_set.index_words.IndexWords.clear.Goals as goal
use Rattle.std.proofs.Common.{arith, get_or, get_or-set_same, length, sym, take, ◌/◌, ◌<◌, ◌∙◌, ◌≡◌}
use Rattle.std.proofs.Math.Seq.{take-set-lt}
use Rattle.std.proofs.lemmas.Grind.{common_steps, elements}
use Rattle.std.proofs.lemmas.List.{get_or-take, get_or_default, length-take-le}

pub returns-clause-bit : goal.returns-clause-bit
returns-clause-bit g c =
    let items = c.self.inside.slots.items in
    let count = c.self.inside.count in
    let number = c.args.number in
    let within = rw (← c.self.view_is) at c.requires in
    let len : length (take count items) ≡ count = length-take-le count items c.self.invariant in
    let low : number / 64 < count = omega (arith, within, len) in
    let inside : number / 64 < length items = omega (arith, low, c.self.invariant) in
    let read : c.index-word.result.now ≡ get_or (take count items) (number / 64) 0 =
    c.index-word.ensures ∙ get_or_default items (number / 64) c.index-word.result.now 0 inside
    ∙ sym (get_or-take count items (number / 64) 0 low) in
    rw (← c.self.view_is, read, take-set-lt) (cleared (take count items) number within)

pub returns-clause-others : goal.returns-clause-others
returns-clause-others g c = grind (arith, common_steps)

pub returns-clause-not_full : goal.returns-clause-not_full
returns-clause-not_full g c = grind (arith, length-take-le, take-set-lt, cleared_is_open, get_or-set_same)

pub returns-clause-was_full : goal.returns-clause-was_full
returns-clause-was_full g c = grind (arith, elements)

pub returns-clause-was_open : goal.returns-clause-was_open
returns-clause-was_open g c = grind (arith, elements)

pub returns-clause-listed : goal.returns-clause-listed
returns-clause-listed g c = grind (arith, elements)
