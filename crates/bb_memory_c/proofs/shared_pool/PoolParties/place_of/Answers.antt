use Rattle.bb_memory_c.proofs.Numbers.{none-at-all, none-more, other-number}
use Rattle.bb_memory_c.proofs.shared_pool.PoolParties.place_of.Goals as goal
use Rattle.bb_memory_c.specs.SharedPools.{PoolParties}
use Rattle.std.proofs.Common.{Some, ap, arith, length, slice_get, sym, ◌∙◌, ◌≢◌}
use Rattle.std.proofs.lemmas.Option.{slice_get-get_or}

pub returns-then-number-clause-there : goal.returns-then-number-clause-there
returns-then-number-clause-there c =
    let parties = c.self.inside.parties.items in
    let there = slice_get-get_or parties c.loop-at.at c.index.result.now (omega (arith, c.len-at-end.ensures)) in
    let list = ap (λ (p : PoolParties). slice_get p.parties c.loop-at.at) (sym c.self.view_is) in
    (c.index.result.now, list ∙ there ∙ ap Some (sym c.index.ensures), sym c.number.ensures.value ∙ c.if-number.true)

pub loop-at-preserved : goal.loop-at-preserved
loop-at-preserved c =
    let parties = c.self.inside.parties.items in
    let there = slice_get-get_or parties c.loop-at.at c.index.result.now (omega (arith, c.len-at-end.ensures)) in
    let list = ap (λ (p : PoolParties). slice_get p.parties c.loop-at.at) (sym c.self.view_is) in
    let apart : c.index.result.now.number ≢ c.args.number = λ same. c.if-number.false (c.number.ensures.value ∙ same) in
    none-more c.args.self.now.parties c.loop-at.at c.args.number c.loop-at.invariant
    (other-number c.args.self.now.parties c.loop-at.at c.args.number c.index.result.now
    (list ∙ there ∙ ap Some (sym c.index.ensures)) apart)

pub returns-clause-none : goal.returns-clause-none
returns-clause-none c =
    let long = ap (λ (p : PoolParties). length p.parties) c.self.view_is in
    none-at-all c.args.self.now c.loop-at.at c.args.number
    (omega (arith, long, c.len-at-end.ensures, c.loop-at-test.false, c.loop-at.auto.at-end)) c.loop-at.invariant
