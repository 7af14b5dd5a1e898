use Rattle.bb_memory_c.proofs.InUse.{flag-tells-in-use, tells-in-use}
use Rattle.bb_memory_c.proofs.shared_pool.end_use.Goals as goal
use Rattle.std.proofs.Common.{sym, ◌∙◌}

pub returns-in-Some-clause-value : goal.returns-in-Some-clause-value
returns-in-Some-clause-value c =
    tells-in-use c.args.party.now c.args.in_use.now.items c.args.number c.in-Some.was_in_use c.requires.listed
    (sym c.clear.ensures.was ∙ c.in-Some.is)

pub returns-in-None-clause-value : goal.returns-in-None-clause-value
returns-in-None-clause-value c =
    flag-tells-in-use c.args.party.now c.args.in_use.now.items c.args.number c.is_held.result c.requires.few c.requires.listed
    c.requires.below (sym c.clear.ensures.was ∙ c.in-None.is) c.is_held.ensures.value
