use Rattle.bb_memory_c_calls.proofs.layout.layouts_of.Goals as goal

pub returns-clause-each : goal.returns-clause-each
returns-clause-each c = λ old new is_old is_new.
    cc (c.in_ok-old.ensures.each old is_old, c.in_ok-new.ensures.each new is_new)
