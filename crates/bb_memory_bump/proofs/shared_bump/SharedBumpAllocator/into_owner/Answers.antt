use Rattle.bb_memory_bump.proofs.SharedBumpClosings.{AfterLast, last_of}
use Rattle.bb_memory_bump.proofs.shared_bump.SharedBumpAllocator.into_owner.Goals as goal
use Rattle.bb_memory_bump_machine.specs.BumpLogs.{seen_in}
use Rattle.std.proofs.Common.{ap, arith, subst, sym, ◌∙◌}

last : (c : goal.After-drop-self-inside) →
    AfterLast c.args.self.scene c.args.party.number c.args.party.log c.args.party.met c.at_position.result.used
last c =
    let found = last_of c.party.inside.seat.table_id c.self.inside.position.scene c.args.self.scene c.party.inside.number
    c.party.inside.seat.me c.args.party c.close-used.result c.party.invariant c.party.view_is
    (ap (λ b. b.scene) c.self.view_is) c.close-used.ensures.last in
    subst (AfterLast c.args.self.scene c.args.party.number c.args.party.log c.args.party.met)
    (sym (ap (λ b. b.used) c.at_position.ensures)) found

pub returns-clause-seen : goal.returns-clause-seen
returns-clause-seen c =
    let same = ap (λ b. seen_in b.scene c.args.party.log) c.requires.party in omega (arith, (last c).seen, same)

pub returns-clause-floor : goal.returns-clause-floor
returns-clause-floor c =
    let same = ap (λ b. seen_in b.scene c.args.party.log) c.requires.party in
    omega (arith, (last c).seen, (last c).above, same)

pub returns-clause-exact : goal.returns-clause-exact
returns-clause-exact c = λ one.
    (last c).exact one ∙ sym (ap (λ b. seen_in b.scene c.args.party.log) c.requires.party)

pub returns-clause-behind : goal.returns-clause-behind
returns-clause-behind c = (last c).chunks
