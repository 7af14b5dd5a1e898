use Rattle.bb_memory_bump.proofs.SharedBumpMerges.{agrees, floors_below}
use Rattle.bb_memory_bump.proofs.shared_bump.SharedBumpAllocator.into_owner_all.Goals as goal
use Rattle.bb_memory_bump.specs.SharedBump.{BumpParty}
use Rattle.bb_memory_bump.specs.SharedBumpRule.{AfterMeetingLoad, met_by, numbered_of}
use Rattle.bb_memory_bump_machine.proofs.OwnChunks.{agreed_stands}
use Rattle.std.proofs.Common.{[], arith, rules, subst, sym, ◌++◌, ◌∷◌, ◌≡◌, ◌≤◌}
use Rattle.std.proofs.lemmas.Grind.{common_steps, elements}
use Rattle.std.proofs.lemmas.List.Elements.{All-push, All-weaker}
use Rattle.std.specs.Prelude.{All, map}

-- all parties have come to the last one's seat
told : (c : goal.After-drop-self-inside) → AfterMeetingLoad c.args.self.scene (map numbered_of c.args.parties.items)
    (met_by c.merge_rest.new.seat.me.0) c.at_position.result.used
told c = grind (arith, common_steps)

pub returns-clause-agree : goal.returns-clause-agree
returns-clause-agree c = agrees c.args.self c.args.parties.items (met_by c.merge_rest.new.seat.me.0) c.at_position.result.used
    c.requires.parties (told c) (search rules)

pub returns-clause-exact : goal.returns-clause-exact
returns-clause-exact c = ((returns-clause-agree c).whole c.requires.all).1

pub returns-clause-floor : goal.returns-clause-floor
returns-clause-floor c =
    let used = c.at_position.result.used in
    let rest = c.pop.new.self.items in
    let Below : BumpParty → Type 0 = λ party. party.met ≤ used in
    let above = (told c).above in
    let met : c.unwrap-party.result.met ≤ met_by c.merge_rest.new.seat.me.0 = search rules in
    let risen = All-weaker (λ (p : BumpParty). p.met ≤ met_by c.merge_rest.new.seat.me.0) Below
    (λ p below. omega (arith, below, above)) rest c.merge_rest.ensures.risen in
    let all : c.args.parties.items ≡ rest ++ c.unwrap-party.result ∷ [] = search rules in
    floors_below c.args.self c.args.parties.items (met_by c.merge_rest.new.seat.me.0) used c.requires.parties (told c)
    (subst (All Below) (sym all) (All-push Below rest c.unwrap-party.result risen (omega (arith, above, met))))

pub returns-clause-stands : goal.returns-clause-stands
returns-clause-stands c = λ live opens all.
    agreed_stands c.args.self.scene c.at_position.result.used all.logs live opens all.agree

pub merge_rest-requires-clause-rest : goal.merge_rest-requires-clause-rest
merge_rest-requires-clause-rest c = grind (arith, elements)
