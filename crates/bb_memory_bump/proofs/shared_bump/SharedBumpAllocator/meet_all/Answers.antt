use Rattle.bb_memory_bump.proofs.SharedBumpMerges.{all_merged, have_met, met_seat, none_met}
use Rattle.bb_memory_bump.proofs.SharedBumpWholes.{met_apart}
use Rattle.bb_memory_bump.proofs.shared_bump.SharedBumpAllocator.meet_all.Goals as goal
use Rattle.bb_memory_bump.specs.SharedBump.{BumpParty, IsSharedScene, meeting_at}
use Rattle.bb_memory_bump.specs.SharedBumpRule.{AfterMeetingLoad, met_by, numbered_of, party_in, scene_of, sight}
use Rattle.bb_memory_seats.specs.Seats.{alone, view_log}
use Rattle.std.proofs.Common.{[], ap, arith, rules, subst, sym, ◌++◌, ◌∙◌, ◌∷◌, ◌≡◌, ◌≤◌}
use Rattle.std.proofs.lemmas.List.{map-append}
use Rattle.std.proofs.lemmas.List.Elements.{All-map, All-push}
use Rattle.std.specs.Prelude.{All, map}

pub invariant_of-push_reserved : goal.invariant_of-push_reserved
invariant_of-push_reserved c =
    let scene = c.args.self.now.scene in
    let me = c.party.inside.seat.me in
    let found = c.meet_rest.result in
    let first = map numbered_of c.pop.new.self.items in
    let told : AfterMeetingLoad scene (first ++ (me.0.parties ++ [])) (met_by me.0) found = search rules in
    let same : scene_of me.0 ≡ scene = search rules in
    let back : c.meet_rest.new.seat.me ≡ (alone (sight scene found) c.party.inside.number (view_log me.0), []) = search rules in
    met_seat scene c.party.inside.number (met_by me.0) found first [] me c.meet_rest.new.seat.me c.party.invariant same told back

pub returns-in-Some : goal.returns-in-Some
returns-in-Some c =
    let bump = c.args.self.now in
    let items = c.args.parties.now.items in
    let rest = c.pop.new.self.items in
    let party = c.in-Some.party in
    let found = c.meet_rest.result in
    let is = c.in-Some.ensures.items in
    let met : met_by c.party.inside.seat.me.0 ≡ party.met = search rules in
    let all = all_merged _ _ _ _ _ rest c.party.invariant c.party.view_is is in
    let told : AfterMeetingLoad bump.scene (map numbered_of items) (met_by c.party.inside.seat.me.0) found = search rules in
    let shared : IsSharedScene bump.scene = search rules in
    let value = party_in c.meet_rest.new.seat.table_id c.party.inside.number c.meet_rest.new.seat.me.0 in
    let back : value ≡ meeting_at found party = search rules in
    let Below : BumpParty → Type 0 = λ party. party.met ≤ found in
    let have = have_met bump items (met_by c.party.inside.seat.me.0) found c.requires.parties told c.push_reserved.new.self.items
    shared (subst (All Below) (sym is) (All-push Below rest party c.meet_rest.ensures.risen (omega (arith, told.above, met))))
    (c.push_reserved.ensures.items ∙ (λ i. c.meet_rest.ensures.rest.items i ++ back i ∷ [])
    ∙ sym (map-append (meeting_at found) rest (party ∷ [])) ∙ ap (map (meeting_at found)) (sym is)) in
    record {
      met = have;
      apart = λ i j one other at at_other apart.
          met_apart bump.scene have.position items have.agree i j one other shared at at_other apart;
      parties = subst (All (λ (p : BumpParty). p.allocator ≡ bump)) (sym have.kept)
          (All-map (λ (p : BumpParty). p.allocator ≡ bump) (meeting_at have.position) items c.requires.parties);
    }

pub returns-in_default-clause-met : goal.returns-in_default-clause-met
returns-in_default-clause-met c = grind (arith, none_met)
