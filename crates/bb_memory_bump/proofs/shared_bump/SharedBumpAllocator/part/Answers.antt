use Rattle.atomic_table.specs.Table.{Me}
use Rattle.bb_memory_bump.proofs.SharedBumpMerges.{stands_for}
use Rattle.bb_memory_bump.proofs.shared_bump.SharedBumpAllocator.part.Goals as goal
use Rattle.bb_memory_bump.specs.SharedBump.{BumpParty}
use Rattle.bb_memory_bump.specs.SharedBumpRule.{HasMet, SeatView, met_by, met_of, numbered_of, sight}
use Rattle.bb_memory_seats.proofs.ListParts.{first_as_it_was, one_and_rest}
use Rattle.bb_memory_seats.specs.Seats.{standing_for, tail_of}
use Rattle.std.proofs.Common.{List, [], ap, arith, drop, length, map, refl, rules, subst, sym, take, ℕ, ◌++◌, ◌+◌, ◌<◌, ◌∙◌, ◌∷◌, ◌≡◌}
use Rattle.std.proofs.lemmas.Grind.{common_steps}
use Rattle.std.proofs.lemmas.List.{drop-drop, drop-set-lt, map-append, map_more, take_more_set}
use Rattle.std.proofs.lemmas.List.Elements.{All-get_or}

pub go_back-requires-clause-seat : goal.go_back-requires-clause-seat
go_back-requires-clause-seat c =
    let before = c.loop-at.invariant in
    let first = c.requires.first in
    record {
      table = before.table ∙ c.requires.seat.table;
      seat = stands_for c.args.self.now.scene c.loop-at.seat.me (before.seat first.0 first.1);
    }

pub go_back-requires-clause-first : goal.go_back-requires-clause-first
go_back-requires-clause-first c =
    let old = c.args.rest.now.items in
    let at = c.loop-at.at in
    let party = c.index_mut.result.now in
    let before = c.loop-at.invariant in
    let first = c.requires.first in
    let within : at < length old = grind (arith, common_steps) in
    let there = sym (first_as_it_was c.loop-at.rest.items old at party before.others) ∙ sym c.index_mut.ensures.value in
    let parties = ap (λ (m : Me ℕ SeatView). m.0.parties) (before.seat first.0 first.1)
    ∙ ap (λ (all : List BumpParty). map numbered_of all ++ first.0) (one_and_rest old at (at + 1) party refl within there) in
    parties ∙ λ i. numbered_of party ∷ tail_of (sym parties i)

pub go_back-requires-clause-scene : goal.go_back-requires-clause-scene
go_back-requires-clause-scene c =
    let scene = c.args.self.now.scene in
    let old = c.args.rest.now.items in
    let at = c.loop-at.at in
    let party = c.index_mut.result.now in
    let within : at < length old = grind (arith, common_steps) in
    let there = sym (first_as_it_was c.loop-at.rest.items old at party c.loop-at.invariant.others)
    ∙ sym c.index_mut.ensures.value in
    subst (λ (p : BumpParty). p.allocator.scene ≡ scene) there
    (All-get_or (λ (p : BumpParty). p.allocator.scene ≡ scene) old at party within c.requires.scene)

pub go_back-requires-clause-met : goal.go_back-requires-clause-met
go_back-requires-clause-met c =
    let scene = c.args.self.now.scene in
    let old = c.args.rest.now.items in
    let at = c.loop-at.at in
    let party = c.index_mut.result.now in
    let before = c.loop-at.invariant in
    let found = met_by c.args.seat.now.me.0 in
    let first = c.requires.first in
    let within : at < length old = grind (arith, common_steps) in
    let there = sym (first_as_it_was c.loop-at.rest.items old at party before.others) ∙ sym c.index_mut.ensures.value in
    let same = ap (λ (m : Me ℕ SeatView). met_by m.0) (before.seat first.0 first.1) in
    subst (λ (most : ℕ). HasMet scene most (numbered_of party)) (sym same)
    (subst (λ (p : BumpParty). HasMet scene found (numbered_of p)) there
    (All-get_or (λ (p : BumpParty). HasMet scene found (numbered_of p)) old at party within c.requires.met))

pub loop-at-preserved : goal.loop-at-preserved
loop-at-preserved c =
    let bump = c.args.self.now in
    let scene = bump.scene in
    let old = c.args.rest.now.items in
    let now = c.loop-at.rest.items in
    let before = c.loop-at.invariant in
    let at = c.loop-at.at in
    let party = c.index_mut.result.now in
    let back = c.go_back.new.party in
    let found = met_by c.args.seat.now.me.0 in
    let first = c.requires.first in
    let within : at < length old = grind (arith, common_steps) in
    let here : at < length now = grind (arith, common_steps) in
    let there = sym (first_as_it_was now old at party before.others) ∙ sym c.index_mut.ensures.value in
    let same = ap (λ (m : Me ℕ SeatView). met_by m.0) (before.seat first.0 first.1) in
    let is_back = c.go_back.ensures.party ∙ ap (λ (most : ℕ). met_of bump most (numbered_of party)) same in
    record {
      table = search rules;
      seat = λ others is.
          c.go_back.ensures.seat
          ∙ ap (λ (m : Me ℕ SeatView). (standing_for (sight scene (met_by m.0)) (tail_of m.0.parties), [])) (before.seat others is)
          ∙ ap (λ (all : List BumpParty). (standing_for (sight scene found) (tail_of (map numbered_of all ++ others)), []))
          (one_and_rest old at (at + 1) party refl within there);
      back = take_more_set now at back here ∙ (λ i. before.back i ++ is_back i ∷ [])
          ∙ sym (ap (map (met_of bump found)) (map_more numbered_of old at party within
          ∙ λ i. map numbered_of (take at old) ++ numbered_of (there i) ∷ [])
          ∙ map-append (met_of bump found) (map numbered_of (take at old)) (numbered_of party ∷ []));
      others = drop-set-lt (at + 1) now at back (omega arith) ∙ sym (drop-drop 1 at now)
          ∙ ap (λ (l : List BumpParty). drop 1 l) before.others ∙ drop-drop 1 at old;
      len = grind (arith, common_steps);
      capacity = grind (arith, common_steps);
    }
