use Rattle.atomic_table.specs.Table.{Me}
use Rattle.bb_memory_bump.proofs.SharedBumpMerges.{after_load, of_same_numbers, parties_met, stands_for, told_above}
use Rattle.bb_memory_bump.proofs.shared_bump.SharedBumpAllocator.meet_rest.Goals as goal
use Rattle.bb_memory_bump.specs.SharedBump.{BumpParty, SharedBump}
use Rattle.bb_memory_bump.specs.SharedBumpRule.{AfterMeetingLoad, HasMet, NumberedLog, SeatView, StandsAt, met_by, met_of, numbered_of, scene_of, sight}
use Rattle.bb_memory_seats.specs.Seats.{standing_for}
use Rattle.std.proofs.Common.{All, List, [], ap, arith, map, subst, sym, ℕ, ◌++◌, ◌∙◌, ◌≤◌}
use Rattle.std.proofs.lemmas.Grind.{common_steps}
use Rattle.std.proofs.lemmas.List.Elements.{All-weaker}

pub load_for_meeting-found-requires : goal.load_for_meeting-found-requires
load_for_meeting-found-requires c =
    let seat = c.gather.new.seat in
    subst (λ (b : SharedBump). StandsAt b seat.table_id seat.me) (sym c.self.view_is) record {
      table = c.gather.ensures.table ∙ c.requires.seat.table;
      seat = stands_for c.args.self.now.scene seat.me c.gather.ensures.seat;
    }

pub part-requires-clause-seat : goal.part-requires-clause-seat
part-requires-clause-seat c =
    let after = after_load c.args.self.now.scene c.load_for_meeting-found.result c.gather.new.seat.me
    c.load_for_meeting-found.new.seat.me c.gather.ensures.seat c.load_for_meeting-found.ensures.seat in
    record {
      table = c.load_for_meeting-found.ensures.table ∙ c.gather.ensures.table ∙ c.requires.seat.table;
      seat = stands_for c.args.self.now.scene c.load_for_meeting-found.new.seat.me after;
    }

pub part-requires-clause-first : goal.part-requires-clause-first
part-requires-clause-first c =
    let after = after_load c.args.self.now.scene c.load_for_meeting-found.result c.gather.new.seat.me
    c.load_for_meeting-found.new.seat.me c.gather.ensures.seat c.load_for_meeting-found.ensures.seat in
    let behind = c.args.seat.now.me.0.parties in
    (behind, ap (λ (m : Me ℕ SeatView). m.0.parties) after ∙ λ i. sym c.gather.ensures.parties i ++ behind)

pub part-requires-clause-met : goal.part-requires-clause-met
part-requires-clause-met c =
    let after = after_load c.args.self.now.scene c.load_for_meeting-found.result c.gather.new.seat.me
    c.load_for_meeting-found.new.seat.me c.gather.ensures.seat c.load_for_meeting-found.ensures.seat in
    let scene = c.args.self.now.scene in
    let found = c.load_for_meeting-found.result in
    let met = met_by c.gather.new.seat.me.0 in
    let items = c.gather.new.rest.items in
    let behind = c.args.seat.now.me.0.parties in
    let all = ap (λ (m : Me ℕ SeatView). m.0.parties) c.gather.ensures.seat ∙ λ i. sym c.gather.ensures.parties i ++ behind in
    subst (λ (most : ℕ). All (λ party. HasMet scene most (numbered_of party)) items)
    (sym (ap (λ (m : Me ℕ SeatView). met_by m.0) after))
    (parties_met scene met found behind items
    (subst (λ (l : List NumberedLog). AfterMeetingLoad scene l met found) all (rw c.self.view_is at c.load_for_meeting-found.ensures.step)))

pub returns : goal.returns
returns c =
    let after = after_load c.args.self.now.scene c.load_for_meeting-found.result c.gather.new.seat.me
    c.load_for_meeting-found.new.seat.me c.gather.ensures.seat c.load_for_meeting-found.ensures.seat in
    let bump = c.args.self.now in
    let scene = bump.scene in
    let found = c.load_for_meeting-found.result in
    let met = met_by c.gather.new.seat.me.0 in
    let old = c.args.rest.now.items in
    let behind = c.args.seat.now.me.0.parties in
    let is_found = ap (λ (m : Me ℕ SeatView). met_by m.0) after in
    let first = ap (λ (m : Me ℕ SeatView). m.0.parties) after ∙ λ i. sym c.gather.ensures.parties i ++ behind in
    let told = subst (λ (l : List NumberedLog). AfterMeetingLoad scene l met found)
    (ap (λ (m : Me ℕ SeatView). m.0.parties) c.gather.ensures.seat) (rw c.self.view_is at c.load_for_meeting-found.ensures.step) in
    record {
      table = c.part.ensures.table ∙ c.load_for_meeting-found.ensures.table ∙ c.gather.ensures.table;
      seat = c.part.ensures.seat behind first
          ∙ λ i. (standing_for (sight (sym (ap (λ (m : Me ℕ SeatView). scene_of m.0) c.requires.seat.seat) i) (is_found i)) behind, []);
      step = told_above scene (map numbered_of old ++ behind) (met_by c.args.seat.now.me.0) met found c.gather.ensures.met told;
      rest = record {
        items = c.part.ensures.parties.items
            ∙ ap (λ (most : ℕ). map (met_of bump most) (map numbered_of c.gather.new.rest.items)) is_found
            ∙ of_same_numbers bump found old c.gather.new.rest.items c.requires.rest c.gather.ensures.parties;
        len = grind (arith, common_steps);
        capacity = grind (arith, common_steps);
      };
      risen = All-weaker (λ (p : BumpParty). p.met ≤ met) (λ p. p.met ≤ found) (λ p up. omega (arith, up, told.above)) old
          c.gather.ensures.risen;
    }
