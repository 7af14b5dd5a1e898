use Rattle.atomic_table.specs.Table.{Me}
use Rattle.bb_memory_bump.proofs.shared_bump.SharedBumpAllocator.gather.Goals as goal
use Rattle.bb_memory_bump.specs.SharedBump.{BumpParty}
use Rattle.bb_memory_bump.specs.SharedBumpRule.{SeatView, met_by, numbered_of, sight}
use Rattle.bb_memory_seats.proofs.ListParts.{as_it_was, one_and_rest}
use Rattle.bb_memory_seats.specs.Seats.{standing_for}
use Rattle.std.proofs.Common.{All, List, [], ap, arith, drop, get_or, length, map, max, rules, subst, sym, ℕ, ◌++◌, ◌+◌, ◌-◌, ◌<◌, ◌∙◌, ◌∷◌, ◌≡◌, ◌≤◌}
use Rattle.std.proofs.Math.Seq.{map-set_same}
use Rattle.std.proofs.lemmas.Grind.{common_steps}
use Rattle.std.proofs.lemmas.List.Elements.{All-cons, All-set, All-weaker}

pub loop-at-preserved : goal.loop-at-preserved
loop-at-preserved c =
    let scene = c.args.self.now.scene in
    let old = c.args.rest.now.items in
    let now = c.loop-at.rest.items in
    let before = c.loop-at.invariant in
    let place = c.loop-at.at - 1 in
    let party = c.index_mut.result.now in
    let behind = c.args.seat.now.me.0.parties in
    let most = met_by c.come.new.seat.me.0 in
    let next : c.loop-at.at ≡ place + 1 = omega (arith, c.loop-at-test.true) in
    let within : place < length old = grind (arith, common_steps) in
    let there : get_or old place party ≡ party =
    sym (as_it_was now old place c.loop-at.at party (omega (arith, next)) before.others) ∙ sym c.index_mut.ensures.value in
    let parts = one_and_rest old place c.loop-at.at party next within there in
    let is_most : most ≡ max (met_by c.loop-at.seat.me.0) party.met = ap (λ (m : Me ℕ SeatView). met_by m.0) c.come.ensures.seat in
    let host : met_by c.loop-at.seat.me.0 ≤ most = grind (arith, is_most) in
    let guest : party.met ≤ most = grind (arith, is_most) in
    record {
      table = search rules;
      seat = c.come.ensures.seat
          ∙ (λ i. (standing_for (sight scene (sym is_most i)) (numbered_of party ∷ (before.seat i).0.parties), []))
          ∙ ap (λ (all : List BumpParty). (standing_for (sight scene most) (map numbered_of all ++ behind), [])) (sym parts);
      met = omega (arith, before.met, host);
      risen = subst (All (λ (p : BumpParty). p.met ≤ most)) (sym parts)
          (All-cons (λ (p : BumpParty). p.met ≤ most) party (drop c.loop-at.at old) guest
          (All-weaker (λ (p : BumpParty). p.met ≤ met_by c.loop-at.seat.me.0) (λ p. p.met ≤ most)
          (λ p up. omega (arith, up, host)) (drop c.loop-at.at old) before.risen));
      others = grind (arith, common_steps);
      parties = map-set_same numbered_of now place c.come.new.party party
          (c.come.ensures.party ∙ ap numbered_of c.index_mut.ensures.value) ∙ before.parties;
      scene = All-set (λ (p : BumpParty). p.allocator.scene ≡ scene) now place c.come.new.party c.come.ensures.scene before.scene;
      len = grind (arith, common_steps);
      capacity = grind (arith, common_steps);
    }
