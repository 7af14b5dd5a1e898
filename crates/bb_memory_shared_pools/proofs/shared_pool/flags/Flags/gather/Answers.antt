use Rattle.atomic_table.specs.Table.{Me}
use Rattle.bb_memory_seats.proofs.ListParts.{as_it_was, one_and_rest}
use Rattle.bb_memory_seats.specs.Seats.{standing_for}
use Rattle.bb_memory_shared_pools.proofs.shared_pool.flags.Flags.gather.Goals as goal
use Rattle.bb_memory_shared_pools.specs.SharedPool.{PoolParty}
use Rattle.bb_memory_shared_pools.specs.SharedPoolRule.{SeatView, numbered_of}
use Rattle.std.proofs.Common.{List, [], ap, arith, get_or, length, map, rules, sym, ℕ, ◌++◌, ◌+◌, ◌-◌, ◌<◌, ◌∙◌, ◌∷◌, ◌≡◌}
use Rattle.std.proofs.Math.Seq.{map-set_same}
use Rattle.std.proofs.lemmas.Grind.{common_steps}
use Rattle.std.proofs.lemmas.List.Elements.{All-set}

pub loop-at-preserved : goal.loop-at-preserved
loop-at-preserved c =
    let scene = c.args.self.now.scene in
    let old = c.args.rest.now.items in
    let now = c.loop-at.rest.items in
    let before = c.loop-at.invariant in
    let place = c.loop-at.at - 1 in
    let party = c.index_mut.result.now in
    let behind = c.args.seat.now.me.0.parties in
    let next : c.loop-at.at ≡ place + 1 = omega (arith, c.loop-at-test.true) in
    let within : place < length old = grind (arith, common_steps) in
    let there : get_or old place party ≡ party =
    sym (as_it_was now old place c.loop-at.at party (omega (arith, next)) before.others) ∙ sym c.index_mut.ensures.value in
    record {
      table = search rules;
      seat = c.come.ensures.seat ∙ ap (λ (m : Me ℕ SeatView). (standing_for scene (numbered_of party ∷ m.0.parties), [])) before.seat
          ∙ ap (λ (all : List PoolParty). (standing_for scene (map numbered_of all ++ behind), []))
          (sym (one_and_rest old place c.loop-at.at party next within there));
      others = grind (arith, common_steps);
      parties = map-set_same numbered_of now place c.come.new.party party
          (c.come.ensures.party ∙ ap numbered_of c.index_mut.ensures.value) ∙ before.parties;
      scene = All-set (λ (p : PoolParty). p.allocator.scene ≡ scene) now place c.come.new.party c.come.ensures.scene before.scene;
      len = grind (arith, common_steps);
      capacity = grind (arith, common_steps);
    }
