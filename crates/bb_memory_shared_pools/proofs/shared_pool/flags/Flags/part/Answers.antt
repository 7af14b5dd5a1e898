use Rattle.atomic_table.specs.Table.{Me}
use Rattle.bb_memory_seats.proofs.ListParts.{first_as_it_was, one_and_rest}
use Rattle.bb_memory_seats.specs.Seats.{standing_for, tail_of}
use Rattle.bb_memory_shared_pools.proofs.shared_pool.flags.Flags.part.Goals as goal
use Rattle.bb_memory_shared_pools.specs.SharedPool.{PoolParty}
use Rattle.bb_memory_shared_pools.specs.SharedPoolRule.{SeatView, numbered_of, of_pool}
use Rattle.std.proofs.Common.{List, [], ap, arith, drop, length, map, refl, rules, subst, sym, take, ℕ, ◌++◌, ◌+◌, ◌<◌, ◌∙◌, ◌∷◌, ◌≡◌}
use Rattle.std.proofs.lemmas.Grind.{common_steps}
use Rattle.std.proofs.lemmas.List.{drop-drop, drop-set-lt, map-append, map_more, take_more_set}
use Rattle.std.proofs.lemmas.List.Elements.{All-get_or}

pub go_back-requires-clause-scene : goal.go_back-requires-clause-scene
go_back-requires-clause-scene c =
    let scene = c.args.self.now.scene in
    let old = c.args.rest.now.items in
    let at = c.loop-at.at in
    let party = c.index_mut.result.now in
    let within : at < length old = grind (arith, common_steps) in
    let there = sym (first_as_it_was c.loop-at.rest.items old at party c.loop-at.invariant.others) ∙ sym c.index_mut.ensures.value in
    subst (λ (p : PoolParty). p.allocator.scene ≡ scene) there
    (All-get_or (λ (p : PoolParty). p.allocator.scene ≡ scene) old at party within c.requires.scene)

pub loop-at-preserved : goal.loop-at-preserved
loop-at-preserved c =
    let pool = c.args.self.now in
    let old = c.args.rest.now.items in
    let now = c.loop-at.rest.items in
    let before = c.loop-at.invariant in
    let at = c.loop-at.at in
    let party = c.index_mut.result.now in
    let back = c.go_back.new.party in
    let within : at < length old = grind (arith, common_steps) in
    let here : at < length now = grind (arith, common_steps) in
    let there = sym (first_as_it_was now old at party before.others) ∙ sym c.index_mut.ensures.value in
    record {
      table = search rules;
      seat = λ others is.
          c.go_back.ensures.seat
          ∙ ap (λ (m : Me ℕ SeatView). (standing_for pool.scene (tail_of m.0.parties), [])) (before.seat others is)
          ∙ ap (λ (all : List PoolParty). (standing_for pool.scene (tail_of (map numbered_of all ++ others)), []))
          (one_and_rest old at (at + 1) party refl within there);
      back = take_more_set now at back here ∙ (λ i. before.back i ++ c.go_back.ensures.party i ∷ [])
          ∙ sym (ap (map (of_pool pool)) (map_more numbered_of old at party within
          ∙ λ i. map numbered_of (take at old) ++ numbered_of (there i) ∷ [])
          ∙ map-append (of_pool pool) (map numbered_of (take at old)) (numbered_of party ∷ []));
      others = drop-set-lt (at + 1) now at back (omega arith) ∙ sym (drop-drop 1 at now)
          ∙ ap (λ (l : List PoolParty). drop 1 l) before.others ∙ drop-drop 1 at old;
      len = grind (arith, common_steps);
      capacity = grind (arith, common_steps);
    }
