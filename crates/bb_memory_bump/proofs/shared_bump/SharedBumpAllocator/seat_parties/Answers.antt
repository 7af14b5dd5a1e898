use Rattle.bb_memory_bump.proofs.shared_bump.SharedBumpAllocator.seat_parties.Goals as goal
use Rattle.bb_memory_bump.specs.SharedBump.{BumpParty, fresh_party}
use Rattle.bb_memory_bump.specs.SharedBumpRule.{party_in}
use Rattle.bb_memory_bump_machine.specs.BumpLogs.{BumpEntry}
use Rattle.bb_memory_seats.proofs.Seatings.{fresh_more, given_more}
use Rattle.std.proofs.Common.{ap, arith, rules, sym, ◌∙◌, ◌≡◌}
use Rattle.std.proofs.lemmas.Grind.{common_steps}

pub invariant_of-push_reserved : goal.invariant_of-push_reserved
invariant_of-push_reserved c = grind (arith, fresh_more)

pub loop-number-preserved : goal.loop-number-preserved
loop-number-preserved c =
    let bump = c.args.self.now in
    let before = c.loop-number.invariant in
    let next = fresh_more {E = BumpEntry} c.loop-number.number c.args.parties (omega arith) in
    let value : BumpParty = party_in c.split_first-seat.result.table_id c.loop-number.number c.split_first-seat.result.me.0 in
    let value_is : value ≡ fresh_party bump c.loop-number.number = search rules in
    let more = given_more (fresh_party bump) c.loop-number.all.items value (λ j below. before.fresh j (omega arith))
    (value_is ∙ ap (fresh_party bump) (sym before.long)) in
    record {
      table = search rules;
      rest = search rules;
      len = grind arith;
      long = grind arith;
      room = grind arith;
      theirs = grind (arith, common_steps, value_is);
      fresh = λ j below. rw c.push_reserved.ensures.items (more j (omega arith));
    }
