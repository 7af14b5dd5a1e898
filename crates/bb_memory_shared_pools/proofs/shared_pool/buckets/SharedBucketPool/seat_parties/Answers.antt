use Rattle.bb_memory_pool_machine.specs.PoolHints.{first_hint}
use Rattle.bb_memory_pool_machine.specs.PoolLogs.{PoolEntry}
use Rattle.bb_memory_seats.proofs.Seatings.{fresh_more, given_more}
use Rattle.bb_memory_seats.specs.Seats.{alone}
use Rattle.bb_memory_shared_pools.proofs.SharedPoolParties.{no_step, party_seat}
use Rattle.bb_memory_shared_pools.proofs.shared_pool.buckets.SharedBucketPool.seat_parties.Goals as goal
use Rattle.bb_memory_shared_pools.specs.SharedPool.{IsSharedScene, PoolParty, SharedPool, fresh_party}
use Rattle.bb_memory_shared_pools.specs.SharedPoolRule.{party_in}
use Rattle.std.proofs.Common.{[], ap, arith, rules, subst, sym, ◌∙◌, ◌≡◌}
use Rattle.std.proofs.lemmas.Grind.{common_steps}

pub invariant_of-push_reserved : goal.invariant_of-push_reserved
invariant_of-push_reserved g c =
    let scene = c.args.self.now.scene in
    let number = c.loop-number.number in
    let more = fresh_more {E = PoolEntry} number c.args.parties (omega arith) in
    let seated : c.split_first-seat.result.me ≡ (alone scene number [], []) = search rules in
    party_seat scene number _ []
    c.split_first-seat.result.me (no_step scene number c.split_first-seat.result.me seated)
    (let made = c.requires.parties in omega arith)
    (subst (λ (p : SharedPool). IsSharedScene p.scene) c.self.view_is c.self.invariant.shared)
    (c.first-hint.ensures ∙ (λ i. first_hint (c.number_of_buckets-buckets.ensures.value i) (c.requires.parties i)
    (c.bucket_size.ensures.value i) number))

pub loop-number-preserved : goal.loop-number-preserved
loop-number-preserved g c =
    let pool = c.args.self.now in
    let before = c.loop-number.invariant in
    let next = fresh_more {E = PoolEntry} c.loop-number.number c.args.parties (omega arith) in
    let value : PoolParty = party_in c.split_first-seat.result.table_id c.loop-number.number c.split_first-seat.result.me.0 in
    let value_is : value ≡ fresh_party pool c.loop-number.number = search rules in
    let more = given_more (fresh_party pool) c.loop-number.all.items value (λ j below. before.fresh j (omega arith))
    (value_is ∙ ap (fresh_party pool) (sym before.long)) in
    record {
      table = search rules;
      rest = search rules;
      len = grind (arith, common_steps);
      long = grind (arith, common_steps);
      room = grind (arith, common_steps);
      theirs = grind (arith, common_steps, value_is);
      fresh = λ j below. rw c.push_reserved.ensures.items (more j (omega arith));
    }
