use Rattle.bb_memory_seats.specs.Seats.{number_of, view_log}
use Rattle.bb_memory_shared_pools.proofs.SharedPoolNextFit.{first_sent, search_begins}
use Rattle.bb_memory_shared_pools.proofs.shared_pool.buckets.SharedBucketPool.send_first.Goals as goal
use Rattle.std.proofs.Common.{arith}

pub returns-then-first-number_of_buckets : goal.returns-then-first-number_of_buckets
returns-then-first-number_of_buckets g c =
    let scene = c.args.self.now.scene in
    let me = c.args.seat.now.me in
    let begun = search_begins scene (number_of me.0) (view_log me.0) c.args.first me c.requires.seat.seat in
    record {
      step = record {
        table = c.send_at.ensures.table;
        step = first_sent scene (number_of me.0) (view_log me.0) c.args.first me c.send_at.new.seat.me begun (omega arith)
            c.send_at.result (rw c.self.view_is at c.send_at.ensures.step);
      };
      fits = λ won. omega arith;
    }
