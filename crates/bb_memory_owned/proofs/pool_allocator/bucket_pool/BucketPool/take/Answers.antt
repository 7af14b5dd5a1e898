use Rattle.bb_memory_owned.proofs.pool_allocator.bucket_pool.BucketPool.take.Goals as goal
use Rattle.bb_memory_owned.specs.Pool.{Allocates}
use Rattle.bb_memory_traits.specs.declared.layout.Layout.{Layout}
use Rattle.std.proofs.Common.{rules, subst}

pub returns-clause-answer : goal.returns-clause-answer
returns-clause-answer g c =
    let old = c.args.self.now in
    let asked = c.allocate.ensures in
    subst
    (λ (l : Layout).
    Allocates old l c.allocate.result c.allocate.new.self (g.S.IndexSet.words old.pool.geometry.buckets))
    c.bucket_layout-bucket.ensures record {
      answer = asked.answer;
      appended = asked.appended;
      kept = asked.kept;
      given = asked.given;
      fits = search rules;
      geometry = asked.geometry;
      note = asked.note;
      value = asked.value;
    }
