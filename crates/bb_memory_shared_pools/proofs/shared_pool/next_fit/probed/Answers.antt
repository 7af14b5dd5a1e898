use Rattle.bb_memory_shared_pools.proofs.SharedPoolNextFit.{probe_ahead, probe_behind, start_here, start_zero}
use Rattle.bb_memory_shared_pools.proofs.shared_pool.next_fit.probed.Goals.{else-first-buckets, then-first-buckets}
use Rattle.bb_memory_shared_pools.proofs.shared_pool.next_fit.probed.Goals as goal
use Rattle.bb_memory_shared_pools.specs.SharedPoolNextFit.{start_of}
use Rattle.std.proofs.Common.{arith, sym, ℕ, ◌+◌, ◌-◌, ◌∙◌, ◌≡◌}

pub returns-then-probe-ahead-clause-value : goal.returns-then-probe-ahead-clause-value
returns-then-probe-ahead-clause-value c =
    let buckets : ℕ = c.args.buckets in
    let first : ℕ = c.args.first in
    let start : ℕ = c.if-first-buckets.start in
    let is : start_of buckets first ≡ start = elim c.if-first-buckets.branch [
      | then-first-buckets w ↦ start_here buckets first (omega arith) ∙ sym w.start-is
      | else-first-buckets w ↦ start_zero buckets first (omega arith) ∙ sym w.start-is
    ] in
    sym (probe_ahead buckets first start c.args.probe is (omega arith))

pub returns-else-probe-ahead-clause-value : goal.returns-else-probe-ahead-clause-value
returns-else-probe-ahead-clause-value c =
    let buckets : ℕ = c.args.buckets in
    let first : ℕ = c.args.first in
    let start : ℕ = c.if-first-buckets.start in
    let is : start_of buckets first ≡ start = elim c.if-first-buckets.branch [
      | then-first-buckets w ↦ start_here buckets first (omega arith) ∙ sym w.start-is
      | else-first-buckets w ↦ start_zero buckets first (omega arith) ∙ sym w.start-is
    ] in
    let rest : ℕ = c.args.probe - (buckets - start) in
    let same : start + c.args.probe ≡ buckets + rest = omega arith in
    sym (probe_behind buckets first start c.args.probe rest is same (omega arith))
