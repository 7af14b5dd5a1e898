use Rattle.bb_memory_file.proofs.FileSearches.{search_ends, searched_all, searched_none, searched_on}
use Rattle.bb_memory_file.proofs.calls.search.Goals as goal
use Rattle.bb_memory_file.specs.FileCode.{FileLog}
use Rattle.std.proofs.Common.{ap, arith}

pub loop-bucket-init : goal.loop-bucket-init
loop-bucket-init g c = record {
  searched = searched_none (g.W.Words.log c.args.words.now) c.args.from;
  most = c.requires.order;
}

pub exchange_flag-requires-clause-below : goal.exchange_flag-requires-clause-below
exchange_flag-requires-clause-below g c =
    let same = ap (λ (log : FileLog). log.scene.buckets) c.loop-bucket.invariant.searched.gets in
    let most = c.requires.below in
    let less = c.loop-bucket-test.true in omega (arith, same, most, less)

pub returns-then-exchange_flag : goal.returns-then-exchange_flag
returns-then-exchange_flag g c =
    search_ends (g.W.Words.log c.args.words.now) (g.W.Words.log c.loop-bucket.words) _ c.args.from c.args.to c.loop-bucket.bucket
    c.party.result c.loop-bucket.invariant.searched c.loop-bucket-test.true c.party.ensures c.if-exchange_flag.ensures

pub loop-bucket-preserved : goal.loop-bucket-preserved
loop-bucket-preserved g c = record {
  searched = searched_on (g.W.Words.log c.args.words.now) (g.W.Words.log c.loop-bucket.words) _ c.args.from c.loop-bucket.bucket
      c.loop-bucket.invariant.searched c.if-exchange_flag.ensures;
  most = (let less = c.loop-bucket-test.true in omega (arith, less));
}

pub returns : goal.returns
returns g c =
    searched_all (g.W.Words.log c.args.words.now) (g.W.Words.log c.loop-bucket.words) c.args.from c.args.to c.loop-bucket.bucket
    c.loop-bucket.invariant.searched c.loop-bucket.invariant.most c.loop-bucket-test.false
