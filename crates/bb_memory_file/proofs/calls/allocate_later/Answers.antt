use Rattle.bb_memory_file.proofs.FileSearches.{found_anywhere, found_before, found_behind, search_takes, takes_on}
use Rattle.bb_memory_file.proofs.calls.allocate_later.Goals as goal
use Rattle.bb_memory_file.specs.FileCode.{FileLog}
use Rattle.std.proofs.Common.{Some, ap, arith, ◌∙◌}

pub returns-then-hint-buckets-clause-answer : goal.returns-then-hint-buckets-clause-answer
returns-then-hint-buckets-clause-answer g c before begun =
    let all = c.buckets-buckets.ensures ∙ ap (λ (log : FileLog). log.scene.buckets) begun in
    found_anywhere before (g.W.Words.log c.args.words.now) c.args.hint c.buckets-buckets.result all c.if-hint-buckets.true
    (g.W.Words.log c.search.new.words) c.search.result begun c.search.ensures

pub returns-then-hint-buckets-clause-takes : goal.returns-then-hint-buckets-clause-takes
returns-then-hint-buckets-clause-takes g c =
    let all = c.buckets-buckets.ensures in
    search_takes _ _ 0 c.buckets-buckets.result c.search.result (omega (arith, all)) c.search.ensures

pub returns-in-Some-clause-answer : goal.returns-in-Some-clause-answer
returns-in-Some-clause-answer g c before begun =
    let all = c.buckets-buckets.ensures ∙ ap (λ (log : FileLog). log.scene.buckets) begun in
    found_behind before (g.W.Words.log c.args.words.now) c.args.hint c.buckets-buckets.result all c.if-hint-buckets.false
    (g.W.Words.log c.search-2.new.words) c.in-Some.bucket begun c.in-Some.ensures

pub returns-in-Some-clause-takes : goal.returns-in-Some-clause-takes
returns-in-Some-clause-takes g c =
    let all = c.buckets-buckets.ensures in
    search_takes (g.W.Words.log c.args.words.now) _ _ c.buckets-buckets.result (Some c.in-Some.bucket)
    (omega (arith, all)) c.in-Some.ensures

pub returns-clause-answer : goal.returns-clause-answer
returns-clause-answer g c before begun =
    let all = c.buckets-buckets.ensures ∙ ap (λ (log : FileLog). log.scene.buckets) begun in
    found_before before (g.W.Words.log c.args.words.now) c.args.hint c.buckets-buckets.result all c.if-hint-buckets.false
    (g.W.Words.log c.search-2.new.words) (g.W.Words.log c.search-3.new.words) c.search-3.result begun c.in_default.ensures
    c.search-3.ensures

pub returns-clause-takes : goal.returns-clause-takes
returns-clause-takes g c =
    let all = c.buckets-buckets.ensures in
    let below = c.if-hint-buckets.false in
    let same = ap (λ (log : FileLog). log.scene.buckets) c.in_default.ensures.0 in
    takes_on (g.W.Words.log c.args.words.now) (g.W.Words.log c.search-2.new.words) (g.W.Words.log c.search-3.new.words) _ _
    c.search-3.result c.in_default.ensures
    (search_takes _ _ 0 c.args.hint c.search-3.result (omega (arith, all, below, same)) c.search-3.ensures)
