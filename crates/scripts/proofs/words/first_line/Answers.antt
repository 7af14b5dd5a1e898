use Rattle.scripts.proofs.WholeLines.{lines_split, lines_whole_text, shorter_split, shorter_whole}
use Rattle.scripts.proofs.words.first_line.Goals as goal

pub returns-then-is_empty-2-clause-cut : goal.returns-then-is_empty-2-clause-cut
returns-then-is_empty-2-clause-cut c =
    lines_whole_text c.args.input.now c.split_before.result.0.now c.split_before.result.1.now c.split_before.ensures.parts
    c.split_before.ensures.first c.if-is_empty.ensures c.if-is_empty-2.ensures

pub returns-else-is_empty-2-clause-cut : goal.returns-else-is_empty-2-clause-cut
returns-else-is_empty-2-clause-cut c =
    lines_split c.args.input.now c.split_before.result.0.now c.split_before.result.1.now c.split_before.ensures.parts
    c.split_before.ensures.first c.split_before.ensures.rest c.if-is_empty-2.ensures

pub returns-then-is_empty-2-clause-shorter : goal.returns-then-is_empty-2-clause-shorter
returns-then-is_empty-2-clause-shorter c =
    shorter_whole c.args.input.now c.split_before.result.1.now c.if-is_empty.ensures c.if-is_empty-2.ensures

pub returns-else-is_empty-2-clause-shorter : goal.returns-else-is_empty-2-clause-shorter
returns-else-is_empty-2-clause-shorter c =
    shorter_split c.args.input.now c.split_before.result.0.now c.split_before.result.1.now c.split_before.ensures.parts
    c.if-is_empty-2.ensures
