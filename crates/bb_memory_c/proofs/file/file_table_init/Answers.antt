use Rattle.bb_memory_c.proofs.file.file_table_init.Goals as goal
use Rattle.bb_memory_c_calls.proofs.Makers.{not-cut, tried}
use Rattle.std.proofs.Common.{rules, sym, ◌∙◌}

pub returns-in-Err : goal.returns-in-Err
returns-in-Err c = let cut = c.cut_file-cut.ensures in
    not-cut (c.is_made.ensures.empty c.if-is_made.false) cut.invalid_layout cut.invalid_argument cut.no_bucket
    c.in-Err.code c.in-Err.is c.in-Err.ensures.others c.is_made.ensures.unchanged

pub returns : goal.returns
returns c = let cut = c.cut_file-cut.ensures in let none = c.is_made.ensures.empty c.if-is_made.false in
    let of = c.in-Ok.ensures.cut in
    tried none cut.invalid_layout cut.invalid_argument cut.no_bucket c.in-Ok.cut.0 c.in-Ok.is of.0 of.1 of.2
    c.keep.result (λ is. (_, c.keep.ensures.ok is, search rules))
    (λ not. let refused = c.keep.ensures.refused not in (refused.0, refused.1 ∙ sym none))
