use Rattle.bb_memory_c.proofs.pool.bb_pool_init.Goals as goal
use Rattle.bb_memory_c_calls.proofs.Layouts.{either_way, fails_alone, lacks_alone}
use Rattle.bb_memory_c_calls.proofs.Makers.{not-cut, tried}
use Rattle.bb_memory_traits.specs.Chunk.{region_at}
use Rattle.std.proofs.Common.{Some, ap, refl, sym, ◌∙◌}

pub returns-in-Err : goal.returns-in-Err
returns-in-Err c = let cut = c.cut_into.ensures in let region = region_at c.args.start c.args.size in
    not-cut (c.is_made.ensures.empty c.if-is_made.false) cut.invalid_layout
    (either_way cut.invalid_argument (fails_alone _ _ region)) (either_way cut.no_bucket (lacks_alone _ _ region))
    c.in-Err.code c.in-Err.is c.in-Err.ensures.others c.is_made.ensures.unchanged

pub returns-in_default : goal.returns-in_default
returns-in_default c = let cut = c.cut_into.ensures in let region = region_at c.args.start c.args.size in
    let of = c.in-Ok.ensures.cut in
    tried (c.is_made.ensures.empty c.if-is_made.false) cut.invalid_layout
    (either_way cut.invalid_argument (fails_alone _ _ region)) (either_way cut.no_bucket (lacks_alone _ _ region))
    c.in-Ok.bucket c.in-Ok.is of.layout of.may.1 of.room _ (λ wrong. absurd (cc)) (λ _. (refl, c.is_made.ensures.unchanged))

pub returns : goal.returns
returns c = let cut = c.cut_into.ensures in let region = region_at c.args.start c.args.size in
    let none = c.is_made.ensures.empty c.if-is_made.false in let of = c.in-Ok.ensures.cut in
    tried none cut.invalid_layout (either_way cut.invalid_argument (fails_alone _ _ region))
    (either_way cut.no_bucket (lacks_alone _ _ region)) c.in-Ok.bucket c.in-Ok.is of.layout of.may.1 of.room c.keep.result
    (λ is. (c.new_uninit.result, c.new_uninit.ensures, c.keep.ensures.ok is ∙ ap Some c.in-Ok-init.ensures.value))
    (λ not. let refused = c.keep.ensures.refused not in (refused.0, refused.1 ∙ sym none))
