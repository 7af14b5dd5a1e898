use Rattle.bb_memory_c.proofs.one_chunk.bb_one_chunk_shrink.Goals as goal
use Rattle.bb_memory_c_calls.proofs.OpenHandles.{answers, told_of}

pub returns-in-Some : goal.returns-in-Some
returns-in-Some c = let layouts = c.layouts_of.ensures in
    answers c.in-Some.ensures.value (c.made_mut.follows.holds _)
    (told_of _ layouts.each layouts.none c.shrink.ensures.answer, c.shrink.ensures.unchanged)
