use Rattle.bb_memory_file.proofs.joined.notes_of.Goals as goal
use Rattle.bb_memory_file.specs.FileNotes.{Note, Unheld}
use Rattle.std.proofs.Common.{List, ap, arith, take, ◌+◌, ◌∙◌, ◌≡◌}
use Rattle.std.proofs.lemmas.List.{take-replicate}
use Rattle.std.specs.Prelude.{replicate}

pub returns : goal.returns
returns c =
    let made : c.in_ok-notes.notes.items ≡ replicate (c.args.buckets + 128) Unheld =
    c.in_ok-notes.ensures.items_if_clones_equal (λ note is. is) in
    c.truncate.ensures.items ∙ ap (λ (notes : List Note). take c.args.buckets notes) made
    ∙ take-replicate c.args.buckets (c.args.buckets + 128) Unheld (omega arith)
