use Rattle.bb_memory_file.proofs.FileCaches.{cached_none}
use Rattle.bb_memory_file.proofs.FileEnds.{all_still, keeps_still}
use Rattle.bb_memory_file.proofs.FileNotes.{after_all}
use Rattle.bb_memory_file.proofs.joined.Joined.give_all_back.Goals as goal
use Rattle.bb_memory_file.specs.FileNotes.{AreCached, IsJoined, Note, Unheld}
use Rattle.std.proofs.Common.{List, [], arith, length, rules, subst, sym, ◌≡◌}
use Rattle.std.proofs.lemmas.Grind.{common_steps}
use Rattle.std.specs.Prelude.{replicate}

pub invariant_of-self : goal.invariant_of-self
invariant_of-self g c =
    let same : c.fill.new.self.items ≡ replicate (length c.self.inside.notes.items) Unheld = search rules in (
      subst (λ (notes : List Note). IsJoined (g.W.Words.log c.give_all_back-freed.new.words) notes) (sym same)
          (after_all _ _ c.self.inside.notes.items _ c.self.invariant.0 c.give_all_back-freed.ensures),
      rw c.clear.ensures.items (subst (λ (notes : List Note). AreCached notes []) (sym same)
          (cached_none (length c.self.inside.notes.items))),
      grind (arith, common_steps),
      grind (arith, common_steps),
      c.self.invariant.4,
      keeps_still _ _ _ c.self.inside.ends.items c.self.invariant.5 (all_still _ _ _ c.give_all_back-freed.ensures),
    )
