use Rattle.bb_memory_file.proofs.FileCaches.{cached_none}
use Rattle.bb_memory_file.proofs.FileEnds.{keeps_join}
use Rattle.bb_memory_file.proofs.FileNotes.{after_join, fresh_unlocks}
use Rattle.bb_memory_file.proofs.joined.Joined.join.Goals as goal
use Rattle.bb_memory_file.specs.FileCode.{FileLog}
use Rattle.bb_memory_file.specs.FileNames.{Flags}
use Rattle.bb_memory_file.specs.FileNotes.{AreCached, Ends, IsJoined, KeepsQueues, Note, Unheld, no_ends, queues_of}
use Rattle.std.proofs.Common.{List, [], ap, arith, inr, refl, subst, sym, ℕ, ◌<◌, ◌∙◌, ◌≡◌}
use Rattle.std.proofs.lemmas.Grind.{common_steps}
use Rattle.std.specs.Prelude.{replicate}

pub unlock-requires : goal.unlock-requires
unlock-requires g c =
    fresh_unlocks (g.W.Words.log c.args.words) _ (λ party. Flags party 0) c.requires.fresh
    (λ process. (_, (c.in-Some.ensures process).1)) (inr refl)

pub unlock-requires-in_default-ends_of : goal.unlock-requires-in_default-ends_of
unlock-requires-in_default-ends_of g c =
    fresh_unlocks (g.W.Words.log c.args.words) _ (λ party. Flags party 0) c.requires.fresh
    (λ process. (_, (c.in-Some.ensures process).1)) (inr refl)

pub invariant_of-result : goal.invariant_of-result
invariant_of-result g c =
    let old = g.W.Words.log c.args.words in
    let did = λ (process : ℕ). c.join.ensures process old c.in-Some.field-0 (c.in-Some.ensures process) in
    let same : c.in-Ok.notes.items ≡ replicate old.scene.buckets Unheld =
    c.in-Ok.ensures ∙ ap (λ n. replicate n Unheld)
    (c.buckets.ensures ∙ ap (λ (log : FileLog). log.scene.buckets) (c.in-Some.ensures 0).0) in
    let slots : c.slots.result ≡ old.scene.slots =
    c.slots.ensures ∙ ap (λ (log : FileLog). log.scene.slots) (c.in-Some.ensures 0).0 in
    let ends : c.in-Ok-ends_of.ends.items ≡ replicate (queues_of old.scene.slots c.args.depth) no_ends =
    c.in-Ok-ends_of.ensures ∙ ap (λ n. replicate (queues_of n c.args.depth) no_ends) slots in
    let fits : old.scene.slots < 4294967296 = subst (λ (n : ℕ). n < 4294967296) slots c.slots.type_inv in (
      subst (λ (notes : List Note). IsJoined (g.W.Words.log c.join.new.words) notes) (sym same)
          (after_join old (g.W.Words.log c.join.new.words) c.requires.fresh did),
      rw c.new-cached.ensures.items (subst (λ (notes : List Note). AreCached notes []) (sym same)
          (cached_none old.scene.buckets)),
      grind (arith, common_steps),
      omega arith,
      omega arith,
      subst (λ (e : List Ends). KeepsQueues (g.W.Words.log c.join.new.words) c.args.depth e) (sym ends)
          (keeps_join old (g.W.Words.log c.join.new.words) c.args.depth c.requires.deep fits c.requires.fresh did),
    )

pub returns-clause-joined : goal.returns-clause-joined
returns-clause-joined g c =
    let old = g.W.Words.log c.args.words in
    let same : c.in-Ok.notes.items ≡ replicate old.scene.buckets Unheld =
    c.in-Ok.ensures ∙ ap (λ n. replicate n Unheld)
    (c.buckets.ensures ∙ ap (λ (log : FileLog). log.scene.buckets) (c.in-Some.ensures 0).0) in
    let ends : c.in-Ok-ends_of.ends.items ≡ replicate (queues_of old.scene.slots c.args.depth) no_ends =
    c.in-Ok-ends_of.ensures ∙ ap (λ n. replicate (queues_of n c.args.depth) no_ends)
    (c.slots.ensures ∙ ap (λ (log : FileLog). log.scene.slots) (c.in-Some.ensures 0).0) in (
      (λ process. c.join.ensures process old c.in-Some.field-0 (c.in-Some.ensures process)),
      (λ i. record {
        words = c.join.new.words;
        notes = same i;
        hint = c.args.hint;
        cached = c.new-cached.ensures.items i;
        most = 0;
        depth = c.args.depth;
        ends = ends i;
      }),
    )
