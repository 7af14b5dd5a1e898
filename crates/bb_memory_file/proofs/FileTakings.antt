-- What a party notes after a search.
use Rattle.bb_memory_file.specs.FileCalls.{AllocateSays, BeginsSearch}
use Rattle.bb_memory_file.specs.FileCode.{FileLog}
use Rattle.bb_memory_file.specs.FileNotes.{Allocates, InUse, JoinedParty, MissesFirst}
use Rattle.bb_memory_pool_machine.specs.PoolHints.{hint_after}
use Rattle.bb_memory_pool_machine.specs.declared.hint.Hint.{Hint}
use Rattle.bb_memory_pool_machine.specs.declared.steps.pool.PoolOutcome.TheVariants as outcome
use Rattle.std.proofs.Common.{List, Some, [], ap, arith, length, subst, sym, ℕ, ◌++◌, ◌∙◌, ◌∷◌, ◌≡◌}
use Rattle.std.proofs.lemmas.List.{length_push}
use Rattle.std.specs.Prelude.{slice_set}

-- no empty list ends with a bucket
pub not_last : (cached before : List ℕ) (last : ℕ) → cached ≡ [] → ¬ (cached ≡ before ++ last ∷ [])
not_last cached before last none is = let long = length_push before last in absurd (omega (arith, ap length (sym none ∙ is)))

module _ {W : Type 0} (log : W → FileLog) (before old : JoinedParty W) (misses : MissesFirst log before old) where
  same_hint : old.hint ≡ before.hint
  same_hint = ap (λ (p : JoinedParty W). p.hint) misses.unchanged

  pub none_left : old.cached ≡ []
  none_left = ap (λ (p : JoinedParty W). p.cached) misses.unchanged ∙ misses.none_cached

  begun : BeginsSearch (log before.words) old.hint.bucket (log old.words)
  begun = subst (λ (h : Hint). BeginsSearch (log before.words) h.bucket (log old.words)) (sym same_hint) misses.begun

  -- the later part of a search took a bucket
  pub later_took : (words : W) (hint : Hint) (bucket : ℕ) →
      ((first : FileLog) → BeginsSearch first old.hint.bucket (log old.words) →
      AllocateSays first old.hint.bucket (Some bucket) (log words)) →
      hint ≡ hint_after old.hint (outcome.Takes bucket) →
      Allocates log before (Some bucket) (record old { words = words; notes = slice_set old.notes bucket InUse; hint = hint })
  later_took words hint bucket says moved = record {
    cached = λ rest last is. absurd (not_last before.cached rest last misses.none_cached is);
    searched = λ none. (
      subst (λ (h : Hint). AllocateSays (log before.words) h.bucket (Some bucket) (log words)) same_hint
          (says (log before.words) begun),
      λ i. record {
        words = words;
        notes = slice_set ((misses.unchanged i).notes) bucket InUse;
        hint = (moved ∙ ap (λ (h : Hint). hint_after h (outcome.Takes bucket)) same_hint) i;
        cached = (misses.unchanged i).cached;
        most = (misses.unchanged i).most;
        depth = (misses.unchanged i).depth;
        ends = (misses.unchanged i).ends;
      },
    );
  }
