-- The codes of making a pool, by how its region is cut.
use Rattle.bb_memory_c_calls.specs.Answers.{invalid_argument, invalid_layout, malloc_refused, no_bucket, ok}
use Rattle.bb_memory_c_calls.specs.Calls.{AnswersPoolMake, Cutting, FailsOf, IsOf, LacksRoomOf}
use Rattle.bb_memory_traits.specs.declared.layout.Layout.{Layout}
use Rattle.std.proofs.Common.{Err, None, Ok, Option, Result, ap, sym, ℕ, ◌↔◌, ◌∙◌, ◌≡◌, ◌≢◌}
use Rattle.std.specs.Align.{IsLayout}

-- a number that is one of two isn't a third one
neither : {X : Type 0} {one two : ℕ} (code third : ℕ) → (code ≢ one → code ≡ two) → third ≢ one → third ≢ two →
    code ≡ third → X
neither code third either not_one not_two is = absurd (not_two (sym is ∙ either (λ one. not_one (sym is ∙ one))))

module _ {X Y : Type 0} {old new : Option X} {size align : ℕ} {cutting : Cutting X} {cut : Result Y ℕ}
    (none : old ≡ None) (no_layout : (cut ≡ Err invalid_layout) ↔ (¬ IsLayout size align))
    (cannot : (cut ≡ Err invalid_argument) ↔ FailsOf size align cutting.may)
    (no_room : (cut ≡ Err no_bucket) ↔ LacksRoomOf size align cutting.may cutting.room) where
  -- the region isn't cut
  pub not-cut : (code : ℕ) → cut ≡ Err code → (code ≢ invalid_layout → code ≢ invalid_argument → code ≡ no_bucket) → new ≡ old
      → AnswersPoolMake old new size align code cutting
  not-cut code is others still = record {
    made = λ done. let wrong = others (λ e. cc) (λ e. cc) in absurd (cc);
    held_one = (λ held. let wrong = others (λ e. cc) (λ e. cc) in absurd (cc), λ some. absurd (some none));
    no_layout = (λ no. (none, no_layout.0 (is ∙ ap Err no)), λ no. cc (no_layout.1 no.1));
    cannot = (λ no. (none, cannot.0 (is ∙ ap Err no)), λ no. cc (cannot.1 no.1));
    no_room = (λ no. (none, no_room.0 (is ∙ ap Err no)), λ no. cc (no_room.1 no.1));
    else_memory = λ _ _ one other last. absurd (last (others one other));
    unchanged = λ _. still;
  }

  -- by the cut the pool is made, or memory for it ran out
  pub tried : (bucket : Layout) {told : Y} → cut ≡ Ok told → IsOf size align bucket → cutting.may bucket → cutting.room bucket → (code : ℕ)
      → (code ≡ ok → cutting.fresh bucket new) → (code ≢ ok → (code ≡ malloc_refused) × (new ≡ old))
      → AnswersPoolMake old new size align code cutting
  tried bucket is of may_be has code made refused = let either = λ (not : code ≢ ok). (refused not).0 in record {
    made = λ done. (bucket, of, may_be, has, made done);
    held_one = (neither code _ either (λ wrong. cc) (λ wrong. cc), λ some. absurd (some none));
    no_layout = (neither code _ either (λ wrong. cc) (λ wrong. cc), λ no. absurd (cc (no_layout.1 no.1)));
    cannot = (neither code _ either (λ wrong. cc) (λ wrong. cc), λ no. absurd (cc (cannot.1 no.1)));
    no_room = (neither code _ either (λ wrong. cc) (λ wrong. cc), λ no. absurd (cc (no_room.1 no.1)));
    else_memory = λ not _ _ _ _. either not;
    unchanged = λ not. (refused not).1;
  }
