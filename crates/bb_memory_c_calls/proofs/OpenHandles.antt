-- Calls of one handle or two that hold values.
use Rattle.bb_memory_c_calls.specs.Answers.{TellsOfLayouts, ok}
use Rattle.bb_memory_c_calls.specs.Calls.{Answers, AnswersLeave, AnswersOfBoth, IsOf, Sharing, TellsResize}
use Rattle.bb_memory_c_calls.specs.declared.answer.Answer.{Answer}
use Rattle.bb_memory_traits.specs.declared.layout.Layout.{Layout}
use Rattle.std.proofs.Common.{IfSome, None, Option, Some, inl, inr, refl, subst, sym, ℕ, ◌≡◌}
use Rattle.std.specs.Align.{IsLayout}

-- the answer for the two layouts that numbers made, or for none
pub told_of : {old_size old_align new_size new_align : ℕ} (layouts : Option (Layout × Layout)) {told : Answer}
    {tells : Layout → Layout → Type 0}
    → ((old new : Layout) → IsOf old_size old_align old → IsOf new_size new_align new → layouts ≡ Some (old, new))
    → (¬ (IsLayout old_size old_align × IsLayout new_size new_align) → layouts ≡ None) → TellsOfLayouts layouts told tells →
    TellsResize old_size old_align new_size new_align told tells
told_of layouts {told} {tells} each none tell = record {
  answered = λ from to of. subst (λ l. TellsOfLayouts l told tells) (each from to of.0 of.1) tell;
  no_layout = λ no. subst (λ l. TellsOfLayouts l told tells) (none no) tell;
}

-- a property of the value in a handle that holds one
at_made : {X : Type 0} (P : X → Type 0) {old : Option X} {made : X} → old ≡ Some made → P made → IfSome old P
at_made P is holds = subst (λ o. IfSome o P) (sym is) holds

-- the answer of a call whose handle holds a value
pub answers : {X : Type 0} {old new : Option X} {refused : Type 0} {tells : X → X → Type 0} {made after : X} → old ≡ Some made
    → new ≡ Some after → tells made after → Answers old new refused tells
answers {tells} {made} {after} is becomes told = record {
  made = at_made (λ m. (a : _) × (_ ≡ Some a) × tells m a) is (after, becomes, told);
  empty = λ none. absurd (cc);
}

-- the answer of a call whose two handles both hold a value
pub answers_of_both : {X Y : Type 0} {old new : Option X} {old_other new_other : Option Y} {refused : Type 0}
    {tells : X → Y → X → Y → Type 0} {x after : X} {y other : Y} → old ≡ Some x → old_other ≡ Some y → new ≡ Some after
    → new_other ≡ Some other → tells x y after other → AnswersOfBoth old new old_other new_other refused tells
answers_of_both is other_is becomes other_becomes told = record {
  both = at_made _ is (at_made _ other_is (_, _, becomes, other_becomes, told));
  empty = elim [
    | inl none ↦ absurd (cc)
    | inr none ↦ absurd (cc)
  ];
}

-- a party that left
pub left : {X Y : Type 0} {old new : Option X} {party gone : Option Y} {sharing : Sharing X Y} {made : X} {joined : Y}
    (after : Y) → old ≡ Some made → party ≡ Some joined → sharing.at made joined → sharing.leaves joined after →
    new ≡ Some (sharing.with_party made after) → gone ≡ None → AnswersLeave old new party gone ok sharing
left after is its there leaves becomes empty = record {
  returned = at_made _ is (at_made _ its (λ _. (after, leaves, refl, becomes, empty)));
  others = at_made _ is (at_made _ its (λ not. absurd (not there)));
  empty = elim [
    | inl none ↦ absurd (cc)
    | inr none ↦ absurd (cc)
  ];
  unchanged = λ not. absurd (not refl);
}
