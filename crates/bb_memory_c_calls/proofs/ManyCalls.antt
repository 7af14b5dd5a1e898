-- Many calls: a step at one more place, after others, and the taking of one bucket by its answer.
use Rattle.bb_memory_c_calls.specs.Answers.{answer_of, code_of, ok}
use Rattle.bb_memory_c_calls.specs.Calls.{AtEach, TakesAt, TellsTake}
use Rattle.bb_memory_c_calls.specs.declared.answer.Answer.{Answer}
use Rattle.bb_memory_traits.specs.Chunk.{Chunk}
use Rattle.bb_memory_traits.specs.declared.allocator.AllocationError.{AllocationError}
use Rattle.bb_memory_traits.specs.declared.allocator.AllocationError.TheVariants as kind
use Rattle.std.proofs.Common.{Err, List, Ok, Result, [], ap, arith, refl, subst, sym, ℕ, ◌++◌, ◌∙◌, ◌∷◌, ◌≡◌, ◌≢◌}

pub at-more : {X : Type 0} (step : X → ℕ → X → Type 0) (made : X) (places : List ℕ) (last : X) (place : ℕ) (next : X)
    → AtEach step made places last → step last place next → AtEach step made (places ++ place ∷ []) next
at-more step made [] last place next is taken = (next, subst (λ before. step before place next) is taken, refl)
at-more step made (first ∷ places) last place next (after, its, rest) taken =
    (after, its, at-more step after places last place next rest taken)

-- THE ANSWER TO A TAKING: its code is 0 if a bucket was taken, and otherwise that of `OutOfMemory`

is-refusal : (error : AllocationError) → code_of error ≢ ok
is-refusal kind.SizeIsZero = λ same. absurd (omega (arith, same))
is-refusal kind.SizeTooLarge = λ same. absurd (omega (arith, same))
is-refusal kind.AlignmentFailure = λ same. absurd (omega (arith, same))
is-refusal kind.OutOfMemory = λ same. absurd (omega (arith, same))

module _ {X : Type 0} (may : X → Result Chunk AllocationError → X → Type 0) (made after : X) (told : Answer) where
  took-by : (answer : Result Chunk AllocationError) → told ≡ answer_of answer → may made answer after → told.code ≡ ok →
      TakesAt may made told.place after
  took-by (Ok chunk) is taken done = (chunk, ap (λ (a : Answer). a.place) is, taken)
  took-by (Err error) is taken done = absurd (is-refusal error (sym (ap (λ (a : Answer). a.code) is) ∙ done))

  pub took : TellsTake made after told may → told.code ≡ ok → TakesAt may made told.place after
  took tells done = took-by tells.answer tells.answered tells.taken done
