-- Layouts of two numbers.
use Rattle.bb_memory_c_calls.specs.Answers.{answer_of}
use Rattle.bb_memory_c_calls.specs.Calls.{FailsOf, HasRoom, IsOf, LacksRoomOf, MayBeShared, TellsRequest}
use Rattle.bb_memory_c_calls.specs.declared.answer.Answer.{Answer}
use Rattle.bb_memory_traits.proofs.Layouts.{same_layout}
use Rattle.bb_memory_traits.specs.Chunk.{Chunk, Region}
use Rattle.bb_memory_traits.specs.Geometry.{MayBeCut}
use Rattle.bb_memory_traits.specs.declared.allocator.AllocationError.{AllocationError}
use Rattle.bb_memory_traits.specs.declared.layout.Layout.{Layout}
use Rattle.std.proofs.Common.{Err, IfOk, IsOk, Ok, Result, Some, ap, arith, subst, sym, ℕ, ◌↔◌, ◌∙◌, ◌≡◌}
use Rattle.std.proofs.lemmas.Bool.{false≢true}
use Rattle.std.specs.Align.{IsLayout}
use Rattle.std.specs.Result.{result_ok}

-- the layout that is made from the numbers of a layout is that layout
pub made_of : {E : Type 0} (r : Result Layout E) (size align : ℕ) (layout : Layout)
    → (IsOk r ↔ IsLayout size align) → IfOk r (λ l. (l.size ≡ size) × (l.align ≡ align))
    → IsOf size align layout → result_ok r ≡ Some layout
made_of (Ok l) size align layout succeeds made of = ap Some (same_layout l layout (made.0 ∙ sym of.0) (made.1 ∙ sym of.1))
made_of (Err e) size align layout succeeds made of = absurd (false≢true (succeeds.1 (rw (sym of.0, sym of.1) layout.valid)))

-- CUTS

-- the numbers of a layout make one
pub is_layout : (size align : ℕ) (layout : Layout) → IsOf size align layout → IsLayout size align
is_layout size align layout of = rw (sym of.0, sym of.1) layout.valid

-- a property of some layout of two numbers is one of this layout
pub of_this : (size align : ℕ) (P : Layout → Type 0) (bucket : Layout) → IsOf size align bucket →
    ((other : Layout) × IsOf size align other × P other) → P bucket
of_this size align P bucket of some = subst P (same_layout some.0 bucket (some.1.0 ∙ sym of.0) (some.1.1 ∙ sym of.1)) some.2

-- a request with the numbers of a layout is answered like a request with that layout
pub asked : {X : Type 0} {may : X → Layout → Result Chunk AllocationError → X → Type 0} {made after : X} {size align : ℕ}
    {told : Answer} (layout : Layout) → IsOf size align layout → (answer : Result Chunk AllocationError) → told ≡ answer_of answer
    → may made layout answer after → TellsRequest made after size align told may
asked {may = may} {made} {after} {size} {align} {told} layout of answer is may_be = record {
  answered = λ other others.
      (answer, is, of_this size align (λ l. may made l answer after) other others (layout, of, may_be));
  no_layout = λ none. absurd (none (is_layout size align layout of));
}

-- a property can't both fail and hold for the layout of the same numbers
pub not_fails : (size align : ℕ) (may : Layout → Type 0) (bucket : Layout) → IsOf size align bucket → may bucket →
    ¬ FailsOf size align may
not_fails size align may bucket of is fails = of_this size align (λ b. ¬ may b) bucket of fails is

pub either_way : {P Q R : Type 0} → P ↔ Q → Q ↔ R → P ↔ R
either_way one other = (λ p. other.0 (one.0 p), λ r. one.1 (other.1 r))

-- the region may be cut for one party if it may be cut
pub fails_alone : (size align : ℕ) (region : Region) →
    FailsOf size align (MayBeShared region 1) ↔ FailsOf size align (MayBeCut region)
fails_alone size align region = (
  λ no. (no.0, no.1, λ may. no.2 (omega arith, may)),
  λ no. (no.0, no.1, λ may. no.2 may.1),
)

pub lacks_alone : (size align : ℕ) (region : Region) → LacksRoomOf size align (MayBeShared region 1) (HasRoom region)
    ↔ LacksRoomOf size align (MayBeCut region) (HasRoom region)
lacks_alone size align region = (
  λ no. (no.0, no.1, no.2.1, no.3),
  λ no. (no.0, no.1, (omega arith, no.2), no.3),
)
