-- Layouts made of two numbers.
use Rattle.bb_memory_traits.proofs.Layouts.{same_layout}
use Rattle.bb_memory_traits.specs.declared.layout.Layout.{Layout}
use Rattle.std.proofs.Common.{Err, IfOk, IsOk, Ok, Result, Some, ap, ℕ, ◌↔◌, ◌∙◌, ◌≡◌}
use Rattle.std.proofs.lemmas.Bool.{false≢true}
use Rattle.std.specs.Align.{IsLayout}
use Rattle.std.specs.Result.{result_ok}

-- the layout that is made from the numbers of a layout is that layout
pub result_ok-layout : {E : Type 0} (r : Result Layout E) (size align : ℕ) (layout : Layout)
    → (IsOk r ↔ IsLayout size align) → IfOk r (λ l. (l.size ≡ size) × (l.align ≡ align))
    → size ≡ layout.size → align ≡ layout.align → result_ok r ≡ Some layout
result_ok-layout (Ok l) size align layout succeeds made same_size same_align =
    ap Some (same_layout l layout (made.0 ∙ same_size) (made.1 ∙ same_align))
result_ok-layout (Err e) size align layout succeeds made same_size same_align =
    absurd (false≢true (succeeds.1 (rw (same_size, same_align) layout.valid)))
