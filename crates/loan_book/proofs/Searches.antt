-- Searches among samples whose ids rise.
use Rattle.loan_book.specs.Book.{Book, IsAt, IsBook, IsOut, Sample}
use Rattle.std.proofs.Common.{Err, Ok, Some, ap, arith, get_or, inl, inr, sym, ℕ, ◌<◌, ◌≡◌, ◌≤◌}
use Rattle.std.proofs.lemmas.Bool.{cases_lt}
use Rattle.std.proofs.lemmas.Bool.Decides.{nat_tests}
use Rattle.std.proofs.lemmas.Cmp.{ranked}
use Rattle.std.proofs.lemmas.Option.{get_or_from_slice_get, slice_get_within}
use Rattle.std.specs.List.Sorted.{IsBinarySearchResult, IsNonDecreasingBy}
use Rattle.std.specs.Ordering.{nat_cmp, ordering_index}
use Rattle.std.specs.Prelude.{slice_get}

module _ (book : Book) (id : ℕ) where
  pub search-found : (position : ℕ) (sample : Sample) → slice_get book.out position ≡ Some sample →
      IsBinarySearchResult (λ (s : Sample). nat_cmp s.id id) book.out (Ok position) → IsAt book id position sample
  search-found position sample at equal =
      let read = get_or_from_slice_get book.out position sample sample at in
      record { at = at; has_id = rw read at (ranked _ id _ (sym (equal sample))) }

  -- the comparisons with the id rise along the samples, as a binary search requires
  comparisons_rise : IsBook book → IsNonDecreasingBy (λ (sample : Sample). ordering_index (nat_cmp sample.id id)) book.out
  comparisons_rise is i j d le within =
      let ids : (get_or book.out i d).id ≤ (get_or book.out j d).id =
      grind (arith, is.rising i j d, λ (same : i ≡ j). ap (λ k. (get_or book.out k d).id) same) in
      grind (arith, nat_tests)

  pub search-absent : (gap : ℕ) → IsBook book → IsBinarySearchResult (λ (s : Sample). nat_cmp s.id id) book.out (Err gap) →
      ¬ IsOut book id
  search-absent gap is parted (position, sample, here) =
      let inside = slice_get_within book.out position sample here.at in
      let read = get_or_from_slice_get book.out position sample sample here.at in
      let sides = parted (comparisons_rise is) in
      elim (cases_lt position gap) [
        | inl below ↦
            let less = ranked _ id _ (sym (sides.0 position sample (omega arith) below)) in
            let smaller : sample.id < id = rw read at less in
            omega (arith, here.has_id)
        | inr behind ↦
            let more = ranked _ id _ (sym (sides.1 position sample behind inside)) in
            let greater : id < sample.id = rw read at more in
            omega (arith, here.has_id)
      ]
