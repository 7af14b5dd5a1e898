-- Books: the chunks of their samples, what each change keeps, and that the allocator stands for the
-- chunks in use.
use Rattle.bb_memory_lists.proofs.SliceGets.{length-set_at}
use Rattle.bb_memory_traits.specs.Chunk.{Chunk}
use Rattle.loan_book.specs.Book.{Book, IsBook, IsLoanBook, Sample, book_of, chunks_of, loaned_before, returns_to_come}
use Rattle.loan_book.specs.Calls.{with_returns, with_sample, without}
use Rattle.std.proofs.Common.{List, None, Option, Some, [], ap, arith, drop, false, get_or, length, refl, subst, suc, sym, take, true, ℕ, ◌++◌, ◌+◌, ◌<◌, ◌^◌, ◌∙◌, ◌∷◌, ◌≡◌}
use Rattle.std.proofs.Math.ListN.{get_or-map}
use Rattle.std.proofs.Math.Seq.{map-set_same}
use Rattle.std.proofs.lemmas.Grind.{common_steps}
use Rattle.std.proofs.lemmas.List.{drop-map, map-append, take-map}
use Rattle.std.proofs.lemmas.List.Elements.{All-append, All-drop, All-push, All-set, All-take, All-weaker}
use Rattle.std.proofs.lemmas.List.Quantifiers.{all_pairs_push, all_pairs_remove}
use Rattle.std.proofs.lemmas.Option.{get_or_from_slice_get, slice_get-map, slice_get_within}
use Rattle.std.specs.Option.{ForSome, SomeIff, is_some, option_map}
use Rattle.std.specs.Prelude.{map, remove, slice_get, slice_set}

-- the chunks after each change

pub chunks-remove : (samples : List Sample) (i : ℕ) → chunks_of (remove samples i) ≡ remove (chunks_of samples) i
chunks-remove samples i = simp (map-append, take-map, drop-map)

-- a replaced sample keeps this property of the old one
pub map-kept : {X : Type 0} (f : Sample → X) (samples : List Sample) (i : ℕ) (old new : Sample) →
    slice_get samples i ≡ Some old → f new ≡ f old → map f (slice_set samples i new) ≡ map f samples
map-kept f samples i old new at same =
    map-set_same f samples i new old (same ∙ ap f (sym (get_or_from_slice_get samples i old old at)))

-- the chunk of a sample is at the sample's position
pub chunk-at : (samples : List Sample) (i : ℕ) (sample : Sample) → slice_get samples i ≡ Some sample →
    slice_get (chunks_of samples) i ≡ Some sample.chunk
chunk-at samples i sample at = slice_get-map (λ (s : Sample). s.chunk) samples i ∙ ap (option_map (λ (s : Sample). s.chunk)) at

-- the ids stay if a sample is replaced by one with the same id
id-set : (samples : List Sample) (i : ℕ) (old new : Sample) → slice_get samples i ≡ Some old → new.id ≡ old.id →
    (k : ℕ) (d : Sample) → (get_or (slice_set samples i new) k d).id ≡ (get_or samples k d).id
id-set samples i old new at same k d =
    let id : Sample → ℕ = λ (s : Sample). s.id in
    sym (get_or-map id (slice_set samples i new) k d)
    ∙ ap (λ ids. get_or ids k d.id) (map-kept id samples i old new at same) ∙ get_or-map id samples k d

-- each sample of a book waits for a return
pub sample-waits : (book : Book) (position : ℕ) (sample : Sample) → IsBook book → slice_get book.out position ≡ Some sample →
    0 < returns_to_come sample.returns
sample-waits book position sample is at =
    let waits = is.waiting position sample (slice_get_within book.out position sample at) in
    subst (λ (s : Sample). 0 < returns_to_come s.returns) (get_or_from_slice_get book.out position sample sample at) waits

pub IsBook-push : (book : Book) (chunk : Chunk) → IsBook book → IsBook (with_sample book chunk)
IsBook-push book chunk is = grind (arith, common_steps, all_pairs_push, All-push, All-weaker)

pub IsBook-set : (book : Book) (position : ℕ) (sample : Sample) (returns : ℕ) → slice_get book.out position ≡ Some sample →
    0 < returns → IsBook book → IsBook (with_returns book position sample returns)
IsBook-set book position sample returns at some is =
    let new : Sample = record sample { returns = Some returns } in
    let same = id-set book.out position sample new at refl in
    let long = length-set_at book.out position new in
    record {
      rising = λ i j d before within. rw (same i d, same j d) (is.rising i j d before (omega (arith, long, within)));
      loaned = λ k d within. rw (same k d) (is.loaned k d (omega (arith, long, within)));
      waiting = All-set (λ s. 0 < returns_to_come s.returns) book.out position new some is.waiting;
    }

pub IsBook-remove : (book : Book) (position : ℕ) → position < length book.out → IsBook book → IsBook (without book position)
IsBook-remove book position within is = record {
  rising = all_pairs_remove (λ one other. one.id < other.id) book.out position within is.rising;
  loaned = let P : Sample → Type 0 = λ sample. sample.id < book.loaned in
      All-append P (take position book.out) (drop (suc position) book.out) (All-take P position book.out is.loaned)
      (All-drop P (suc position) book.out is.loaned);
  waiting = let P : Sample → Type 0 = λ sample. 0 < returns_to_come sample.returns in
      All-append P (take position book.out) (drop (suc position) book.out) (All-take P position book.out is.waiting)
      (All-drop P (suc position) book.out is.waiting);
}

-- LOAN BOOKS

-- the sample that a loan appends
abbrev pub fresh_sample : ℕ → Chunk → Sample
fresh_sample id chunk = record { id = id; chunk = chunk; returns = None }

-- a search finds that there are returns to come, or none
pub published_from : (returns : Option ℕ) → true ≡ is_some returns → (n : ℕ) × (returns ≡ Some n)
published_from None some = cc
published_from (Some n) some = (n, refl)

pub unpublished_from : (returns : Option ℕ) → false ≡ is_some returns → returns ≡ None
unpublished_from None none = refl
unpublished_from (Some n) none = cc

pub positive : (n : ℕ) → (n ≡ 0 → ⊥) → 0 < n
positive n not_zero = omega (arith, not_zero)

-- the next id after a loan: there is none if the greatest one was loaned
pub next_loaned : (id : ℕ) (after : Option ℕ) → id < 2 ^ 64 → SomeIff after (id + 1 < 2 ^ 64) (id + 1) →
    loaned_before after ≡ id + 1
next_loaned id None within none = omega arith
next_loaned id (Some next) within one = one.1

next_fits : (id : ℕ) (after : Option ℕ) → SomeIff after (id + 1 < 2 ^ 64) (id + 1) → ForSome after (λ next. next < 2 ^ 64)
next_fits id None none = λ next is. absurd (cc)
next_fits id (Some next) one = λ other is. let same : next ≡ other = cc in omega (arith, one.0, one.1)

module _ {A : Type 0} (stands_for : A → List Chunk → Type 0) where
  pub IsLoanBook-loaned : (allocator left : A) (next after : Option ℕ) (out new : List Sample) (id : ℕ) (chunk : Chunk) →
      next ≡ Some id → SomeIff after (id + 1 < 2 ^ 64) (id + 1) → new ≡ out ++ fresh_sample id chunk ∷ [] →
      IsLoanBook stands_for allocator next out → stands_for left (chunks_of out ++ chunk ∷ []) →
      IsLoanBook stands_for left after new
  IsLoanBook-loaned allocator left next after out new id chunk was goes_on pushed is stands =
      grind (arith, common_steps, next_fits)

  pub IsLoanBook-set : (allocator : A) (next : Option ℕ) (out : List Sample) (position : ℕ) (sample : Sample) (returns : ℕ) →
      slice_get out position ≡ Some sample → 0 < returns → IsLoanBook stands_for allocator next out →
      IsLoanBook stands_for allocator next (slice_set out position (record sample { returns = Some returns }))
  IsLoanBook-set allocator next out position sample returns at some is =
      let new : Sample = record sample { returns = Some returns } in
      record {
        stands = subst (stands_for allocator) (sym (map-kept (λ s. s.chunk) out position sample new at refl)) is.stands;
        book = IsBook-set (book_of next out) position sample returns at some is.book;
        next_fits = is.next_fits;
      }

  pub IsLoanBook-removed : (allocator left : A) (next : Option ℕ) (out new : List Sample) (position : ℕ) →
      position < length out → new ≡ remove out position →
      IsLoanBook stands_for allocator next out → stands_for left (remove (chunks_of out) position) →
      IsLoanBook stands_for left next new
  IsLoanBook-removed allocator left next out new position within removed is stands = rw removed (record {
    stands = subst (stands_for left) (sym (chunks-remove out position)) stands;
    book = IsBook-remove (book_of next out) position within is.book;
    next_fits = is.next_fits;
  })
