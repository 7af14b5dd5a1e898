-- A book after a step, and one of its samples.
use Rattle.bb_memory_lists.proofs.Positions.{slice_get-removed, slice_get-unremoved}
use Rattle.bb_memory_lists.proofs.SliceGets.{slice_get-last, slice_get-push, slice_get-pushed, slice_get-set, slice_get-set_other, slice_get-set_same}
use Rattle.bb_memory_traits.specs.Chunk.{Chunk}
use Rattle.loan_book.specs.Book.{Book, HasReturns, IsAt, IsBook, IsOut, IsPublished, IsUnpublished, Sample}
use Rattle.loan_book.specs.Calls.{with_returns, with_sample, without}
use Rattle.std.proofs.Common.{None, Option, Some, ap, arith, length, refl, subst, sym, ℕ, ◌<◌, ◌∙◌, ◌≡◌, ◌≢◌}
use Rattle.std.proofs.lemmas.Option.{get_or_from_slice_get, slice_get_within}
use Rattle.std.specs.Prelude.{slice_get}

-- a sample of one id is before no other sample of that id
not_before : (book : Book) (id i j : ℕ) (one other : Sample) → IsBook book → IsAt book id i one → IsAt book id j other → ¬ (i < j)
not_before book id i j one other is here there before =
    let first = get_or_from_slice_get book.out i one one here.at in
    let second = get_or_from_slice_get book.out j other one there.at in
    let rises = is.rising i j one before (slice_get_within book.out j other there.at) in
    let below : one.id < other.id = rw (first, second) at rises in
    omega (arith, here.has_id, there.has_id)

-- so the sample is at only one position
pub one_position : (book : Book) (id i j : ℕ) (one other : Sample) → IsBook book → IsAt book id i one → IsAt book id j other →
    i ≡ j
one_position book id i j one other is here there =
    let up = not_before book id i j one other is here there in
    let down = not_before book id j i other one is there here in
    omega (arith, up, down)

pub one_sample : (book : Book) (id i j : ℕ) (one other : Sample) → IsBook book → IsAt book id i one → IsAt book id j other →
    one ≡ other
one_sample book id i j one other is here there =
    let same = one_position book id i j one other is here there in
    let at = subst (λ k. slice_get book.out k ≡ Some one) same here.at in
    cc

-- a sample that is in use waits for its own returns only
pub one_returns : (book : Book) (id : ℕ) (one other : Option ℕ) → IsBook book → HasReturns book id one →
    HasReturns book id other → one ≡ other
one_returns book id one other is (i, sample, here, is_one) (j, found, there, is_other) =
    sym is_one ∙ ap (λ (s : Sample). s.returns) (one_sample book id i j sample found is here there) ∙ is_other

-- an unpublished sample isn't published
pub unpublished-nowhere : (book : Book) (id : ℕ) → IsBook book → IsUnpublished book id → ¬ IsPublished book id
unpublished-nowhere book id is unpublished (returns, published) =
    let same = one_returns book id None (Some returns) is unpublished published in cc

-- a sample that is in use was loaned
pub loaned_before_now : (book : Book) (id position : ℕ) (sample : Sample) → IsBook book → IsAt book id position sample →
    id < book.loaned
loaned_before_now book id position sample is here =
    let read = get_or_from_slice_get book.out position sample sample here.at in
    let below = is.loaned position sample (slice_get_within book.out position sample here.at) in
    let given : sample.id < book.loaned = rw read at below in
    omega (arith, here.has_id)

-- the sample of this id is in use with these returns to come; if `returns` is None, the sample is
-- gone, and its id was used up
abbrev pub HasOrIsGone : Book → ℕ → Option (Option ℕ) → Type 0
HasOrIsGone book id None = (¬ IsOut book id) × (id < book.loaned)
HasOrIsGone book id (Some returns) = HasReturns book id returns

-- one more sample
pub push-keeps : (book : Book) (chunk : Chunk) (id : ℕ) (left : Option (Option ℕ)) → HasOrIsGone book id left →
    HasOrIsGone (with_sample book chunk) id left
push-keeps book chunk id None (gone, used) = grind (arith, slice_get-pushed)
push-keeps book chunk id (Some left) (i, sample, here, waits) =
    let fresh : Sample = record { id = book.loaned; chunk = chunk; returns = None } in
    (i, sample, record { at = slice_get-push book.out i sample fresh here.at; has_id = here.has_id }, waits)

-- the sample itself, which wasn't published yet
pub own-push : (book : Book) (id : ℕ) (chunk : Chunk) → id ≡ book.loaned → IsUnpublished (with_sample book chunk) id
own-push book id chunk its_id =
    let fresh : Sample = record { id = book.loaned; chunk = chunk; returns = None } in
    (length book.out, fresh, record { at = slice_get-last book.out fresh; has_id = sym its_id }, refl)

-- a sample that is in use after a change of one was in use before it
was_out_before_set : (book : Book) (id other position : ℕ) (sample : Sample) (returns : ℕ) → IsAt book other position sample →
    IsOut (with_returns book position sample returns) id → IsOut book id
was_out_before_set book id other position sample returns here (i, found, there) = grind (arith, slice_get-set)

-- another sample is set
pub set-keeps : (book : Book) (id other position : ℕ) (sample : Sample) (returns : ℕ) (left : Option (Option ℕ)) →
    IsAt book other position sample → other ≢ id →
    HasOrIsGone book id left → HasOrIsGone (with_returns book position sample returns) id left
set-keeps book id other position sample returns None here apart (gone, used) =
    (λ out. gone (was_out_before_set book id other position sample returns here out), used)
set-keeps book id other position sample returns (Some left) here apart (i, found, there, waits) =
    let waiting : Sample = record sample { returns = Some returns } in
    let elsewhere : i ≢ position = λ same.
    let at = subst (λ k. slice_get book.out k ≡ Some found) same there.at in
    let equal : found ≡ sample = cc in
    apart (sym here.has_id ∙ sym (ap (λ (s : Sample). s.id) equal) ∙ there.has_id) in
    (i, found, record { at = slice_get-set_other book.out position i waiting elsewhere ∙ there.at; has_id = there.has_id }, waits)

-- the sample itself waits for `returns` returns
pub own-set : (book : Book) (id position : ℕ) (sample : Sample) (returns : ℕ) → IsAt book id position sample →
    HasReturns (with_returns book position sample returns) id (Some returns)
own-set book id position sample returns here =
    let waiting : Sample = record sample { returns = Some returns } in
    (position, waiting, record { at = slice_get-set_same book.out position waiting sample here.at; has_id = here.has_id }, refl)

-- a sample that was removed is not in use any more
pub removed-is-gone : (book : Book) (id position : ℕ) (sample : Sample) → IsBook book → IsAt book id position sample →
    ¬ IsOut (without book position) id
removed-is-gone book id position sample is here (k, found, there) =
    let before = slice_get-removed book.out position k found there.at in
    before.1 (one_position book id before.0 position found sample is (record { at = before.2; has_id = there.has_id }) here)

-- so the sample is gone
pub own-remove : (book : Book) (id position : ℕ) (sample : Sample) → IsBook book → IsAt book id position sample →
    HasOrIsGone (without book position) id None
own-remove book id position sample is here =
    (removed-is-gone book id position sample is here, loaned_before_now book id position sample is here)

-- another sample is taken out
pub remove-keeps : (book : Book) (id other position : ℕ) (sample : Sample) (left : Option (Option ℕ)) →
    IsAt book other position sample → other ≢ id → HasOrIsGone book id left → HasOrIsGone (without book position) id left
remove-keeps book id other position sample None here apart (gone, used) = (
  λ (k, found, there).
      let before = slice_get-removed book.out position k found there.at in
      gone (before.0, found, record { at = before.2; has_id = there.has_id }),
  used,
)
remove-keeps book id other position sample (Some left) here apart (i, found, there, waits) =
    let elsewhere : i ≢ position = λ same.
    let at = subst (λ k. slice_get book.out k ≡ Some found) same there.at in
    let equal : found ≡ sample = cc in
    apart (sym here.has_id ∙ sym (ap (λ (s : Sample). s.id) equal) ∙ there.has_id) in
    let stays = slice_get-unremoved book.out position i found elsewhere there.at in
    (stays.0, found, record { at = stays.1; has_id = there.has_id }, waits)
