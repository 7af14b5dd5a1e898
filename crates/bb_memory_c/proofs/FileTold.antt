-- The codes of calls that free, post or detach the bucket at a place, by the party's note of it.
use Rattle.bb_memory_c.specs.Files.{Fits, HoldsPlace, IsNoted, IsNotedAt, JoinedFile, MayFree, MayNotPost, TellsAttach, TellsDeallocate, TellsDetach, TellsDoneWith, TellsPost, detached_number, none_detached, posted_as, put_back_number}
use Rattle.bb_memory_c.specs.declared.file_answer.PostedMessage.{PostedMessage}
use Rattle.bb_memory_c_calls.specs.Answers.{figure_of, no_figure, refused as no_chunk}
use Rattle.bb_memory_c_calls.specs.declared.code.TheConstants.{FILE_NOT_DONE as file_not_done, INVALID_ARGUMENT as invalid_argument, NOT_A_BUCKET as not_a_bucket, NOT_HELD as not_held, OK as ok, SIZE_TOO_LARGE as size_too_large}
use Rattle.bb_memory_file.specs.FileNotes.{Attaches, CachesAll, Detaches, Finishes, HasNoMessage, IsHeldNote, IsRefusal, JoinedParty, Posts, Returns, Sends}
use Rattle.bb_memory_file.specs.FileParties.{log_of}
use Rattle.bb_memory_file.specs.declared.joined.Note.{Note}
use Rattle.bb_memory_file.specs.declared.joined.Note.TheVariants.{Cached, InUse, Undone, Unheld}
use Rattle.bb_memory_file.specs.declared.joined.Refusal.{Refusal}
use Rattle.bb_memory_file.specs.declared.joined.Refusal.TheVariants.{NotABucket, NotDone, NotHeld}
use Rattle.bb_memory_file.specs.declared.party.FileParty.{FileParty}
use Rattle.bb_memory_file_machine.proofs.FileSound.{there_below}
use Rattle.bb_memory_traits.specs.PoolObject.{bucket_place}
use Rattle.std.proofs.Common.{Bool, Err, None, Ok, Option, Some, ap, arith, false, inl, inr, length, refl, subst, sym, true, ℕ, ◌<◌, ◌∙◌, ◌≡◌, ◌≢◌}
use Rattle.std.proofs.lemmas.Bool.{cases_eq}
use Rattle.std.proofs.lemmas.Option.{slice_get_within}
use Rattle.std.specs.Prelude.{if◌then◌else◌, slice_get, ◌↔◌}

in-use-refused : (refusal : Refusal) → ¬ IsRefusal (Some InUse) refusal
in-use-refused NotABucket because = because
in-use-refused NotHeld because = because
in-use-refused NotDone because = because

-- FREEING

pub given-back : (file : JoinedFile) (place number free : ℕ) (after : JoinedParty FileParty) →
    IsNoted file place number InUse → ¬ IsNotedAt file place Undone → ((free ≡ 1) ↔ CachesAll file.party) →
    (free ≢ 1 → free ≡ 0) → Returns log_of file.party number after →
    TellsDeallocate file place (figure_of free) (record file { party = after })
given-back file place number free after noted done is_free not_free did = record {
  not_held = (λ wrong. absurd (omega (arith, wrong)), λ none. absurd (none (inl (number, noted))));
  not_done = (λ wrong. absurd (omega (arith, wrong)), λ undone. absurd (done undone));
  freed = (λ _. (number, noted), λ _. refl);
  gone = λ _. (number, noted, (did, refl));
  unchanged = λ not. absurd (not refl);
  free = (λ one. ((number, noted), is_free.0 one), λ its. is_free.1 its.1);
  not_free = not_free;
}

pub not-given-back : (file : JoinedFile) (place code : ℕ) → ¬ MayFree file place →
    (code ≢ file_not_done → (code ≡ not_held) × (¬ HoldsPlace file place)) →
    (code ≡ file_not_done → IsNotedAt file place Undone) → TellsDeallocate file place (no_figure code) file
not-given-back file place code none idle busy = record {
  not_held = (
    λ is. (idle (λ same. absurd (omega (arith, is, same)))).1,
    λ free. elim (cases_eq code file_not_done) [
      | inl same ↦ absurd (free (inr (busy same)))
      | inr apart ↦ (idle apart).0
    ],
  );
  not_done = (
    busy,
    λ undone. elim (cases_eq code file_not_done) [
      | inl same ↦ same
      | inr apart ↦ absurd ((idle apart).1 (inr undone))
    ],
  );
  freed = (λ is. absurd (fails is), λ may. absurd (none may));
  gone = λ is. absurd (fails is);
  unchanged = λ _. refl;
  free = (λ wrong. absurd (omega (arith, wrong)), λ its. absurd (none its.0));
  not_free = λ _. refl;
}
  where
    fails : code ≢ ok
    fails is = elim (cases_eq code file_not_done) [
      | inl same ↦ absurd (omega (arith, is, same))
      | inr apart ↦ let its = (idle apart).0 in absurd (omega (arith, is, its))
    ]

module _ (file : JoinedFile) (place number : ℕ) (below : number < length file.party.notes)
    (there : place ≡ bucket_place file.places number)
    (one : (other : ℕ) → place ≡ bucket_place file.places other → other ≡ number) where
  -- the party's note of the bucket at the place is that of the bucket of the number
  note-at : (note : Note) → IsNotedAt file place note → slice_get file.party.notes number ≡ Some note
  note-at note at = ap (slice_get file.party.notes) (sym (one at.0 at.1.1)) ∙ at.1.0

  -- another note than this one
  other-note : (mine other : Note) → slice_get file.party.notes number ≡ Some mine → mine ≢ other → ¬ IsNotedAt file place other
  other-note mine other is apart at = let its = note-at other at in let same : mine ≡ other = cc in apart same

  is-there : (note : Note) → slice_get file.party.notes number ≡ Some note → IsNotedAt file place note
  is-there note is = (number, (is, there))

  -- DETACHING

  pub detached : (after : JoinedParty FileParty) → Detaches log_of file.party number (Ok None) after →
      TellsDetach file place (detached_number number) (record file { party = after })
  detached after did = record {
    not_held = λ none. absurd (none (inl (is-there InUse did.0)));
    detached = λ _. (number, (did.0, there), refl, (did, refl));
    undone = λ undone. absurd (other-note InUse Undone did.0 (λ e. cc) undone);
  }

  pub put-back : (after : JoinedParty FileParty) (slot : ℕ) → Detaches log_of file.party number (Ok (Some slot)) after →
      TellsDetach file place (put_back_number number slot) (record file { party = after })
  put-back after slot did = record {
    not_held = λ none. absurd (none (inr (is-there Undone did.0)));
    detached = λ free. absurd (other-note Undone InUse did.0 (λ e. cc) free);
    undone = λ _. (number, (did.0, there), inl (slot, refl, (did, refl)));
  }

  is-undone : (note : Option Note) → IsRefusal note NotDone → note ≡ Some Undone
  is-undone (Some Undone) because = refl
  is-undone (Some Unheld) because = absurd because
  is-undone (Some Cached) because = absurd because
  is-undone (Some InUse) because = absurd because
  is-undone None because = absurd because

  pub stays-in : (after : JoinedParty FileParty) → Detaches log_of file.party number (Err NotDone) after →
      TellsDetach file place (none_detached not_a_bucket) (record file { party = after })
  stays-in after did = let is = is-undone (slice_get file.party.notes number) did.0 in record {
    not_held = λ none. absurd (none (inr (is-there Undone is)));
    detached = λ free. absurd (other-note Undone InUse is (λ e. cc) free);
    undone = λ _. (number, (is, there), inr (refl, (did, refl)));
  }

  pub not-detached : (after : JoinedParty FileParty) → Detaches log_of file.party number (Err NotHeld) after →
      TellsDetach file place (none_detached not_held) (record file { party = after })
  not-detached after did = record {
    not_held = λ _. (
      refl,
      elim did.1 [
        | inl other ↦ ap (λ (p : JoinedParty FileParty). record file { party = p }) other.1
        | inr undone ↦ absurd (subst (λ n. IsRefusal n NotHeld) undone.0 did.0)
      ],
    );
    detached = λ free. absurd (subst (λ n. IsRefusal n NotHeld) (note-at InUse free) did.0);
    undone = λ undone. absurd (subst (λ n. IsRefusal n NotHeld) (note-at Undone undone) did.0);
  }

  is-none : (note : Option Note) → IsRefusal note NotABucket → note ≡ None
  is-none None because = refl
  is-none (Some Unheld) because = absurd because
  is-none (Some Cached) because = absurd because
  is-none (Some InUse) because = absurd because
  is-none (Some Undone) because = absurd because

  pub is-a-bucket : {X : Type 0} (after : JoinedParty FileParty) → Detaches log_of file.party number (Err NotABucket) after → X
  is-a-bucket after did =
      let none = is-none (slice_get file.party.notes number) did.0 in
      let it = (there_below file.party.notes number below).1 in
      absurd (cc)

  -- DONE

  pub finished : (after : JoinedParty FileParty) (slot : ℕ) → Finishes log_of file.party number (Ok slot) after →
      TellsDoneWith file place (figure_of slot) (record file { party = after })
  finished after slot did = record {
    not_held = λ none. absurd (none (is-there Undone did.0));
    undone = λ _. (number, (did.0, there), inl (slot, refl, (did, refl)));
  }

  pub unfinished : (after : JoinedParty FileParty) → Finishes log_of file.party number (Err NotDone) after →
      TellsDoneWith file place (no_figure not_a_bucket) (record file { party = after })
  unfinished after did = record {
    not_held = λ none. absurd (none (is-there Undone did.0));
    undone = λ _. (number, (did.0, there), inr (refl, (did, refl)));
  }

  pub not-finished : (after : JoinedParty FileParty) → Finishes log_of file.party number (Err NotHeld) after →
      TellsDoneWith file place (no_figure not_held) (record file { party = after })
  not-finished after did = record {
    not_held = λ _. (refl, ap (λ (p : JoinedParty FileParty). record file { party = p }) did.1);
    undone = λ undone. absurd (subst HasNoMessage (note-at Undone undone) did.0);
  }

  pub finishes-a-bucket : {X : Type 0} (after : JoinedParty FileParty) → Finishes log_of file.party number (Err NotABucket) after → X
  finishes-a-bucket after did =
      let none = did.0 in
      let it = (there_below file.party.notes number below).1 in
      absurd (cc)

-- POSTING

module _ (has_slot : Type 0) (posts : ℕ → ℕ → PostedMessage → JoinedFile → Type 0) (file : JoinedFile) (place len : ℕ) where
  pub post-refused : (code : ℕ) → has_slot → MayNotPost file place len code →
      TellsPost has_slot posts file place len (posted_as code) file
  post-refused code has because = record {
    no_slot = λ none. absurd (none has);
    not_held = λ _ free. (ap posted_as (because.not_held free), refl);
    not_done = λ _ undone. (ap posted_as (because.not_done undone), refl);
    too_large = λ _ may long. (ap posted_as (because.too_large may).1, refl);
    tried = λ _ may fits. absurd ((because.too_large may).0 fits);
  }

  pub post-tried : (number : ℕ) (told : PostedMessage) (after : JoinedFile) → has_slot → IsNoted file place number InUse →
      ¬ IsNotedAt file place Undone → Fits file len → posts number len told after →
      TellsPost has_slot posts file place len told after
  post-tried number told after has noted done fits did = record {
    no_slot = λ none. absurd (none has);
    not_held = λ _ none. absurd (none (inl (number, noted)));
    not_done = λ _ undone. absurd (done undone);
    too_large = λ _ _ long. absurd (long fits);
    tried = λ _ _ _. (number, noted, did);
  }

-- a bucket in use may be posted
module _ (file : JoinedFile) (slot number len : ℕ) (noted : slice_get file.party.notes number ≡ Some InUse) where
  pub single-refused : {X : Type 0} (refusal : Refusal) (after : JoinedParty FileParty) →
      Posts log_of file.party slot number len (Err refusal) after → X
  single-refused refusal after did = absurd (in-use-refused refusal (subst (λ n. IsRefusal n refusal) noted did.0))

  pub queued-refused : {X : Type 0} (refusal : Refusal) (after : JoinedParty FileParty) →
      Sends log_of file.party slot number len (Err refusal) after → X
  queued-refused refusal after did = absurd (in-use-refused refusal (subst (λ n. IsRefusal n refusal) noted did.0))

-- ATTACHING

held-some : (note : Option Note) → IsHeldNote note → (some : Note) × (note ≡ Some some)
held-some (Some Cached) held = (Cached, refl)
held-some (Some InUse) held = (InUse, refl)
held-some (Some Undone) held = (Undone, refl)
held-some (Some Unheld) held = absurd held
held-some None held = absurd held

pub attached-below : (party : JoinedParty FileParty) (number : ℕ) (is : Bool) (after : JoinedParty FileParty) →
    Attaches log_of party number (Ok is) after → number < length party.notes
attached-below party number true after did = slice_get_within party.notes number _ did.0
attached-below party number false after did = elim did [
  | inl tried ↦ slice_get_within party.notes number _ tried.0
  | inr held ↦ slice_get_within party.notes number _ (held-some (slice_get party.notes number) held.0).1
]

pub attached-told : (file : JoinedFile) (number : ℕ) (is : Bool) (after : JoinedParty FileParty) →
    length file.party.notes ≡ file.places.buckets → Attaches log_of file.party number (Ok is) after → TellsAttach file number
    (if is then record { code = ok; place = bucket_place file.places number } else no_chunk not_held) (record file { party = after })
attached-told file number is after long did =
    let below = attached-below file.party number is after did in record {
      past = λ past. absurd (omega (arith, past, long, below));
      tried = λ _. (is, refl, (did, refl));
    }

pub attach-past : (file : JoinedFile) (number : ℕ) (refusal : Refusal) (after : JoinedParty FileParty) →
    length file.party.notes ≡ file.places.buckets → Attaches log_of file.party number (Err refusal) after →
    TellsAttach file number (no_chunk not_a_bucket) (record file { party = after })
attach-past file number refusal after long did = record {
  past = λ _. (refl, ap (λ (p : JoinedParty FileParty). record file { party = p }) did.2);
  tried = λ below. let it = (there_below file.party.notes number (omega (arith, below, long))).1 in let none = did.0 in absurd (cc);
}
