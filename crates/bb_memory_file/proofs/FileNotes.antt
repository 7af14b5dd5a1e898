-- The notes of a party say what it knows of its buckets, before each call and after it.
use Rattle.bb_memory_file.proofs.FileMessages.{seen_away}
use Rattle.bb_memory_file.proofs.FileWalks.{path_on, walk_look, walk_nowhere, walk_on}
use Rattle.bb_memory_file.specs.FileCalls.{BeginsSearch, Gets, IsAttach, IsDeallocate, IsDetach, IsDone, IsJoin, IsPost, IsPutBack, IsReceive, IsSettled, TakesOne, unseen}
use Rattle.bb_memory_file.specs.FileCalls.received as received
use Rattle.bb_memory_file.specs.FileCalls.whereabouts as whereabouts
use Rattle.bb_memory_file.specs.FileCode.{FileLog, Has, HasNot, Holds, IsWalk, Known, LoadSlot, MissFlag, Path, Seen, Unknown, begins, known_of, looks, told}
use Rattle.bb_memory_file.specs.FileLog.{IsKnownIn, fresh_log, held_still, is_clear, is_held, seen_in, with_entry, with_seen}
use Rattle.bb_memory_file.specs.FileNames.{Counting, Entry, FileStep, Free, HeldBy, In, Message, Nowhere, Outside, Place, Settled, Slot}
use Rattle.bb_memory_file.specs.FileNotes.{AreNoted, Cached, InUse, IsHome, IsJoined, IsNoted, Note, Taken, Undone, Unheld, looked, notes_sent}
use Rattle.bb_memory_file.specs.FileNotes.taken as taken
use Rattle.bb_memory_file.specs.FileQueueCalls.{Full, IsDoneAt, IsReceipt, IsSend, KnowsOthers, Overtaken, Sending, Sent, noted_after}
use Rattle.bb_memory_file.specs.FileRuns.{CanUnlock, MayUnlock}
use Rattle.bb_memory_file_machine.specs.FileMachine.{FileScene, same_flag}
use Rattle.bb_memory_file_machine.specs.FileQueues.{FileQueue}
use Rattle.bb_memory_lists.proofs.SliceGets.{length-set_at, slice_get-replicated, slice_get-set_other, slice_get-set_same}
use Rattle.bb_memory_pool_machine.proofs.PoolSteps.{test_same}
use Rattle.std.proofs.Common.{Bool, List, None, Option, Some, [], ap, arith, false, get_or, inl, inr, length, refl, subst, sym, true, ℕ, ◌++◌, ◌<◌, ◌∙◌, ◌∷◌, ◌≡◌, ◌≢◌}
use Rattle.std.proofs.lemmas.Bool.{eqb-false, eqb-true, ne_eqb}
use Rattle.std.proofs.lemmas.List.{length-replicate}
use Rattle.std.proofs.lemmas.Option.{slice_get-get_or, slice_get_within}
use Rattle.std.specs.Prelude.{if◌then◌else◌, nat_lt, replicate, slice_get, slice_set, ◌==◌}

-- A NOTE

-- a note of what is known doesn't depend on what was seen of slots
noted_away : (known : Known) (note : Note) → IsNoted known note → IsNoted (unseen known) note
noted_away Unknown note noted = noted
noted_away (Holds None seen) note noted = noted
noted_away (Holds (Some Nowhere) seen) note noted = noted
noted_away (Holds (Some (In slot size)) seen) note noted = noted

noted_back : (known : Known) (note : Note) → IsNoted (unseen known) note → IsNoted known note
noted_back Unknown note noted = noted
noted_back (Holds None seen) note noted = noted
noted_back (Holds (Some Nowhere) seen) note noted = noted
noted_back (Holds (Some (In slot size)) seen) note noted = noted

pub noted_still : (old new : Known) (note : Note) → unseen new ≡ unseen old → IsNoted old note → IsNoted new note
noted_still old new note same noted =
    noted_back new note (subst (λ known. IsNoted known note) (sym same) (noted_away old note noted))

clear_by : (known : Known) → IsNoted known InUse → is_clear known ≡ true
clear_by Unknown noted = absurd noted
clear_by (Holds None seen) noted = absurd noted
clear_by (Holds (Some Nowhere) seen) noted = refl
clear_by (Holds (Some (In slot size)) seen) noted = absurd noted

clear_cached : (known : Known) → IsNoted known Cached → is_clear known ≡ true
clear_cached Unknown noted = absurd noted
clear_cached (Holds None seen) noted = absurd noted
clear_cached (Holds (Some Nowhere) seen) noted = refl
clear_cached (Holds (Some (In slot size)) seen) noted = absurd noted

-- a bucket in use may be cached, and a cached one may be in use
to_cached : (known : Known) → IsNoted known InUse → IsNoted known Cached
to_cached Unknown noted = absurd noted
to_cached (Holds None seen) noted = absurd noted
to_cached (Holds (Some Nowhere) seen) noted = tt
to_cached (Holds (Some (In slot size)) seen) noted = absurd noted

from_cached : (known : Known) → IsNoted known Cached → IsNoted known InUse
from_cached Unknown noted = absurd noted
from_cached (Holds None seen) noted = absurd noted
from_cached (Holds (Some Nowhere) seen) noted = tt
from_cached (Holds (Some (In slot size)) seen) noted = absurd noted

clear_noted : (known : Known) → is_clear known ≡ true → IsNoted known InUse
clear_noted Unknown clear = absurd (cc)
clear_noted (Holds None seen) clear = absurd (cc)
clear_noted (Holds (Some Nowhere) seen) clear = tt
clear_noted (Holds (Some (In slot size)) seen) clear = absurd (cc)

held_by : (known : Known) → IsNoted known Undone → is_held known ≡ true
held_by Unknown noted = absurd noted
held_by (Holds entry seen) noted = refl

seen_by : (known : Known) (seen : Seen) → IsNoted known Undone → (entry : Option Entry) × (with_seen known seen ≡ Holds entry seen)
seen_by Unknown seen noted = absurd noted
seen_by (Holds entry old) seen noted = (entry, refl)

-- a bucket with a note is one of as many
pub within : (notes : List Note) (bucket : ℕ) (note : Note) (size : ℕ) → size ≡ length notes →
    slice_get notes bucket ≡ Some note → bucket < size
within notes bucket note size same is = let less = slice_get_within notes bucket note is in omega (arith, less, same)

module _ (log : FileLog) (notes : List Note) (joined : IsJoined log notes) (bucket : ℕ) where
  -- a bucket with a note is one of the file
  pub below_by : (note : Note) → slice_get notes bucket ≡ Some note → bucket < log.scene.buckets
  below_by note is = within notes bucket note log.scene.buckets (sym joined.noted.enough) is

  -- the party holds a bucket in use, which is in no slot
  pub in_use_clear : slice_get notes bucket ≡ Some InUse → is_clear (known_of log bucket) ≡ true
  in_use_clear is = clear_by (known_of log bucket) (joined.noted.each bucket InUse is)

  -- and so is one that it caches
  pub cached_clear : slice_get notes bucket ≡ Some Cached → is_clear (known_of log bucket) ≡ true
  cached_clear is = clear_cached (known_of log bucket) (joined.noted.each bucket Cached is)

  -- the party holds a bucket with whose message it isn't done
  pub undone_held : slice_get notes bucket ≡ Some Undone → is_held (known_of log bucket) ≡ true
  undone_held is = held_by (known_of log bucket) (joined.noted.each bucket Undone is)

  -- the party knows where such a bucket is once it has found it in a slot
  pub undone_in : (new : FileLog) (slot lap : ℕ) → slice_get notes bucket ≡ Some Undone →
      new ≡ looked log slot (Message lap bucket) →
      IsKnownIn new bucket slot lap
  undone_in new slot lap is told = subst (λ log. IsKnownIn log bucket slot lap) (sym told)
      (rw (test_same bucket bucket refl) (seen_by (known_of log bucket) (Has slot lap) (joined.noted.each bucket Undone is)))

-- THE INVARIANT

same_some : {X : Type 0} (one other : X) → Some one ≡ Some other → one ≡ other
same_some one other same = cc

-- the process walks from no call to no call
abbrev Goes : FileLog → FileLog → Type 0
Goes old new = (process : ℕ) → (taken : List FileStep) × IsWalk process old Outside new taken Outside

home_on : (old new : FileLog) → IsHome old → Goes old new → IsHome new
home_on old new home goes process =
    let first = home process in
    let next = goes process in (
      next.0 ++ first.0,
      subst (λ (scene : _). Path process (fresh_log scene new.party) (Counting new.party) new (next.0 ++ first.0) Outside)
          (sym next.1.scene)
          (subst (λ (party : ℕ). Path process (fresh_log old.scene party) (Counting party) new (next.0 ++ first.0) Outside)
          (sym next.1.party)
          (path_on process (fresh_log old.scene old.party) old
          (Counting old.party) Outside first.0 first.1 new next.0 Outside next.1.path)),
    )

same_buckets : (old new : FileLog) → Goes old new → new.scene.buckets ≡ old.scene.buckets
same_buckets old new goes = ap (λ scene. scene.buckets) (goes 0).1.scene

module _ (old new : FileLog) (notes : List Note) (joined : IsJoined old notes) (goes : Goes old new) where
  -- the party goes on with these notes, each of which is right
  go_on : (later : List Note) → length later ≡ length notes →
      ((other : ℕ) (note : Note) → slice_get later other ≡ Some note → IsNoted (known_of new other) note) → IsJoined new later
  go_on later same each = record {
    home = home_on old new joined.home goes;
    noted = record { enough = same ∙ joined.noted.enough ∙ sym (same_buckets old new goes); each = each };
  }

  -- of each bucket the party knows what it knew
  pub go_same : ((other : ℕ) → unseen (known_of new other) ≡ unseen (known_of old other)) → IsJoined new notes
  go_same others = go_on notes refl
      (λ other note is. noted_still (known_of old other) (known_of new other) note (others other) (joined.noted.each other note is))

  module _ (bucket : ℕ) (note : Note) (is : IsNoted (known_of new bucket) note)
      (others : (other : ℕ) → other ≢ bucket → unseen (known_of new other) ≡ unseen (known_of old other)) where
    each_by : (other : ℕ) (noted : Note) (same : Bool) → (other == bucket) ≡ same →
        (other ≡ bucket → noted ≡ note) → (other ≢ bucket → slice_get notes other ≡ Some noted) → IsNoted (known_of new other) noted
    each_by other noted true e this that =
        let at : other ≡ bucket = eqb-true other bucket e in
        subst (λ (b : ℕ). IsNoted (known_of new b) noted) (sym at) (subst (λ n. IsNoted (known_of new bucket) n) (sym (this at)) is)
    each_by other noted false e this that =
        let apart : other ≢ bucket = eqb-false other bucket e in
        noted_still (known_of old other) (known_of new other) noted (others other apart)
        (joined.noted.each other noted (that apart))

    -- the party notes something else of a bucket
    pub go_noted : (before : Note) → slice_get notes bucket ≡ Some before → IsJoined new (slice_set notes bucket note)
    go_noted before was = go_on (slice_set notes bucket note) (length-set_at notes bucket note)
        (λ other noted there. each_by other noted (other == bucket) refl
        (λ at. same_some noted note (sym there
        ∙ ap (slice_get (slice_set notes bucket note)) at ∙ slice_get-set_same notes bucket note before was))
        (λ apart. sym (slice_get-set_other notes bucket other note apart) ∙ there))

    -- what was noted of the bucket is right again
    pub go_again : slice_get notes bucket ≡ Some note → IsJoined new notes
    go_again was = go_on notes refl
        (λ other noted there. each_by other noted (other == bucket) refl
        (λ at. same_some noted note (sym there ∙ ap (slice_get notes) at ∙ was)) (λ apart. there))

-- A LOOK

-- what was noted is right after a look at a slot
pub after_look : (old new : FileLog) (notes : List Note) (slot : ℕ) (word : Slot) → IsJoined old notes →
    new ≡ looked old slot word →
    IsJoined new notes
after_look old new notes slot word joined is = subst (λ log. IsJoined log notes) (sym is)
    (go_same old (looked old slot word) notes joined
    (λ process. ([], record { path = looks old [] Outside (LoadSlot slot word) begins tt; scene = refl; party = refl }))
    (λ other. seen_away (known_of old other) (seen_in other slot word)))

-- KNOWLEDGE OF A BUCKET

-- a look at the flag of a bucket that the party hasn't taken
still_unheld : (known : Known) (held : Bool) → IsNoted known Unheld → IsNoted (if held then held_still known else Unknown) Unheld
still_unheld known false noted = tt
still_unheld Unknown true noted = tt
still_unheld (Holds entry seen) true noted = noted

-- a post that is given up
given_up : (known : Known) (seen : Seen) (entry : Entry) → IsNoted known InUse →
    IsNoted (with_entry (with_entry (with_seen known seen) entry) Nowhere) InUse
given_up Unknown seen entry noted = absurd noted
given_up (Holds before old) seen entry noted = tt

-- a message that the party is done with
finished : (known : Known) (seen : Seen) → IsNoted known Undone → IsNoted (with_entry (with_seen known seen) Nowhere) InUse
finished Unknown seen noted = absurd noted
finished (Holds before old) seen noted = tt

-- CALLS

module _ (old new : FileLog) (notes : List Note) (joined : IsJoined old notes) (bucket : ℕ) where
  -- what is so of the log with these events is so of the log that got them
  abbrev IsSame : FileLog → ℕ → Type 0
  IsSame log other = unseen (known_of log other) ≡ unseen (known_of old other)

  apart_by : (other : ℕ) → other ≢ bucket → (bucket == other) ≡ false
  apart_by other apart = ne_eqb bucket other (λ same. apart (sym same))

  pub after_deallocate : (before : Note) → slice_get notes bucket ≡ Some before →
      ((process : ℕ) → IsDeallocate process old bucket new) →
      IsJoined new (slice_set notes bucket Unheld)
  after_deallocate before was did = go_noted old new notes joined (λ process. (_, (did process).0)) bucket Unheld
      (subst (λ log. IsNoted (known_of log bucket) Unheld) (sym (did 0).1) (rw (test_same bucket bucket refl) tt))
      (λ other apart. subst (λ log. IsSame log other) (sym (did 0).1) (rw (apart_by other apart) refl)) before was

  pub after_detach : slice_get notes bucket ≡ Some InUse → ((process : ℕ) → IsDetach process old bucket new) →
      IsJoined new (slice_set notes bucket Unheld)
  after_detach was did = go_noted old new notes joined (λ process. (_, (did process).0)) bucket Unheld
      (subst (λ log. IsNoted (known_of log bucket) Unheld) (sym (did 0).1) (rw (test_same bucket bucket refl) tt))
      (λ other apart. subst (λ log. IsSame log other) (sym (did 0).1) (rw (apart_by other apart) refl)) InUse was

  pub after_attach : slice_get notes bucket ≡ Some Unheld → ((process : ℕ) → IsAttach process old bucket true new) →
      IsJoined new (slice_set notes bucket InUse)
  after_attach was did = go_noted old new notes joined (λ process. (_, (did process).1)) bucket InUse
      (subst (λ log. IsNoted (known_of log bucket) InUse) (sym (did 0).2)
      (rw (test_same bucket bucket refl, test_same old.party old.party refl) tt))
      (λ other apart. subst (λ log. IsSame log other) (sym (did 0).2) (rw (apart_by other apart) refl)) Unheld was

  pub after_no_attach : slice_get notes bucket ≡ Some Unheld → ((process : ℕ) → IsAttach process old bucket false new) →
      IsJoined new notes
  after_no_attach was did = elim (did 0).1 [
    | inl (flag, gets, not_so) ↦ go_again old new notes joined (λ process. (_, (did process).0)) bucket Unheld
        (subst (λ log. IsNoted (known_of log bucket) Unheld) (sym gets) (rw (test_same bucket bucket refl)
        (still_unheld (known_of old bucket) (same_flag flag (HeldBy old.party)) (joined.noted.each bucket Unheld was))))
        (λ other apart. subst (λ log. IsSame log other) (sym gets) (rw (apart_by other apart) refl)) was
    | inr (from, gets) ↦ go_again old new notes joined (λ process. (_, (did process).0)) bucket Unheld
        (subst (λ log. IsNoted (known_of log bucket) Unheld) (sym gets) (rw (test_same bucket bucket refl) tt))
        (λ other apart. subst (λ log. IsSame log other) (sym gets) (rw (apart_by other apart) refl)) was
  ]

  module _ (slot : ℕ) where
    -- of another bucket a message's slot says nothing that is noted
    pub after_post : (size : ℕ) → slice_get notes bucket ≡ Some InUse →
        ((process : ℕ) → IsPost process old slot bucket size true new) → IsJoined new (slice_set notes bucket Unheld)
    after_post size was did = go_noted old new notes joined (λ process. (_, (did process).1)) bucket Unheld
        (subst (λ log. IsNoted (known_of log bucket) Unheld) (sym (did 0).2) (rw (test_same bucket bucket refl) tt))
        (λ other apart. subst (λ log. IsSame log other) (sym (did 0).2) (rw (apart_by other apart)
        (seen_away (with_seen (known_of old other) (HasNot slot)) (HasNot slot) ∙ seen_away (known_of old other) (HasNot slot))))
        InUse was

    pub after_no_post : (size : ℕ) → slice_get notes bucket ≡ Some InUse →
        ((process : ℕ) → IsPost process old slot bucket size false new) → IsJoined new notes
    after_no_post size was did = elim (did 0).1 [
      | inl (other, gets, made) ↦ after_look old new notes slot (Message (did 0).0 other) joined gets
      | inr (gets, made) ↦ go_again old new notes joined (λ process. goes_up (did process)) bucket InUse
          (subst (λ log. IsNoted (known_of log bucket) InUse) (sym gets) (rw (test_same bucket bucket refl)
          (given_up (known_of old bucket) (HasNot slot) (In slot size) (joined.noted.each bucket InUse was))))
          (λ other apart. subst (λ log. IsSame log other) (sym gets) (rw (apart_by other apart)
          (seen_away (known_of old other) (HasNot slot)))) was
    ]
      where
        goes_up : {process : ℕ} → IsPost process old slot bucket size false new →
            (taken : List FileStep) × IsWalk process old Outside new taken Outside
        goes_up (lap, inl (other, gets, made)) = ([], made)
        goes_up (lap, inr (gets, made)) = (_, made)

    module _ (lap size : ℕ) (was : slice_get notes bucket ≡ Some Unheld) where
      pub after_not_sent : ((process : ℕ) → IsReceive process old slot lap bucket size received.NotSent new) → IsJoined new notes
      after_not_sent did = go_same old new notes joined (λ process. (_, (did process).0))
          (λ other. subst (λ log. IsSame log other) (sym (did 0).1) refl)

      pub after_wrong : ((process : ℕ) → IsReceive process old slot lap bucket size received.Wrong new) → IsJoined new notes
      after_wrong did = go_again old new notes joined (λ process. (_, (did process).2)) bucket Unheld
          (subst (λ log. IsNoted (known_of log bucket) Unheld) (sym (did 0).3) (rw (test_same bucket bucket refl) tt))
          (λ other apart. subst (λ log. IsSame log other) (sym (did 0).3) (rw (apart_by other apart) refl)) was

      pub after_message : (length : ℕ) →
          ((process : ℕ) → IsReceive process old slot lap bucket size (received.Message length) new) →
          IsJoined new (slice_set notes bucket Undone)
      after_message length did = go_noted old new notes joined (λ process. (_, (did process).1)) bucket Undone
          (subst (λ log. IsNoted (known_of log bucket) Undone) (sym (did 0).2)
          (rw (test_same bucket bucket refl, test_same old.party old.party refl) tt))
          (λ other apart. subst (λ log. IsSame log other) (sym (did 0).2) (rw (apart_by other apart) refl)) Unheld was

    pub after_done : (lap : ℕ) → slice_get notes bucket ≡ Some Undone → ((process : ℕ) → IsDone process old slot bucket lap new) →
        IsJoined new (slice_set notes bucket InUse)
    after_done lap was did = go_noted old new notes joined (λ process. (_, (did process).0)) bucket InUse
        (subst (λ log. IsNoted (known_of log bucket) InUse) (sym (did 0).1) (rw (test_same bucket bucket refl)
        (finished (known_of old bucket) (HasNot slot) (joined.noted.each bucket Undone was))))
        (λ other apart. subst (λ log. IsSame log other) (sym (did 0).1) (rw (apart_by other apart)
        (seen_away (known_of old other) (HasNot slot)))) Undone was

    pub after_put_back : (lap : ℕ) → slice_get notes bucket ≡ Some Undone →
        ((process : ℕ) → IsPutBack process old bucket (whereabouts.In slot lap) new) → IsJoined new (slice_set notes bucket Unheld)
    after_put_back lap was did = go_noted old new notes joined (λ process. (_, (did process).0)) bucket Unheld
        (subst (λ known. IsNoted known Unheld) (sym (did 0).1) tt) (did 0).2 Undone was

  pub after_entered : slice_get notes bucket ≡ Some Undone →
      ((process : ℕ) → IsPutBack process old bucket whereabouts.Entered new) → IsJoined new notes
  after_entered was did = go_again old new notes joined (λ process. (_, (did process).0)) bucket Undone
      (subst (λ known. IsNoted known Undone) (sym (did 0).1.2) tt) (did 0).2 was

  pub after_nowhere : slice_get notes bucket ≡ Some Undone →
      ((process : ℕ) → IsPutBack process old bucket whereabouts.Nowhere new) → IsJoined new (slice_set notes bucket InUse)
  after_nowhere was did = go_noted old new notes joined (λ process. (_, (did process).0)) bucket InUse
      (subst (λ known. IsNoted known InUse) (sym (did 0).1.1) tt) (did 0).2 Undone was

  module _ (was : slice_get notes bucket ≡ Some Undone) (others : KnowsOthers old bucket new) where
    pub after_done_in : (slot lap : ℕ) → ((process : ℕ) → IsDoneAt process old bucket (whereabouts.In slot lap) new) →
        IsJoined new (slice_set notes bucket InUse)
    after_done_in slot lap did = go_noted old new notes joined (λ process. goes_by (did process)) bucket InUse
        (clear_noted (known_of new bucket) (did 0).2) others Undone was
      where
        goes_by : {process : ℕ} → IsDoneAt process old bucket (whereabouts.In slot lap) new →
            (taken : List FileStep) × IsWalk process old Outside new taken Outside
        goes_by {process} (below, (before, found, by, gets, first, (next, emptied)), clear) =
            (_, walk_on process old before new Outside Outside Outside [] _ first next)

    pub after_done_entered : ((process : ℕ) → IsDoneAt process old bucket whereabouts.Entered new) → IsJoined new notes
    after_done_entered did = go_again old new notes joined (λ process. (_, (did process).0)) bucket Undone
        (subst (λ known. IsNoted known Undone) (sym (did 0).1.2) tt) others was

    pub after_done_nowhere : ((process : ℕ) → IsDoneAt process old bucket whereabouts.Nowhere new) →
        IsJoined new (slice_set notes bucket InUse)
    after_done_nowhere did = go_noted old new notes joined (λ process. (_, (did process).0)) bucket InUse
        (subst (λ known. IsNoted known InUse) (sym (did 0).1.1) tt) others Undone was

  -- a sender
  module _ (queue : FileQueue) (size : ℕ) (was : slice_get notes bucket ≡ Some InUse) (others : KnowsOthers old bucket new) where
    pub after_sent : (sending : Sending) (slot : ℕ) → sending ≡ Sent slot →
        ((process : ℕ) → IsSend process old queue bucket size sending new) → IsJoined new (slice_set notes bucket Unheld)
    after_sent sending slot is did = by_sent
        (λ process. subst (λ (s : Sending). IsSend process old queue bucket size s new) is (did process))
      where
        by_sent : ((process : ℕ) → IsSend process old queue bucket size (Sent slot) new) → IsJoined new (slice_set notes bucket Unheld)
        by_sent sent = go_noted old new notes joined (λ process. (_, (sent process).9)) bucket Unheld
            (subst (λ known. IsNoted known Unheld) (sym (sent 0).10) tt) others InUse was

    pub after_unsent : (sending : Sending) → ((slot : ℕ) → sending ≢ Sent slot) →
        ((process : ℕ) → IsSend process old queue bucket size sending new) → IsJoined new notes
    after_unsent (Sent slot) other did = absurd (other slot refl)
    after_unsent Full other did = go_again old new notes joined (λ process. (_, (did process).10)) bucket InUse
        (clear_noted (known_of new bucket) (did 0).11) others was
    after_unsent Overtaken other did = go_again old new notes joined (λ process. (_, (did process).2)) bucket InUse
        (clear_noted (known_of new bucket) (did 0).3) others was

-- a receiver
receipt_goes : (process : ℕ) (old new : FileLog) (notes : List Note) (queue : FileQueue) (size : ℕ) (answer : Taken) →
    IsReceipt process old notes queue size answer new → (steps : List FileStep) × IsWalk process old Outside new steps Outside
receipt_goes process old new notes queue size taken.Empty did = (_, did.5)
receipt_goes process old new notes queue size (taken.Message bucket bytes) did =
    (_, walk_on process old did.2 new Outside Outside Outside [] _ did.4 did.8.1)
receipt_goes process old new notes queue size taken.NotSent did = (_, did.0)
receipt_goes process old new notes queue size taken.Wrong (inl did) = (_, did.0)
receipt_goes process old new notes queue size taken.Wrong (inr did) =
    (_, walk_on process old did.3 new Outside Outside Outside [] _ did.5 did.7.2)

-- a message that a receiver takes is in a bucket that the party doesn't hold
pub received_unheld : (process : ℕ) (old new : FileLog) (notes : List Note) (queue : FileQueue) (size : ℕ) (answer : Taken)
    (bucket bytes : ℕ) → answer ≡ taken.Message bucket bytes → IsReceipt process old notes queue size answer new →
    slice_get notes bucket ≡ Some Unheld
received_unheld process old new notes queue size answer bucket bytes is did =
    unheld_by (subst (λ (a : Taken). IsReceipt process old notes queue size a new) is did)
  where
    unheld_by : IsReceipt process old notes queue size (taken.Message bucket bytes) new → slice_get notes bucket ≡ Some Unheld
    unheld_by receipt = receipt.6

pub after_receipt : (old new : FileLog) (notes later : List Note) (queue : FileQueue) (size : ℕ) (answer : Taken) →
    IsJoined old notes → ((process : ℕ) → IsReceipt process old notes queue size answer new) → AreNoted new later →
    IsJoined new later
after_receipt old new notes later queue size answer joined did noted = record {
  home = home_on old new joined.home (λ process. receipt_goes process old new notes queue size answer (did process));
  noted = noted;
}

-- the notes stay if nothing is sent, or received
pub unsent_notes : (notes : List Note) (bucket : ℕ) (sending : Sending) → ((slot : ℕ) → sending ≢ Sent slot) →
    notes_sent notes bucket sending ≡ notes
unsent_notes notes bucket (Sent slot) other = absurd (other slot refl)
unsent_notes notes bucket Full other = refl
unsent_notes notes bucket Overtaken other = refl

pub unreceived_notes : (notes : List Note) (answer : Taken) →
    ((bucket length : ℕ) → answer ≢ taken.Message bucket length) → noted_after notes answer ≡ notes
unreceived_notes notes taken.Empty other = refl
unreceived_notes notes taken.Wrong other = refl
unreceived_notes notes taken.NotSent other = refl
unreceived_notes notes (taken.Message bucket length) other = absurd (other bucket length refl)

-- ALL BUCKETS

stays : (log : FileLog) → Goes log log
stays log process = ([], walk_nowhere process log Outside)

pub after_all : (old new : FileLog) (notes : List Note) (freed : ℕ) → IsJoined old notes →
    ((process : ℕ) → IsSettled process old false Outside freed [] new Outside) → IsJoined new (replicate (length notes) Unheld)
after_all old new notes freed joined did =
    let goes : Goes old new = λ process. ((did process).taken, (did process).walk) in
    go_on old new notes joined goes (replicate (length notes) Unheld) (length-replicate (length notes) Unheld)
    (λ other note is.
    let unheld = slice_get-replicated (length notes) other Unheld note is in
    let below = slice_get_within (replicate (length notes) Unheld) other note is in
    let same = length-replicate (length notes) Unheld in
    let enough = joined.noted.enough in
    subst (λ n. IsNoted (known_of new other) n) unheld
    (subst (λ known. IsNoted known Unheld) (sym ((did 0).unknown other (omega (arith, below, same, enough)))) tt))

-- the party caches a bucket that was in use
pub after_cached : (log : FileLog) (notes : List Note) (bucket : ℕ) → IsJoined log notes → slice_get notes bucket ≡ Some InUse →
    IsJoined log (slice_set notes bucket Cached)
after_cached log notes bucket joined was = go_noted log log notes joined (stays log) bucket Cached
    (to_cached (known_of log bucket) (joined.noted.each bucket InUse was)) (λ other apart. refl) InUse was

-- the party takes a bucket that was cached
pub after_popped : (log : FileLog) (notes : List Note) (bucket : ℕ) → IsJoined log notes → slice_get notes bucket ≡ Some Cached →
    IsJoined log (slice_set notes bucket InUse)
after_popped log notes bucket joined was = go_noted log log notes joined (stays log) bucket InUse
    (from_cached (known_of log bucket) (joined.noted.each bucket Cached was)) (λ other apart. refl) Cached was

pub after_join : (old new : FileLog) → old.events ≡ [] → ((process : ℕ) → IsJoin process old true new) →
    IsJoined new (replicate old.scene.buckets Unheld)
after_join old new fresh did = record {
  home = λ process.
      let settled = (did process).4 in (
        settled.taken,
        subst (λ (scene : FileScene). Path process (fresh_log scene new.party) (Counting new.party) new settled.taken Outside)
            (sym settled.walk.scene)
            (subst (λ (party : ℕ). Path process (fresh_log old.scene party) (Counting party) new settled.taken Outside)
            (sym settled.walk.party)
            (subst (λ (log : FileLog). Path process log (Counting old.party) new settled.taken Outside)
            (ap (λ events. record old { events = events }) fresh) settled.walk.path)),
      );
  noted = record {
    enough = length-replicate old.scene.buckets Unheld ∙ sym (ap (λ (scene : FileScene). scene.buckets) (did 0).4.walk.scene);
    each = λ other note is.
        let below = slice_get_within (replicate old.scene.buckets Unheld) other note is in
        let same = length-replicate old.scene.buckets Unheld in
        subst (λ n. IsNoted (known_of new other) n) (slice_get-replicated old.scene.buckets other Unheld note is)
        (subst (λ known. IsNoted known Unheld) (sym ((did 0).4.unknown other (omega (arith, below, same)))) tt);
  };
}

module _ (old new : FileLog) (notes : List Note) (joined : IsJoined old notes) where
  pub after_allocate : (bucket : ℕ) → TakesOne old (Some bucket) new → IsJoined new (slice_set notes bucket InUse)
  after_allocate bucket takes = go_noted old new notes joined (λ process. (_, takes.0 process)) bucket InUse
      (subst (λ known. IsNoted known InUse) (sym takes.2.0) tt) (λ other apart. ap unseen (takes.2.1 other apart))
      (get_or notes bucket Unheld)
      (let enough = joined.noted.enough in
      let below = takes.1 in slice_get-get_or notes bucket Unheld (omega (arith, below, enough)))

  pub after_no_allocate : TakesOne old None new → IsJoined new notes
  after_no_allocate takes =
      go_same old new notes joined (λ process. (_, takes.0 process)) (λ other. ap unseen (takes.1 other))

  pub after_no_first : (hint : ℕ) → BeginsSearch old hint new → IsJoined new notes
  after_no_first hint begun = by_test (nat_lt hint old.scene.buckets) begun
    where
      by_test : (is : Bool) → Gets old (if is then MissFlag hint Free ∷ [] else []) new → IsJoined new notes
      by_test true gets = go_same old new notes joined
          (λ process. ([], walk_look process old new Outside (MissFlag hint Free) tt gets))
          (λ other. ap (λ (log : FileLog). unseen (known_of log other)) gets)
      by_test false gets = subst (λ log. IsJoined log notes) (sym gets) joined

-- THE LOCK

-- a process that has settled the party's number may free its lock
pub home_unlocks : (old new : FileLog) → IsHome old →
    ((process : ℕ) → (taken : List FileStep) × IsWalk process old Outside new taken (Settled old.party)) → CanUnlock new
home_unlocks old new home goes process =
    let first = home process in
    let next = goes process in (
      next.0 ++ first.0,
      Settled new.party,
      subst (λ (scene : FileScene). Path process (fresh_log scene new.party) (Counting new.party) new (next.0 ++ first.0)
          (Settled new.party))
          (sym next.1.scene)
          (subst (λ (party : ℕ). Path process (fresh_log old.scene party) (Counting party) new (next.0 ++ first.0) (Settled party))
          (sym next.1.party) (path_on process (fresh_log old.scene old.party) old
          (Counting old.party) Outside first.0 first.1 new next.0
          (Settled old.party) next.1.path)),
      inl refl,
    )

-- so may one that has just counted the lock, or has settled the number right after it took the lock
pub fresh_unlocks : (old new : FileLog) (there : ℕ → Place) → old.events ≡ [] →
    ((process : ℕ) → (taken : List FileStep) × IsWalk process old (Counting old.party) new taken (there old.party)) →
    MayUnlock new.party (there new.party) → CanUnlock new
fresh_unlocks old new there fresh goes may process =
    let walk = (goes process).1 in (
      (goes process).0,
      there new.party,
      subst (λ (scene : FileScene). Path process (fresh_log scene new.party) (Counting new.party) new (goes process).0
          (there new.party))
          (sym walk.scene)
          (subst (λ (party : ℕ). Path process (fresh_log old.scene party) (Counting party) new (goes process).0 (there party))
          (sym walk.party)
          (subst (λ (log : FileLog). Path process log (Counting old.party) new (goes process).0 (there old.party))
          (ap (λ events. record old { events = events }) fresh) walk.path)),
      may,
    )
