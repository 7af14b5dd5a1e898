-- The notes of a party while it looks at the messages of a queue, and when it takes one.
use Rattle.bb_memory_file.proofs.FileNotes.{noted_still}
use Rattle.bb_memory_file.proofs.FileQueueWalks.{look_later, moment_trans}
use Rattle.bb_memory_file.specs.FileCalls.{IsReceive, unseen}
use Rattle.bb_memory_file.specs.FileCalls.received as received
use Rattle.bb_memory_file.specs.FileCode.{Event, FileLog, Holds, Known, LoadFlag, MissFlag, Unknown, known_of, told}
use Rattle.bb_memory_file.specs.FileLog.{held_still, is_held}
use Rattle.bb_memory_file.specs.FileNames.{DetachedBy, FileFlag, Free, HeldBy, Message, SentTo, Slot}
use Rattle.bb_memory_file.specs.FileNotes.{AreNoted, IsNoted, Note, Undone, Unheld}
use Rattle.bb_memory_file.specs.FileQueueLooks.{CanPass, Look, held, over, unsent}
use Rattle.bb_memory_file.specs.FileQueueSteps.{KnowsSame, Passed, was_held, was_over, was_unsent}
use Rattle.bb_memory_file_machine.specs.FileMachine.{same_flag}
use Rattle.bb_memory_file_machine.specs.FileQueues.{IsMoment, earlier, lap_said, now}
use Rattle.bb_memory_lists.proofs.SliceGets.{length-set_at, slice_get-set_other, slice_get-set_same}
use Rattle.bb_memory_pool_machine.proofs.PoolSteps.{test_same}
use Rattle.std.proofs.Common.{Bool, List, Some, ap, false, length, refl, subst, sym, true, ℕ, ◌∙◌, ◌∷◌, ◌≡◌, ◌≢◌}
use Rattle.std.proofs.lemmas.Bool.{eqb-false, eqb-true, ne_eqb}
use Rattle.std.specs.Prelude.{if◌then◌else◌, slice_get, slice_set, ◌==◌}

-- NOTES

-- a look at the flag of a bucket that the party hasn't taken
unheld_still : (known : Known) (found : Bool) → IsNoted known Unheld → IsNoted (if found then held_still known else Unknown) Unheld
unheld_still known false noted = tt
unheld_still Unknown true noted = tt
unheld_still (Holds entry seen) true noted = noted

undone_held : (known : Known) → IsNoted known Undone → is_held known ≡ true
undone_held Unknown noted = absurd noted
undone_held (Holds entry seen) noted = refl

same_some : {X : Type 0} (one other : X) → Some one ≡ Some other → one ≡ other
same_some one other same = cc

-- of each bucket the party knows what it knew
pub noted_same : (old new : FileLog) (notes : List Note) → new.scene ≡ old.scene → KnowsSame old new → AreNoted old notes →
    AreNoted new notes
noted_same old new notes scene same noted = record {
  enough = noted.enough ∙ ap (λ s. s.buckets) (sym scene);
  each = λ bucket note is. noted_still (known_of old bucket) (known_of new bucket) note (same bucket) (noted.each bucket note is);
}

module _ (old new : FileLog) (notes : List Note) (bucket : ℕ) (was : slice_get notes bucket ≡ Some Unheld)
    (scene : new.scene ≡ old.scene)
    (others : (other : ℕ) → other ≢ bucket → unseen (known_of new other) ≡ unseen (known_of old other))
    (noted : AreNoted old notes) where
  other_by : (other : ℕ) (note : Note) → other ≢ bucket → slice_get notes other ≡ Some note → IsNoted (known_of new other) note
  other_by other note apart is =
      noted_still (known_of old other) (known_of new other) note (others other apart) (noted.each other note is)

  -- what was noted of the bucket is right again
  pub noted_again : IsNoted (known_of new bucket) Unheld → AreNoted new notes
  noted_again right = record {
    enough = noted.enough ∙ ap (λ s. s.buckets) (sym scene);
    each = λ other note is. by_bucket other note is (other == bucket) refl;
  }
    where
      by_bucket : (other : ℕ) (note : Note) → slice_get notes other ≡ Some note → (same : Bool) → (other == bucket) ≡ same →
          IsNoted (known_of new other) note
      by_bucket other note is true e =
          let at : other ≡ bucket = eqb-true other bucket e in
          let here : note ≡ Unheld = same_some note Unheld (sym is ∙ ap (slice_get notes) at ∙ was) in
          subst (λ (b : ℕ). IsNoted (known_of new b) note) (sym at)
          (subst (λ n. IsNoted (known_of new bucket) n) (sym here) right)
      by_bucket other note is false e = other_by other note (eqb-false other bucket e) is

  -- the party has taken the message
  pub noted_undone : IsNoted (known_of new bucket) Undone → AreNoted new (slice_set notes bucket Undone)
  noted_undone right = record {
    enough = length-set_at notes bucket Undone ∙ noted.enough ∙ ap (λ s. s.buckets) (sym scene);
    each = λ other note is. by_bucket other note is (other == bucket) refl;
  }
    where
      by_bucket : (other : ℕ) (note : Note) → slice_get (slice_set notes bucket Undone) other ≡ Some note → (same : Bool) →
          (other == bucket) ≡ same → IsNoted (known_of new other) note
      by_bucket other note is true e =
          let at : other ≡ bucket = eqb-true other bucket e in
          let here : note ≡ Undone =
          same_some note Undone (sym is ∙ ap (slice_get (slice_set notes bucket Undone)) at
          ∙ slice_get-set_same notes bucket Undone Unheld was) in
          subst (λ (b : ℕ). IsNoted (known_of new b) note) (sym at)
          (subst (λ n. IsNoted (known_of new bucket) n) (sym here) right)
      by_bucket other note is false e =
          let apart = eqb-false other bucket e in
          other_by other note apart (sym (slice_get-set_other notes bucket other Undone apart) ∙ is)

module _ (old : FileLog) (notes : List Note) (bucket : ℕ) (was : slice_get notes bucket ≡ Some Unheld) (noted : AreNoted old notes)
  where
    apart_by : (other : ℕ) → other ≢ bucket → (bucket == other) ≡ false
    apart_by other apart = ne_eqb bucket other (λ same. apart (sym same))

    -- a look at the bucket's flag
    pub noted_flag : (new : FileLog) (found : FileFlag) → new ≡ told old (LoadFlag bucket found) → AreNoted new notes
    noted_flag new found is = subst (λ log. AreNoted log notes) (sym is)
        (noted_again old (told old (LoadFlag bucket found)) notes bucket was refl
        (λ other apart. rw (apart_by other apart) refl) noted
        (rw (test_same bucket bucket refl)
        (unheld_still (known_of old bucket) (same_flag found (HeldBy old.party)) (noted.each bucket Unheld was))))

    module _ (slot lap size : ℕ) (new : FileLog) where
      pub noted_missed : IsReceive 0 old slot lap bucket size received.NotSent new → AreNoted new notes
      noted_missed did = subst (λ log. AreNoted log notes) (sym did.1)
          (noted_same old (told old (MissFlag bucket (SentTo slot lap))) notes refl (λ other. refl) noted)

      pub noted_wrong : IsReceive 0 old slot lap bucket size received.Wrong new → AreNoted new notes
      noted_wrong did = noted_again old new notes bucket was (ap (λ (log : FileLog). log.scene) did.3)
          (λ other apart. subst (λ log. unseen (known_of log other) ≡ unseen (known_of old other)) (sym did.3)
          (rw (apart_by other apart) refl)) noted
          (subst (λ log. IsNoted (known_of log bucket) Unheld) (sym did.3) (rw (test_same bucket bucket refl) tt))

      pub noted_message : (length : ℕ) → IsReceive 0 old slot lap bucket size (received.Message length) new →
          AreNoted new (slice_set notes bucket Undone)
      noted_message length did = noted_undone old new notes bucket was (ap (λ (log : FileLog). log.scene) did.2)
          (λ other apart. subst (λ log. unseen (known_of log other) ≡ unseen (known_of old other)) (sym did.2)
          (rw (apart_by other apart) refl)) noted
          (subst (λ log. IsNoted (known_of log bucket) Undone) (sym did.2)
          (rw (test_same bucket bucket refl, test_same old.party old.party refl) tt))

-- MESSAGES THAT A RECEIVER PASSES

pub passed_can : (log : FileLog) (notes : List Note) (moment : List Event) (slot lap : ℕ) → AreNoted log notes →
    Passed notes log.events moment slot lap → CanPass log.party log.events moment slot lap
passed_can log notes moment slot lap noted (was_over word look later) = over word look later
passed_can log notes moment slot lap noted (was_unsent bucket look event before first since until shows) =
    unsent bucket look event before first since until shows
passed_can log notes moment slot lap noted (was_held bucket look was) =
    held bucket look (undone_held (known_of log bucket) (noted.each bucket Undone was))

pub passed_later : (notes : List Note) (events later moment : List Event) (slot lap : ℕ) → IsMoment events later →
    Passed notes events moment slot lap → Passed notes later moment slot lap
passed_later notes events later moment slot lap past (was_over word look is) =
    was_over word (look_later events later slot word past look) is
passed_later notes events later moment slot lap past (was_unsent bucket look event before first since until shows) =
    was_unsent bucket (look_later events later slot (Message lap bucket) past look) event before first since
    (moment_trans (event ∷ before) events later until past) shows
passed_later notes events later moment slot lap past (was_held bucket look was) =
    was_held bucket (look_later events later slot (Message lap bucket) past look) was

-- from an earlier moment on, too
pub passed_since : (notes : List Note) (events first moment : List Event) (slot lap : ℕ) → IsMoment first moment →
    Passed notes events moment slot lap → Passed notes events first slot lap
passed_since notes events first moment slot lap past (was_over word look is) = was_over word look is
passed_since notes events first moment slot lap past (was_unsent bucket look event before seen since until shows) =
    was_unsent bucket look event before seen (moment_trans first moment (event ∷ before) past since) until shows
passed_since notes events first moment slot lap past (was_held bucket look was) = was_held bucket look was

pub can_since : (party : ℕ) (events first moment : List Event) (slot lap : ℕ) → IsMoment first moment →
    CanPass party events moment slot lap → CanPass party events first slot lap
can_since party events first moment slot lap past (over word look is) = over word look is
can_since party events first moment slot lap past (unsent bucket look event before seen since until shows) =
    unsent bucket look event before seen (moment_trans first moment (event ∷ before) past since) until shows
can_since party events first moment slot lap past (held bucket look is) = held bucket look is

sent_parts : (slot other lap same : ℕ) (here : Bool) → (slot == other) ≡ here →
    (if here then lap == same else false) ≡ true → SentTo slot lap ≡ SentTo other same
sent_parts slot other lap same false test e = absurd (cc)
sent_parts slot other lap same true test e =
    ap (λ (s : ℕ). SentTo s lap) (eqb-true slot other test) ∙ ap (λ (l : ℕ). SentTo other l) (eqb-true lap same e)

-- a flag that the test finds to say where a bucket is sent says that
pub sent_flag : (slot lap : ℕ) (flag : FileFlag) → same_flag flag (SentTo slot lap) ≡ true → flag ≡ SentTo slot lap
sent_flag slot lap Free is = absurd (cc)
sent_flag slot lap (HeldBy other) is = absurd (cc)
sent_flag slot lap (SentTo other same) is = sent_parts other slot same lap (other == slot) refl is
sent_flag slot lap (DetachedBy other) is = absurd (cc)

test_flag : (slot lap : ℕ) → same_flag (SentTo slot lap) (SentTo slot lap) ≡ true
test_flag slot lap = rw (test_same slot slot refl, test_same lap lap refl) refl

-- a look found the bucket's flag, which says something else
pub passed_unsent : (notes : List Note) (old new : FileLog) (slot lap bucket : ℕ) (found : FileFlag) →
    Look old.events slot (Message lap bucket) → new ≡ told old (LoadFlag bucket found) →
    same_flag found (SentTo slot lap) ≡ false → Passed notes new.events old.events slot lap
passed_unsent notes old new slot lap bucket found look is other =
    subst (λ (log : FileLog). Passed notes log.events old.events slot lap) (sym is)
    (was_unsent bucket (look_later old.events (LoadFlag bucket found ∷ old.events) slot (Message lap bucket)
    (earlier (LoadFlag bucket found) old.events now) look) (LoadFlag bucket found) old.events
    (earlier (LoadFlag bucket found) old.events look.past) (earlier (LoadFlag bucket found) old.events now) now
    (refl, (λ same. absurd (cc (sym (test_flag slot lap) ∙ ap (λ flag. same_flag flag (SentTo slot lap)) (sym same) ∙ other)))))

-- the word is a message of this lap
pub message_at : (word : Slot) (lap bucket found at : ℕ) → word ≡ Message lap bucket → found ≡ lap_said word → found ≡ at →
    word ≡ Message at bucket
message_at word lap bucket found at is said same =
    is ∙ ap (λ l. Message l bucket) (sym (ap lap_said is) ∙ sym said ∙ same)
