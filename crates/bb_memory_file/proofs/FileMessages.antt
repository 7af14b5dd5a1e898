-- The walks of calls on messages.
use Rattle.bb_memory_file.proofs.FileSteps.{clears, empties, fills, gives_up, posts, puts_back, sends, takes}
use Rattle.bb_memory_file.proofs.FileWalks.{walk_look, walk_on, walk_step}
use Rattle.bb_memory_file.specs.FileCalls.{Gets, IsAt, IsFill, IsFound, IsLookedUp, IsPost, IsPutBack, IsReceive, Makes, Whereabouts, is_fit, length_in, unseen}
use Rattle.bb_memory_file.specs.FileCalls.received as received
use Rattle.bb_memory_file.specs.FileCalls.whereabouts as whereabouts
use Rattle.bb_memory_file.specs.FileCode.{EmptySlot, ExchangeFlag, ExchangeSlot, FileLog, Has, HasNot, Holds, Known, LoadEntry, LoadSlot, MissFlag, MissSlot, Path, Seen, StoreEntry, StoreFlag, Unknown, Unseen, begins, known_of, looks, steps, told}
use Rattle.bb_memory_file.specs.FileLog.{IsKnownIn, IsLap, is_clear, is_held, seen_in, with_entry, with_seen}
use Rattle.bb_memory_file.specs.FileNames.{Clearing, Done, Empty, Entry, Fill, HeldBy, In, Message, Next, Nowhere, Outside, Post, Posting, PutBack, Sending, SentTo, Slot, Take}
use Rattle.bb_memory_pool_machine.proofs.PoolSteps.{test_same}
use Rattle.std.proofs.Common.{Bool, None, Some, [], ap, false, inl, inr, refl, subst, sym, true, ℕ, ◌∙◌, ◌∷◌, ◌≡◌, ◌≤◌}
use Rattle.std.proofs.lemmas.Bool.{eqb-true, ltb-false, ne_eqb}
use Rattle.std.specs.Prelude.{if◌then◌else◌, nat_lt, not, ◌==◌}

-- KNOWLEDGE

-- what a party has seen of slots
abbrev pub seen_of : Known → Seen
seen_of Unknown = Unseen
seen_of (Holds entry seen) = seen

pub held_entry : (known : Known) (entry : Entry) → is_held known ≡ true →
    with_entry known entry ≡ Holds (Some entry) (seen_of known)
held_entry Unknown entry held = absurd (cc)
held_entry (Holds old seen) entry held = refl

-- what a slot says of a bucket changes nothing else that is known
pub seen_away : (known : Known) (seen : Seen) → unseen (with_seen known seen) ≡ unseen known
seen_away Unknown seen = refl
seen_away (Holds entry old) seen = refl

pub still_clear : (known : Known) (seen : Seen) → is_clear known ≡ true → is_clear (with_seen known seen) ≡ true
still_clear Unknown seen clear = absurd (cc)
still_clear (Holds None old) seen clear = absurd (cc)
still_clear (Holds (Some (In slot size)) old) seen clear = absurd (cc)
still_clear (Holds (Some Nowhere) old) seen clear = refl

not_less : (size length : ℕ) (less : Bool) → nat_lt size length ≡ less → not less ≡ true → length ≤ size
not_less size length true e is = absurd (cc)
not_less size length false e is = ltb-false size length e

fits_in : (slot size other length : ℕ) (same : Bool) → (other == slot) ≡ same →
    (if same then not (nat_lt size length) else false) ≡ true → (In other length ≡ In slot length) × (length ≤ size)
fits_in slot size other length true e fit =
    (ap (λ s. In s length) (eqb-true other slot e), not_less size length (nat_lt size length) refl fit)
fits_in slot size other length false e fit = absurd (cc)

-- an entry that fits names the slot
pub fits : (slot size : ℕ) (entry : Entry) → is_fit slot size entry ≡ true →
    (entry ≡ In slot (length_in entry)) × (length_in entry ≤ size)
fits slot size Nowhere fit = absurd (cc)
fits slot size (In other length) fit = fits_in slot size other length (other == slot) refl fit

-- TAKES

module _ (process : ℕ) (old : FileLog) (slot lap bucket size : ℕ) where
  pub not_sent : (new : FileLog) → new ≡ told old (MissFlag bucket (SentTo slot lap)) →
      IsReceive process old slot lap bucket size received.NotSent new
  not_sent new is = (walk_look process old new Outside (MissFlag bucket (SentTo slot lap)) tt is, is)

  abbrev took : FileLog
  took = told old (ExchangeFlag bucket (SentTo slot lap) (HeldBy old.party))

  path_took : Path process old Outside took (Take process old.party slot bucket lap ∷ []) Outside
  path_took = steps old [] Outside (ExchangeFlag bucket (SentTo slot lap) (HeldBy old.party))
      (Take process old.party slot bucket lap) Outside begins refl (takes old process slot bucket lap)

  -- the entry of the bucket, which the party has taken
  module _ (entry : Entry) where
    abbrev read : FileLog
    read = told took (LoadEntry bucket entry)

    path_read : Path process old Outside read (Take process old.party slot bucket lap ∷ []) Outside
    path_read = looks took (Take process old.party slot bucket lap ∷ []) Outside (LoadEntry bucket entry) path_took tt

    read_by : (one two : FileLog) (party : ℕ) → party ≡ old.party →
        one ≡ told old (ExchangeFlag bucket (SentTo slot lap) (HeldBy party)) → two ≡ told one (LoadEntry bucket entry) → two ≡ read
    read_by one two party mine e1 e2 = e2 ∙ ap (λ log. told log (LoadEntry bucket entry))
        (e1 ∙ ap (λ p. told old (ExchangeFlag bucket (SentTo slot lap) (HeldBy p))) mine)

    -- the party knows where the bucket is
    known_read : known_of read bucket ≡ Holds (Some entry) (Has slot lap)
    known_read = rw (test_same bucket bucket refl, test_same old.party old.party refl) refl

    pub put_away : (one two new : FileLog) (party : ℕ) → party ≡ old.party →
        one ≡ told old (ExchangeFlag bucket (SentTo slot lap) (HeldBy party)) → two ≡ told one (LoadEntry bucket entry) →
        is_fit slot size entry ≡ false → new ≡ told two (StoreFlag bucket (SentTo slot lap)) →
        IsReceive process old slot lap bucket size received.Wrong new
    put_away one two new party mine e1 e2 unfit e3 =
        subst (λ log. IsReceive process old slot lap bucket size received.Wrong log)
        (sym (e3 ∙ ap (λ log. told log (StoreFlag bucket (SentTo slot lap))) (read_by one two party mine e1 e2))) (
          entry,
          unfit,
          record {
            path = steps read (Take process old.party slot bucket lap ∷ []) Outside (StoreFlag bucket (SentTo slot lap))
                (PutBack process old.party slot bucket) Outside path_read refl
                (puts_back read process slot bucket lap (Some entry) known_read);
            scene = refl;
            party = refl;
          },
          refl,
        )

    pub got : (one new : FileLog) (party length : ℕ) → party ≡ old.party →
        one ≡ told old (ExchangeFlag bucket (SentTo slot lap) (HeldBy party)) → new ≡ told one (LoadEntry bucket entry) →
        is_fit slot size entry ≡ true → length ≡ length_in entry →
        IsReceive process old slot lap bucket size (received.Message length) new
    got one new party length mine e1 e2 fit is =
        let fits' = fits slot size entry fit in
        let same : entry ≡ In slot length = fits'.0 ∙ ap (λ l. In slot l) (sym is) in
        subst (λ log. IsReceive process old slot lap bucket size (received.Message length) log)
        (sym (read_by one new party mine e1 e2)) (
          rw is fits'.1,
          record { path = path_read; scene = refl; party = refl },
          ap (λ e. told took (LoadEntry bucket e)) same,
        )

-- POSTS

module _ (process : ℕ) (old : FileLog) (slot bucket size : ℕ) where
  pub full : (new : FileLog) (lap other : ℕ) → new ≡ told old (LoadSlot slot (Message lap other)) →
      IsPost process old slot bucket size false new
  full new lap other is = subst (λ log. IsPost process old slot bucket size false log) (sym is) (
    lap,
    inl (
      other,
      refl,
      record {
        path = looks old [] Outside (LoadSlot slot (Message lap other)) begins tt;
        scene = refl;
        party = refl;
      },
    ),
  )

  abbrev seen_empty : ℕ → FileLog
  seen_empty lap = told old (LoadSlot slot (Empty lap))

  -- a look at the slot found it empty at this lap, and the rest of the call has filled it, or not
  pub post_by : (lap : ℕ) (one : FileLog) (filled : Bool) (new : FileLog) → IsLap lap →
      one ≡ told old (LoadSlot slot (Empty lap)) → IsFill process one slot lap bucket size filled new →
      IsPost process old slot bucket size filled new
  post_by lap one filled new in_range is fill =
      by_answer filled (subst (λ log. IsFill process log slot lap bucket size filled new) is fill)
    where
      seen_walk : Makes process old [] (seen_empty lap)
      seen_walk = walk_look process old (seen_empty lap) Outside (LoadSlot slot (Empty lap)) tt refl

      by_answer : (answer : Bool) → IsFill process (seen_empty lap) slot lap bucket size answer new →
          IsPost process old slot bucket size answer new
      by_answer true says =
          (lap, walk_on process old (seen_empty lap) new Outside Outside Outside [] _ seen_walk says.0, says.1, in_range)
      by_answer false says =
          (lap, inr (says.1, walk_on process old (seen_empty lap) new Outside Outside Outside [] _ seen_walk says.0))

  -- the slot was empty at this lap
  module _ (lap : ℕ) (clear : is_clear (known_of old bucket) ≡ true) where
    abbrev entered : FileLog
    entered = told old (StoreEntry bucket (In slot size))

    path_entered : Path process old Outside entered (Post process old.party slot bucket size ∷ []) (Posting old.party slot bucket)
    path_entered = steps old [] Outside (StoreEntry bucket (In slot size)) (Post process old.party slot bucket size)
        (Posting old.party slot bucket) begins refl (posts old process slot bucket size clear)

    pub given_up : (two three new : FileLog) → two ≡ entered → three ≡ told two (MissSlot slot (Empty lap)) →
        new ≡ told three (StoreEntry bucket Nowhere) → IsFill process old slot lap bucket size false new
    given_up two three new e2 e3 e4 =
        subst (λ log. IsFill process old slot lap bucket size false log)
        (sym (e4 ∙ ap (λ log. told log (StoreEntry bucket Nowhere)) (e3 ∙ ap (λ log. told log (MissSlot slot (Empty lap))) e2))) (
          record {
            path = steps (told entered (MissSlot slot (Empty lap))) (Post process old.party slot bucket size ∷ [])
                (Posting old.party slot bucket) (StoreEntry bucket Nowhere) (Next process) Outside
                (looks entered (Post process old.party slot bucket size ∷ []) (Posting old.party slot bucket)
                (MissSlot slot (Empty lap)) path_entered tt) refl
                (gives_up (told entered (MissSlot slot (Empty lap))) process slot bucket);
            scene = refl;
            party = refl;
          },
          refl,
        )

    abbrev filled : FileLog
    filled = told entered (ExchangeSlot slot (Empty lap) (Message lap bucket))

    pub posted : (two three new : FileLog) → two ≡ entered →
        three ≡ told two (ExchangeSlot slot (Empty lap) (Message lap bucket)) →
        new ≡ told three (StoreFlag bucket (SentTo slot lap)) → IsFill process old slot lap bucket size true new
    posted two three new e2 e3 e4 =
        subst (λ log. IsFill process old slot lap bucket size true log)
        (sym (e4 ∙ ap (λ log. told log (StoreFlag bucket (SentTo slot lap)))
        (e3 ∙ ap (λ log. told log (ExchangeSlot slot (Empty lap) (Message lap bucket))) e2))) (
          record {
            path = steps filled (Fill process lap ∷ Post process old.party slot bucket size ∷ [])
                (Sending old.party slot bucket lap)
                (StoreFlag bucket (SentTo slot lap)) (Next process) Outside
                (steps entered (Post process old.party slot bucket size ∷ []) (Posting old.party slot bucket)
                (ExchangeSlot slot (Empty lap) (Message lap bucket)) (Fill process lap) (Sending old.party slot bucket lap)
                path_entered refl (fills entered process slot bucket lap)) refl (sends filled process slot bucket lap);
            scene = refl;
            party = refl;
          },
          refl,
        )

-- DONE

module _ (process : ℕ) (old : FileLog) (slot bucket lap : ℕ) (known : IsKnownIn old bucket slot lap) where
  pub finished : (one new : FileLog) (next to : ℕ) → one ≡ told old (EmptySlot slot next) → next ≡ to →
      new ≡ told one (StoreEntry bucket Nowhere) →
      Makes process old (Next process ∷ Done process old.party slot bucket to ∷ []) new
      × Gets old (StoreEntry bucket Nowhere ∷ EmptySlot slot to ∷ []) new
  finished one new next to e1 is e2 =
      subst (λ log. Makes process old (Next process ∷ Done process old.party slot bucket to ∷ []) log
      × Gets old (StoreEntry bucket Nowhere ∷ EmptySlot slot to ∷ []) log)
      (sym (e2 ∙ ap (λ log. told log (StoreEntry bucket Nowhere)) (e1 ∙ ap (λ n. told old (EmptySlot slot n)) is))) (
        record {
          path = steps (told old (EmptySlot slot to)) (Done process old.party slot bucket to ∷ []) (Clearing old.party bucket)
              (StoreEntry bucket Nowhere) (Next process) Outside
              (steps old [] Outside (EmptySlot slot to) (Done process old.party slot bucket to)
              (Clearing old.party bucket) begins refl
              (empties old process slot bucket lap known.0 known.1 to)) refl (clears (told old (EmptySlot slot to)) process bucket);
          scene = refl;
          party = refl;
        },
        refl,
      )

-- LOOKS

module _ (old : FileLog) (bucket : ℕ) (held : is_held (known_of old bucket) ≡ true) where
  pub found_nowhere : (new : FileLog) (entry : Entry) → new ≡ told old (LoadEntry bucket entry) → entry ≡ Nowhere →
      IsFound old bucket whereabouts.Nowhere new
  found_nowhere new entry e1 is = subst (λ log. IsFound old bucket whereabouts.Nowhere log)
      (sym (e1 ∙ ap (λ e. told old (LoadEntry bucket e)) is))
      (record {
        events = LoadEntry bucket Nowhere ∷ [];
        gets = refl;
        frees = refl;
        quiet = refl;
        looks = λ process here. record {
          path = looks old [] here
              (LoadEntry bucket Nowhere) begins tt;
          scene = refl;
          party = refl;
        };
        by = refl;
        found = (seen_of (known_of old bucket), rw (test_same bucket bucket refl) (held_entry (known_of old bucket) Nowhere held));
        others = λ other apart. rw (ne_eqb bucket other (λ same. apart (sym same))) refl;
      })

  -- the entry names a slot
  module _ (slot size : ℕ) (word : Slot) where
    abbrev entry_read : FileLog
    entry_read = told old (LoadEntry bucket (In slot size))

    abbrev slot_read : FileLog
    slot_read = told entry_read (LoadSlot slot word)

    known_slot : known_of slot_read bucket ≡ Holds (Some (In slot size)) (seen_in bucket slot word)
    known_slot = rw (test_same bucket bucket refl) (ap (λ known. with_seen known (seen_in bucket slot word))
        (held_entry (known_of old bucket) (In slot size) held))

    pub found_in : (answer : Whereabouts) (one new : FileLog) → one ≡ entry_read → new ≡ told one (LoadSlot slot word) →
        IsAt bucket answer slot_read → IsLookedUp bucket answer (LoadSlot slot word ∷ LoadEntry bucket (In slot size) ∷ []) →
        IsFound old bucket answer new
    found_in answer one new e1 e2 at by = subst (λ log. IsFound old bucket answer log)
        (sym (e2 ∙ ap (λ log. told log (LoadSlot slot word)) e1))
        (record {
          events = LoadSlot slot word ∷ LoadEntry bucket (In slot size) ∷ [];
          gets = refl;
          frees = refl;
          quiet = refl;
          looks = λ process here. record {
            path = looks entry_read [] here (LoadSlot slot word) (looks old [] here (LoadEntry bucket (In slot size)) begins tt) tt;
            scene = refl;
            party = refl;
          };
          found = at;
          by = by;
          others = λ other apart. rw (ne_eqb bucket other (λ same. apart (sym same)))
              (seen_away (known_of old other) (seen_in other slot word));
        })

    pub is_entered : seen_in bucket slot word ≡ HasNot slot → IsAt bucket whereabouts.Entered slot_read
    is_entered is = (slot, size, known_slot ∙ ap (λ s. Holds (Some (In slot size)) s) is)

    pub is_in : (lap : ℕ) → seen_in bucket slot word ≡ Has slot lap → IsLap lap → IsAt bucket (whereabouts.In slot lap) slot_read
    is_in lap is small = (size, known_slot ∙ ap (λ s. Holds (Some (In slot size)) s) is, small)

-- PUT BACK

module _ (process : ℕ) (old : FileLog) (bucket : ℕ) where
  pub back : (one new : FileLog) (slot lap : ℕ) → IsFound old bucket (whereabouts.In slot lap) one →
      new ≡ told one (StoreFlag bucket (SentTo slot lap)) → IsPutBack process old bucket (whereabouts.In slot lap) new
  back one new slot lap found is =
      let seen = found.looks process Outside in
      let mine : one.party ≡ old.party = seen.party in (
        subst (λ (p : ℕ). Makes process old (PutBack process p slot bucket ∷ []) new) mine
            (walk_on process old one new Outside Outside Outside [] (PutBack process one.party slot bucket ∷ []) seen
            (walk_step process one new Outside (StoreFlag bucket (SentTo slot lap))
            (PutBack process one.party slot bucket) Outside refl
            (puts_back one process slot bucket lap (Some (In slot found.found.0)) found.found.1) is)),
        subst (λ log. known_of log bucket ≡ Unknown) (sym is) (rw (test_same bucket bucket refl) refl),
        (λ other apart. subst (λ log. unseen (known_of log other) ≡ unseen (known_of old other)) (sym is)
            (rw (ne_eqb bucket other (λ same. apart (sym same))) (found.others other apart))),
        (found.events, found.by, is ∙ ap (λ (log : FileLog). told log (StoreFlag bucket (SentTo slot lap))) found.gets),
      )
