-- A party that has joined obeys the rules of its file's queues, and knows where it goes on at each, before
-- each call and after it.
use Rattle.bb_memory_file.proofs.FileEvents.{append_assoc, gets_on}
use Rattle.bb_memory_file.proofs.FileLooks.{head_on, looks_move_none, obey_on, tail_on}
use Rattle.bb_memory_file.specs.FileCalls.{BeginsSearch, Gets, IsAttach, IsDeallocate, IsDetach, IsDone, IsJoin, IsPost, IsPutBack, IsReceive, IsSettled, MovesNone, TakesOne, Whereabouts, has_some, moves_message}
use Rattle.bb_memory_file.specs.FileCalls.received as received
use Rattle.bb_memory_file.specs.FileCalls.whereabouts as whereabouts
use Rattle.bb_memory_file.specs.FileCode.{EmptySlot, ExchangeFlag, ExchangeSlot, FileLog, LoadEntry, LoadSlot, MissFlag, MissSlot, StoreEntry, StoreFlag}
use Rattle.bb_memory_file.specs.FileLog.{Event, IsKnownIn}
use Rattle.bb_memory_file.specs.FileNames.{DetachedBy, Empty, Free, HeldBy, In, Message, Nowhere, Outside, SentTo, Slot}
use Rattle.bb_memory_file.specs.FileNotes.{AreEnds, Ends, KeepsQueues, looked, no_ends, queues_of}
use Rattle.bb_memory_file.specs.FileQueueCalls.{AllObey, Grows, IsDoneAt}
use Rattle.bb_memory_file.specs.FileQueueLooks.{CanFill, CanTake, EventsObey, KnowsHead, KnowsTail, Position}
use Rattle.bb_memory_file_machine.specs.FileMachine.{FileScene}
use Rattle.bb_memory_file_machine.specs.FileQueues.{FileQueue, IsLater, IsSlotOf, earlier, lap_before, next_lap, now, slot_before}
use Rattle.bb_memory_lists.proofs.SliceGets.{length-set_at, slice_get-replicated, slice_get-set_other, slice_get-set_same}
use Rattle.bb_memory_pool_machine.proofs.PoolSteps.{test_same}
use Rattle.std.proofs.Common.{Bool, List, None, Option, Some, [], ap, arith, false, inl, inr, length, refl, subst, sym, true, ℕ, ◌*◌, ◌++◌, ◌+◌, ◌<◌, ◌∙◌, ◌∷◌, ◌≡◌, ◌≤◌}
use Rattle.std.proofs.Math.Nat.{div-mul-le_self, mul-le-mul_right}
use Rattle.std.proofs.lemmas.Bool.{cases_eq, le-ltb}
use Rattle.std.proofs.lemmas.List.{length-replicate}
use Rattle.std.proofs.lemmas.Option.{slice_get-get_or}
use Rattle.std.specs.Prelude.{IfSome, if◌then◌else◌, nat_lt, replicate, slice_get, slice_index_or, slice_set, ◌%◌, ◌/◌, ◌==◌}

-- ENDS

some_on : {X : Type 0} (option : Option X) (P Q : X → Type 0) → ((x : X) → P x → Q x) → IfSome option P → IfSome option Q
some_on None P Q on is = is
some_on (Some x) P Q on is = on x is

are_on : (queue : FileQueue) (events more : List Event) (its : Ends) → AreEnds queue events its → AreEnds queue (more ++ events) its
are_on queue events more its are = record {
  tail = some_on its.tail _ _ (tail_on events more queue) are.tail;
  head = some_on its.head _ _ (head_on events more queue) are.head;
}

same_some : {X : Type 0} (one other : X) → Some one ≡ Some other → one ≡ other
same_some one other same = cc

-- the party goes on somewhere else at one queue
pub keeps_set : (log : FileLog) (depth : ℕ) (ends : List Ends) (number : ℕ) (before its : Ends) → KeepsQueues log depth ends →
    slice_get ends number ≡ Some before →
    AreEnds (record { scene = log.scene; number = number; depth = depth }) log.events its →
    KeepsQueues log depth (slice_set ends number its)
keeps_set log depth ends number before its keeps was are = record {
  deep = keeps.deep;
  fits = keeps.fits;
  enough = length-set_at ends number its ∙ keeps.enough;
  known = λ other found is. elim (cases_eq other number) [
    | inl same ↦ subst (λ (n : ℕ). AreEnds (record { scene = log.scene; number = n; depth = depth }) log.events found) (sym same)
        (subst (λ (e : Ends). AreEnds (record { scene = log.scene; number = number; depth = depth }) log.events e)
        (same_some its found (sym (slice_get-set_same ends number its before was)
        ∙ ap (slice_get (slice_set ends number its)) (sym same) ∙ is)) are)
    | inr apart ↦ keeps.known other found (sym (slice_get-set_other ends number other its apart) ∙ is)
  ];
  obeys = keeps.obeys;
}

module _ (old new : FileLog) (depth : ℕ) (ends : List Ends) (keeps : KeepsQueues old depth ends) where
  -- the party has done more, and obeys the rules
  pub keeps_on : Grows old new → AllObey depth new → KeepsQueues new depth ends
  keeps_on grows obeys = record {
    deep = keeps.deep;
    fits = subst (λ (log : FileLog). log.scene.slots < 4294967296) (sym grows.1) keeps.fits;
    enough = keeps.enough ∙ ap (λ (log : FileLog). queues_of log.scene.slots depth) (sym grows.1);
    known = λ number its is.
        subst (λ (log : FileLog). AreEnds (record { scene = log.scene; number = number; depth = depth }) log.events its)
        (sym grows.1)
        (are_on (record { scene = old.scene; number = number; depth = depth }) old.events grows.0 its (keeps.known number its is));
    obeys = obeys;
  }

  -- the party has moved no message
  pub keeps_still : MovesNone old new → KeepsQueues new depth ends
  keeps_still none = keeps_on (none.0, none.1)
      (λ number. subst (λ (log : FileLog). EventsObey log.party
      (record { scene = log.scene; number = number; depth = depth }) log.events) (sym none.1)
      (obey_on old.party (record { scene = old.scene; number = number; depth = depth }) old.events none.0 none.2
      (keeps.obeys number)))

  keeps_single : depth ≡ 1 → Grows old new → (AllObey 1 old → AllObey 1 new) → KeepsQueues new depth ends
  keeps_single single grows obeys = keeps_on grows
      (subst (λ (d : ℕ). AllObey d new) (sym single) (obeys (subst (λ (d : ℕ). AllObey d old) single keeps.obeys)))

-- CALLS THAT MOVE NO MESSAGE

module _ (old new : FileLog) (bucket : ℕ) where
  pub deallocate_still : ((process : ℕ) → IsDeallocate process old bucket new) → MovesNone old new
  deallocate_still did = (StoreFlag bucket Free ∷ [], (did 0).1, refl)

  pub detach_still : ((process : ℕ) → IsDetach process old bucket new) → MovesNone old new
  detach_still did = (StoreFlag bucket (DetachedBy old.party) ∷ [], (did 0).1, refl)

  pub attach_still : (answer : Bool) → ((process : ℕ) → IsAttach process old bucket answer new) → MovesNone old new
  attach_still true did = (_ ∷ _ ∷ [], (did 0).2, refl)
  attach_still false did = elim (did 0).1 [
    | inl (flag, gets, not_so) ↦ (_ ∷ [], gets, refl)
    | inr (from, gets) ↦ (_ ∷ _ ∷ [], gets, refl)
  ]

  pub put_back_still : (found : Whereabouts) → ((process : ℕ) → IsPutBack process old bucket found new) → MovesNone old new
  put_back_still (whereabouts.In slot lap) did =
      let by = (did 0).3 in
      (StoreFlag bucket (SentTo slot lap) ∷ by.0, by.2, looks_move_none bucket (whereabouts.In slot lap) by.0 by.1)
  put_back_still whereabouts.Entered did =
      let by = (did 0).3 in (by.0, by.2, looks_move_none bucket whereabouts.Entered by.0 by.1)
  put_back_still whereabouts.Nowhere did =
      let by = (did 0).3 in (by.0, by.2, looks_move_none bucket whereabouts.Nowhere by.0 by.1)

module _ (old new : FileLog) where
  pub all_still : (freed : ℕ) → ((process : ℕ) → IsSettled process old false Outside freed [] new Outside) → MovesNone old new
  all_still freed did = let settled = did 0 in (settled.events, settled.gets, settled.moves_none)

  pub look_still : (slot : ℕ) (word : Slot) → new ≡ looked old slot word → MovesNone old new
  look_still slot word is = (LoadSlot slot word ∷ [], is, refl)

  pub takes_still : (answer : Option ℕ) → TakesOne old answer new → MovesNone old new
  takes_still None takes = takes.2
  takes_still (Some bucket) takes = takes.3

  pub begun_still : (hint : ℕ) → BeginsSearch old hint new → MovesNone old new
  begun_still hint begun = by_test (nat_lt hint old.scene.buckets) begun
    where
      by_test : (is : Bool) → Gets old (if is then MissFlag hint Free ∷ [] else []) new → MovesNone old new
      by_test true gets = (MissFlag hint Free ∷ [], gets, refl)
      by_test false gets = ([], gets, refl)

  -- a party that has just joined
  pub keeps_join : (depth : ℕ) → 0 < depth → old.scene.slots < 4294967296 → old.events ≡ [] → ((process : ℕ) → IsJoin process old true new) →
      KeepsQueues new depth (replicate (queues_of old.scene.slots depth) no_ends)
  keeps_join depth deep fits fresh did =
      let settled = (did 0).4 in
      let count = queues_of old.scene.slots depth in
      keeps_still old new depth (replicate count no_ends) record {
        deep = deep;
        fits = fits;
        enough = length-replicate count no_ends;
        known = λ number its is.
            subst (λ (e : Ends). AreEnds (record { scene = old.scene; number = number; depth = depth }) old.events e)
            (slice_get-replicated count number no_ends its is) record { tail = tt; head = tt };
        obeys = λ number.
            subst (λ (events : List Event). EventsObey old.party
            (record { scene = old.scene; number = number; depth = depth }) events) (sym fresh) tt;
      } (settled.events, settled.gets, settled.moves_none)

-- SINGLE SLOTS

module _ (scene : FileScene) (number slot : ℕ) where
  -- at depth 1 a slot is a queue
  abbrev single : FileQueue
  single = record { scene = scene; number = number; depth = 1 }

  -- and comes before itself
  itself_before : slot_before single slot ≡ slot
  itself_before = rw (test_same (slot % 1) 0 (omega arith)) (omega arith)

  -- a party may fill it once it has seen that it is empty
  fill_single : (events : List Event) (between : Event) (lap : ℕ) → lap < 1073741824 →
      CanFill single (between ∷ LoadSlot slot (Empty lap) ∷ events) slot lap
  fill_single events between lap less = record {
    word = Empty lap;
    look = record {
      event = LoadSlot slot (Empty lap);
      before = events;
      past = earlier between (LoadSlot slot (Empty lap) ∷ events) now;
      shows = (sym itself_before, refl);
    };
    filled = subst (λ (before : ℕ). IsLater (lap_before lap slot before) lap) (sym itself_before)
        (rw (le-ltb slot slot (omega arith)) (1, omega arith, omega arith, omega (arith, less)));
  }

  -- and take its message once it has seen that
  take_single : (party : ℕ) (events : List Event) (lap bucket : ℕ) → IsSlotOf single slot →
      CanTake party single (LoadSlot slot (Message lap bucket) ∷ events) slot bucket lap
  take_single party events lap bucket its = record {
    look = record {
      event = LoadSlot slot (Message lap bucket);
      before = events;
      past = now;
      shows = (refl, refl);
    };
    others = λ other same apart. absurd (apart (omega (arith, its, same)));
  }

abbrev obeys_by : (log : FileLog) (number : ℕ) → Type 0
obeys_by log number = EventsObey log.party (record { scene = log.scene; number = number; depth = 1 }) log.events

module _ (old new : FileLog) (depth : ℕ) (ends : List Ends) (keeps : KeepsQueues old depth ends) (slot bucket : ℕ) where
  module _ (one : depth ≡ 1) (size : ℕ) where
    pub keeps_post : ((process : ℕ) → IsPost process old slot bucket size true new) → KeepsQueues new depth ends
    keeps_post did =
        let lap = (did 0).0 in
        let gets = (did 0).2 in
        keeps_single old new depth ends keeps one (
          StoreFlag bucket (SentTo slot lap) ∷ ExchangeSlot slot (Empty lap) (Message lap bucket)
              ∷ StoreEntry bucket (In slot size) ∷ LoadSlot slot (Empty lap) ∷ [],
          gets,
        ) (λ obeys number. subst (λ (log : FileLog). obeys_by log number) (sym gets) (
          tt,
          (
            (λ its. fill_single old.scene number slot old.events (StoreEntry bucket (In slot size)) lap (did 0).3),
            (tt, (tt, obeys number)),
          ),
        ))

    pub keeps_no_post : ((process : ℕ) → IsPost process old slot bucket size false new) → KeepsQueues new depth ends
    keeps_no_post did = elim (did 0).1 [
      | inl (other, gets, made) ↦
          keeps_still old new depth ends keeps (LoadSlot slot (Message (did 0).0 other) ∷ [], gets, refl)
      | inr (gets, made) ↦ keeps_still old new depth ends keeps (
        StoreEntry bucket Nowhere ∷ MissSlot slot (Empty (did 0).0) ∷ StoreEntry bucket (In slot size)
            ∷ LoadSlot slot (Empty (did 0).0) ∷ [],
        gets,
        refl,
      )
    ]

  module _ (middle : FileLog) (lap : ℕ) (is : middle ≡ looked old slot (Message lap bucket)) where
    keeps_looked : KeepsQueues middle depth ends
    keeps_looked = keeps_still old middle depth ends keeps (look_still old middle slot (Message lap bucket) is)

    module _ (one : depth ≡ 1) (size : ℕ) where
      -- the party takes a message that it has found in the slot
      keeps_taken : (events : List Event) → has_some moves_message events ≡ false →
          Gets middle (events ++ ExchangeFlag bucket (SentTo slot lap) (HeldBy middle.party) ∷ []) new → KeepsQueues new depth ends
      keeps_taken events none gets =
          let first = record middle {
            events = ExchangeFlag bucket (SentTo slot lap) (HeldBy middle.party) ∷ middle.events;
          } in
          keeps_still first new depth ends
          (keeps_single middle first depth ends keeps_looked one
          (ExchangeFlag bucket (SentTo slot lap) (HeldBy middle.party) ∷ [], refl)
          (λ obeys number. (
            (λ its. subst (λ (log : FileLog). CanTake log.party (record { scene = log.scene; number = number; depth = 1 })
                log.events slot bucket lap) (sym is)
                (take_single old.scene number slot old.party old.events lap bucket its)),
            obeys number,
          ))) (
            events,
            gets ∙ ap (λ (all : List Event). record middle { events = all })
                (append_assoc events (ExchangeFlag bucket (SentTo slot lap) (HeldBy middle.party) ∷ []) middle.events),
            none,
          )

      pub keeps_message : (length : ℕ) → ((process : ℕ) → IsReceive process middle slot lap bucket size (received.Message length) new) →
          KeepsQueues new depth ends
      keeps_message length did = keeps_taken (LoadEntry bucket (In slot length) ∷ []) refl (did 0).2

      pub keeps_wrong : ((process : ℕ) → IsReceive process middle slot lap bucket size received.Wrong new) →
          KeepsQueues new depth ends
      keeps_wrong did =
          keeps_taken (StoreFlag bucket (SentTo slot lap) ∷ LoadEntry bucket (did 0).0 ∷ []) refl (did 0).3

      pub keeps_not_sent : ((process : ℕ) → IsReceive process middle slot lap bucket size received.NotSent new) →
          KeepsQueues new depth ends
      keeps_not_sent did = keeps_still middle new depth ends keeps_looked (MissFlag bucket (SentTo slot lap) ∷ [], (did 0).1, refl)

    -- the party is done with a message that it has found in the slot
    pub keeps_done : IsKnownIn middle bucket slot lap → ((process : ℕ) → IsDone process middle slot bucket lap new) →
        KeepsQueues new depth ends
    keeps_done known did = keeps_on middle new depth ends keeps_looked
        (StoreEntry bucket Nowhere ∷ EmptySlot slot (next_lap lap) ∷ [], (did 0).1)
        (λ number. subst (λ (log : FileLog). EventsObey log.party
        (record { scene = log.scene; number = number; depth = depth }) log.events) (sym (did 0).1)
        (tt, ((bucket, lap, known.0, known.1, refl), keeps_looked.obeys number)))

-- DONE

done_grows : (process : ℕ) (old new : FileLog) (bucket : ℕ) (found : Whereabouts) → IsDoneAt process old bucket found new → Grows old new
done_grows process old new bucket (whereabouts.In slot lap) (below, (before, found, by, gets, first, (next, emptied)), clear) = (
  (StoreEntry bucket Nowhere ∷ EmptySlot slot (next_lap lap) ∷ []) ++ found,
  gets_on old before new found (StoreEntry bucket Nowhere ∷ EmptySlot slot (next_lap lap) ∷ []) gets emptied,
)
done_grows process old new bucket whereabouts.Entered did = (did.2.0, did.2.2)
done_grows process old new bucket whereabouts.Nowhere did = (did.2.0, did.2.2)

pub keeps_done_with : (old new : FileLog) (depth : ℕ) (ends : List Ends) (bucket : ℕ) (found : Whereabouts) →
    KeepsQueues old depth ends → ((process : ℕ) → IsDoneAt process old bucket found new) →
    ((depth : ℕ) → AllObey depth old → AllObey depth new) → KeepsQueues new depth ends
keeps_done_with old new depth ends bucket found keeps did obeys =
    keeps_on old new depth ends keeps (done_grows 0 old new bucket found (did 0)) (obeys depth keeps.obeys)

-- QUEUES

module _ (old new : FileLog) (depth : ℕ) (ends : List Ends) (keeps : KeepsQueues old depth ends) (number : ℕ) (its : Ends)
    (was : slice_get ends number ≡ Some its) (grows : Grows old new) (obeys : AllObey depth old → AllObey depth new) where
  keeps_grown : KeepsQueues new depth ends
  keeps_grown = keeps_on old new depth ends keeps grows (obeys keeps.obeys)

  abbrev queue_of : FileLog → FileQueue
  queue_of log = record { scene = log.scene; number = number; depth = depth }

  pub keeps_tail : (tail : Position) → KnowsTail (queue_of old) new.events tail →
      KeepsQueues new depth (slice_set ends number (record its { tail = Some tail }))
  keeps_tail tail knows = keeps_set new depth ends number its (record its { tail = Some tail }) keeps_grown was record {
    tail = subst (λ (scene : FileScene). KnowsTail (record { scene = scene; number = number; depth = depth }) new.events tail)
        (sym (ap (λ (log : FileLog). log.scene) grows.1)) knows;
    head = (keeps_grown.known number its was).head;
  }

  pub keeps_head : (head : Option Position) → IfSome head (λ position. KnowsHead (queue_of old) new.events position) →
      KeepsQueues new depth (slice_set ends number (record its { head = head }))
  keeps_head head knows = keeps_set new depth ends number its (record its { head = head }) keeps_grown was record {
    tail = (keeps_grown.known number its was).tail;
    head = subst (λ (scene : FileScene). IfSome head
        (λ position. KnowsHead (record { scene = scene; number = number; depth = depth }) new.events position))
        (sym (ap (λ (log : FileLog). log.scene) grows.1)) knows;
  }

module _ (log : FileLog) (depth : ℕ) (ends : List Ends) (keeps : KeepsQueues log depth ends) (number : ℕ)
    (below : number < queues_of log.scene.slots depth) where
  -- the queue is whole
  pub whole : number * depth + depth ≤ log.scene.slots
  whole = whole_by (depth == 1) refl
    where
      within_div : number < log.scene.slots / depth → number * depth + depth ≤ log.scene.slots
      within_div less =
          let rows : (number + 1) * depth ≤ log.scene.slots / depth * depth = mul-le-mul_right depth (omega (arith, less)) in
          let all = div-mul-le_self log.scene.slots depth in omega (arith, rows, all)

      whole_by : (is : Bool) → (depth == 1) ≡ is → number * depth + depth ≤ log.scene.slots
      whole_by true e = let none : number < 0 = rw e at below in absurd (omega (arith, none))
      whole_by false e = let less : number < log.scene.slots / depth = rw e at below in within_div less

  pub fits : number * depth + depth < 4294967296
  fits = let all = whole in let few = keeps.fits in omega (arith, all, few)

  -- the party knows where it goes on there
  pub has_ends : (its : Ends) → its ≡ slice_index_or ends number its → slice_get ends number ≡ Some its
  has_ends its is =
      slice_get-get_or ends number its (let enough = keeps.enough in omega (arith, below, enough)) ∙ ap (λ (e : Ends). Some e) (sym is)
