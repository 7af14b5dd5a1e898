-- A run with a queue of two slots. A process is killed in the middle of a post, another one settles its
-- number, which sends the message, and a third one takes the message.
use Rattle.bb_memory_file.proofs.FileQueueSlots.{slot_range}
use Rattle.bb_memory_file.proofs.FileRecentLooks.{all_recent, fills_length}
use Rattle.bb_memory_file.proofs.FileRunMoments.{own_beyond}
use Rattle.bb_memory_file.proofs.FileRunSteps.{log_of, session}
use Rattle.bb_memory_file.proofs.FileSteps.{allocates, counts, ends, fills, passes, posts, settles_sent, stays, takes}
use Rattle.bb_memory_file.specs.FileCode.{Event, ExchangeFlag, ExchangeSlot, FileLog, LoadEntry, LoadFlag, LoadLife, LoadSlot, Path, StoreEntry, StoreFlag, StoreLife, begins, looks, moves, steps, told}
use Rattle.bb_memory_file.specs.FileLog.{fresh_log}
use Rattle.bb_memory_file.specs.FileNames.{Allocate, Count, Counting, Dead, Empty, FileFlag, FileStep, Fill, Flags, Free, HeldBy, In, Kill, Lock, Message, Next, Outside, Place, Post, Posting, Release, Sending, SentTo, Settled, Take, Unlock}
use Rattle.bb_memory_file.specs.FileQueueLives.{GoesThrough, ProcessesObey, events_in}
use Rattle.bb_memory_file.specs.FileQueueLooks.{CanFill, CanPass, CanTake, EventsObey, over}
use Rattle.bb_memory_file.specs.FileRuns.{Act, AreTrue, Dies, Frees, Life, Locks, Operates, Unlocks, dies, frees, leaves, own, sleeps, words_after, works}
use Rattle.bb_memory_file_machine.specs.FileMachine.{FileScene, same_flag}
use Rattle.bb_memory_file_machine.specs.FileQueues.{FileQueue, IsLater, IsMoment, IsSlotOf, earlier, lap_before, now}
use Rattle.std.proofs.Common.{List, [], arith, false, inl, lit<, map, refl, subst, suc, sym, zero, ℕ, ◌++◌, ◌+◌, ◌-◌, ◌^◌, ◌∷◌, ◌≡◌, ◌≢◌}

abbrev scene : FileScene
scene = record { buckets = 1; slots = 2; parties = 2; processes = 3 }

abbrev queue : FileQueue
queue = record { scene = scene; number = 0; depth = 2 }

-- PATHS

-- a process counts a life of the number whose lock it has taken
module _ (process party life : ℕ) where
  abbrev counted : List Event
  counted = StoreLife (life + 2) ∷ LoadLife life ∷ []

  count_path : Path process (fresh_log scene party) (Counting party) (log_of scene party counted)
      (Count process (life + 2) ∷ []) (Flags party 0)
  count_path =
      let first : FileLog = fresh_log scene party in
      let loaded : FileLog = told first (LoadLife life) in
      let load = looks first [] (Counting party) (LoadLife life) begins tt in
      steps loaded [] (Counting party) (StoreLife (life + 2)) (Count process (life + 2)) (Flags party 0) load refl
      (counts loaded process life (life + 2) refl (omega arith))

-- a process has settled the file's bucket, and so its number
module _ (process party : ℕ) (events : List Event) (taken : List FileStep)
    (path : Path process (fresh_log scene party) (Counting party) (log_of scene party events) taken (Flags party 1)) where
  settle_path : Path process (fresh_log scene party) (Counting party) (log_of scene party events) (Next process ∷ taken)
      (Settled party)
  settle_path = moves (log_of scene party events) taken (Flags party 1) (Next process) (Settled party) path refl
      (ends (log_of scene party events) process 1 (omega arith))

-- a process joins as a number that holds nothing
module _ (process party : ℕ) (found : FileFlag) (other : same_flag found (HeldBy party) ≡ false) where
  abbrev joining : List Event
  joining = LoadFlag 0 found ∷ counted process party 0

  abbrev joins : List FileStep
  joins = Next process ∷ Next process ∷ Next process ∷ Count process 2 ∷ []

  join_path : Path process (fresh_log scene party) (Counting party) (log_of scene party joining) joins Outside
  join_path =
      let begun : FileLog = log_of scene party (counted process party 0) in
      let joined : FileLog = log_of scene party joining in
      let flag = steps begun (Count process 2 ∷ []) (Flags party 0) (LoadFlag 0 found) (Next process) (Flags party 1)
      (count_path process party 0) refl (passes begun process 0 (omega arith) found other) in
      moves joined (Next process ∷ Next process ∷ Count process 2 ∷ []) (Settled party) (Next process) Outside
      (settle_path process party joining (Next process ∷ Count process 2 ∷ []) flag) refl (stays joined process)

-- THE SENDER

abbrev sender_joined : List Event
sender_joined = joining 0 0 Free refl

abbrev allocated : List Event
allocated = ExchangeFlag 0 Free (HeldBy 0) ∷ sender_joined

abbrev looked : List Event
looked = LoadSlot 1 (Empty 0) ∷ allocated

abbrev entered : List Event
entered = StoreEntry 0 (In 0 5) ∷ looked

abbrev filled : List Event
filled = ExchangeSlot 0 (Empty 0) (Message 0 0) ∷ entered

abbrev sender_taken : List FileStep
sender_taken = Fill 0 0 ∷ Post 0 0 0 0 5 ∷ Allocate 0 0 0 ∷ joins 0 0 Free refl

fill_path : Path 0 (fresh_log scene 0) (Counting 0) (log_of scene 0 filled) sender_taken (Sending 0 0 0 0)
fill_path =
    let all = joins 0 0 Free refl in
    let one = steps (log_of scene 0 sender_joined) all Outside (ExchangeFlag 0 Free (HeldBy 0)) (Allocate 0 0 0) Outside
    (join_path 0 0 Free refl) refl (allocates (log_of scene 0 sender_joined) 0 0) in
    let two = looks (log_of scene 0 allocated) (Allocate 0 0 0 ∷ all) Outside (LoadSlot 1 (Empty 0)) one tt in
    let three = steps (log_of scene 0 looked) (Allocate 0 0 0 ∷ all) Outside (StoreEntry 0 (In 0 5)) (Post 0 0 0 0 5)
    (Posting 0 0 0) two refl (posts (log_of scene 0 looked) 0 0 0 5 refl) in
    steps (log_of scene 0 entered) (Post 0 0 0 0 5 ∷ Allocate 0 0 0 ∷ all) (Posting 0 0 0)
    (ExchangeSlot 0 (Empty 0) (Message 0 0)) (Fill 0 0) (Sending 0 0 0 0) three refl (fills (log_of scene 0 entered) 0 0 0 0)

-- the first lap of a slot comes after the last one
first_lap : IsLater (2 ^ 30 - 1) 0
first_lap = (1, omega arith, omega arith, refl)

sender_obeys : (party : ℕ) → EventsObey party queue filled
sender_obeys party = (filling, (tt, (tt, (tt, (tt, (tt, (tt, tt)))))))
  where
    filling : IsSlotOf queue 0 → CanFill queue entered 0 0
    filling its = record {
      word = Empty 0;
      look = record {
        event = LoadSlot 1 (Empty 0);
        before = allocated;
        past = earlier (StoreEntry 0 (In 0 5)) looked now;
        shows = (refl, refl);
      };
      filled = first_lap;
    }

-- THE SETTLER

abbrev settler_counted : List Event
settler_counted = counted 1 0 2

abbrev flag_loaded : List Event
flag_loaded = LoadFlag 0 (HeldBy 0) ∷ settler_counted

abbrev entry_loaded : List Event
entry_loaded = LoadEntry 0 (In 0 5) ∷ flag_loaded

abbrev slot_loaded : List Event
slot_loaded = LoadSlot 0 (Message 0 0) ∷ entry_loaded

abbrev settled : List Event
settled = StoreFlag 0 (SentTo 0 0) ∷ slot_loaded

abbrev settler_taken : List FileStep
settler_taken = Next 1 ∷ Next 1 ∷ Count 1 4 ∷ []

settler_path : Path 1 (fresh_log scene 0) (Counting 0) (log_of scene 0 settled) settler_taken (Settled 0)
settler_path =
    let all : List FileStep = Count 1 4 ∷ [] in
    let one = looks (log_of scene 0 settler_counted) all (Flags 0 0) (LoadFlag 0 (HeldBy 0)) (count_path 1 0 2) tt in
    let two = looks (log_of scene 0 flag_loaded) all (Flags 0 0) (LoadEntry 0 (In 0 5)) one tt in
    let three = looks (log_of scene 0 entry_loaded) all (Flags 0 0) (LoadSlot 0 (Message 0 0)) two tt in
    let four = steps (log_of scene 0 slot_loaded) all (Flags 0 0) (StoreFlag 0 (SentTo 0 0)) (Next 1) (Flags 0 1) three refl
    (settles_sent (log_of scene 0 slot_loaded) 1 0 (omega arith) 0 5 0 refl) in
    settle_path 1 0 settled (Next 1 ∷ all) four

settler_obeys : (party : ℕ) → EventsObey party queue settled
settler_obeys party = (tt, (tt, (tt, (tt, (tt, (tt, tt))))))

-- THE RECEIVER

abbrev receiver_joined : List Event
receiver_joined = joining 2 1 (SentTo 0 0) refl

abbrev looked_beside : List Event
looked_beside = LoadSlot 1 (Empty 0) ∷ receiver_joined

abbrev found : List Event
found = LoadSlot 0 (Message 0 0) ∷ looked_beside

abbrev received : List Event
received = ExchangeFlag 0 (SentTo 0 0) (HeldBy 1) ∷ found

abbrev receiver_taken : List FileStep
receiver_taken = Take 2 1 0 0 0 ∷ joins 2 1 (SentTo 0 0) refl

take_path : Path 2 (fresh_log scene 1) (Counting 1) (log_of scene 1 received) receiver_taken Outside
take_path =
    let all = joins 2 1 (SentTo 0 0) refl in
    let one = looks (log_of scene 1 receiver_joined) all Outside (LoadSlot 1 (Empty 0)) (join_path 2 1 (SentTo 0 0) refl) tt in
    let two = looks (log_of scene 1 looked_beside) all Outside (LoadSlot 0 (Message 0 0)) one tt in
    steps (log_of scene 1 found) all Outside (ExchangeFlag 0 (SentTo 0 0) (HeldBy 1)) (Take 2 1 0 0 0) Outside two refl
    (takes (log_of scene 1 found) 2 0 0 0)

-- the other slot of the queue is at a later lap than the message before
passes_other : (party : ℕ) (moment : List Event) (other : ℕ) → IsSlotOf queue other → other ≢ 0 →
    CanPass party found moment other (lap_before 0 0 other)
passes_other party moment zero its apart = absurd (apart refl)
passes_other party moment (suc zero) its apart =
    over (Empty 0) (record {
      event = LoadSlot 1 (Empty 0);
      before = receiver_joined;
      past = earlier (LoadSlot 0 (Message 0 0)) looked_beside now;
      shows = (refl, refl);
    }) first_lap
passes_other party moment (suc (suc more)) its apart =
    let range = slot_range queue (omega arith) (suc (suc more)) its in
    let less = range.1 in absurd (omega (arith, less))

receiver_obeys : (party : ℕ) → EventsObey party queue received
receiver_obeys party = (taking party, (tt, (tt, (tt, (tt, (tt, tt))))))
  where
    taking : (party : ℕ) → IsSlotOf queue 0 → CanTake party queue found 0 0 0
    taking party its = record {
      look = record { event = LoadSlot 0 (Message 0 0); before = looked_beside; past = now; shows = (refl, refl) };
      others = λ other of_queue apart. passes_other party found other of_queue apart;
    }

-- THE RUN

-- what has happened when the slot is filled
abbrev at_fill : List Act
at_fill = session 0 0 filled

-- when the sender's lock is freed
abbrev at_release : List Act
at_release = Frees 0 0 ∷ Dies 0 ∷ at_fill

-- when the message is sent
abbrev at_send : List Act
at_send = session 1 0 settled ++ at_release

-- when the settler has freed the lock
abbrev at_unlock : List Act
at_unlock = Unlocks 1 0 ∷ at_send

abbrev acts : List Act
acts = session 2 1 received ++ at_unlock

abbrev taken : ℕ → List FileStep
taken zero = Release 0 0 ∷ Kill 0 ∷ (sender_taken ++ Lock 0 0 ∷ [])
taken (suc zero) = Unlock 1 ∷ (settler_taken ++ Lock 1 0 ∷ [])
taken (suc (suc zero)) = receiver_taken ++ Lock 2 1 ∷ []
taken _ = []

abbrev places : ℕ → Place
places zero = Dead
places _ = Outside

true_to_fill : AreTrue scene at_fill
true_to_fill = (lit< tt, refl, (lit< tt, tt, (lit< tt, refl, (lit< tt, refl, (lit< tt, refl, (lit< tt, tt, (lit< tt, refl, (lit< tt, refl, tt))))))))

true_to_unlock : AreTrue scene at_unlock
true_to_unlock = (lit< tt, tt, (lit< tt, tt, (lit< tt, refl, (lit< tt, refl, (lit< tt, refl, (lit< tt, tt, (lit< tt, refl, (lit< tt, refl, (lit< tt, refl, (lit< tt, tt, true_to_fill))))))))))

all_true : AreTrue scene acts
all_true = (lit< tt, refl, (lit< tt, refl, (lit< tt, refl, (lit< tt, refl, (lit< tt, tt, (lit< tt, refl, (lit< tt, refl, true_to_unlock)))))))

lives : (process : ℕ) → Life scene process (own process acts) (taken process) (places process)
lives zero =
    frees 0 (Dies 0 ∷ at_fill) (Kill 0 ∷ (sender_taken ++ Lock 0 0 ∷ []))
    (dies at_fill (sender_taken ++ Lock 0 0 ∷ []) (Sending 0 0 0 0)
    (works 0 (log_of scene 0 filled) sender_taken (Sending 0 0 0 0) fill_path))
lives (suc zero) =
    leaves 0 (session 1 0 settled) (settler_taken ++ Lock 1 0 ∷ []) (Settled 0)
    (works 0 (log_of scene 0 settled) settler_taken (Settled 0) settler_path) (inl refl)
lives (suc (suc zero)) = works 1 (log_of scene 1 received) receiver_taken Outside take_path
lives (suc (suc (suc more))) =
    subst (λ (l : List Act). Life scene (suc (suc (suc more))) l [] Outside)
    (sym (own_beyond scene acts (suc (suc (suc more))) all_true (omega arith))) sleeps

all_obey : ProcessesObey queue acts
all_obey zero party locks = sender_obeys party
all_obey (suc zero) party locks = settler_obeys party
all_obey (suc (suc zero)) party locks = receiver_obeys party
all_obey (suc (suc (suc more))) party locks =
    subst (λ (l : List Act). EventsObey party queue (events_in l))
    (sym (own_beyond scene acts (suc (suc (suc more))) all_true (omega arith))) tt

-- a list that goes on is a moment of the whole
behind : (later moment : List Act) → IsMoment moment (later ++ moment)
behind [] moment = now
behind (act ∷ later) moment = earlier act (later ++ moment) (behind later moment)

-- the acts of a session after its process has taken the lock
abbrev operations : ℕ → ℕ → List Event → List Act
operations process party events = map (λ event. Operates process party event) events

-- all acts after the message was sent
abbrev since_send : List Act
since_send = session 2 1 received ++ Unlocks 1 0 ∷ []

-- all acts after the sender's lock was freed
abbrev since_release : List Act
since_release = since_send ++ session 1 0 settled

pub goes_through : GoesThrough 2
goes_through = record {
  queue = queue;
  depth_is = refl;
  acts = acts;
  taken = taken;
  places = places;
  run = record { true = all_true; lives = lives };
  obey = all_obey;
  recent = all_recent queue acts
      (λ slot. let less = fills_length (words_after scene) slot acts in omega (arith, less)) all_obey;
  slot = 0;
  its = refl;
  lap = 0;
  bucket = 0;
  sender = 0;
  number = 0;
  posted = record {
    before = session 0 0 entered;
    since = behind (session 0 0 entered) [];
    until = behind (since_release ++ Frees 0 0 ∷ Dies 0 ∷ []) at_fill;
  };
  killed = record { before = at_fill; since = now; until = behind (since_release ++ Frees 0 0 ∷ []) (Dies 0 ∷ at_fill) };
  in_call = (Post 0 0 0 0 5 ∷ Allocate 0 0 0 ∷ (joins 0 0 Free refl ++ Lock 0 0 ∷ []), refl);
  freed = record { before = Dies 0 ∷ at_fill; since = now; until = behind since_release at_release };
  settler = 1;
  locked = record {
    before = at_release;
    since = now;
    until = behind (since_send ++ operations 1 0 settled) (Locks 1 0 ∷ at_release);
  };
  sent = record {
    before = session 1 0 slot_loaded ++ at_release;
    since = behind (operations 1 0 slot_loaded) (Locks 1 0 ∷ at_release);
    until = behind since_send at_send;
  };
  settled = record { before = at_send; since = now; until = behind (session 2 1 received) at_unlock };
  receiver = 2;
  party = 1;
  received = record { before = session 2 1 found ++ at_unlock; since = behind (session 2 1 found) at_unlock; until = now };
  apart = ((λ same. absurd (cc)), (λ same. absurd (cc)), (λ same. absurd (cc)));
}
