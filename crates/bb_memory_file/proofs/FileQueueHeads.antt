-- The slot of a queue whose lap comes first.
use Rattle.bb_memory_file.proofs.FileQueueSlots.{slot_in, slot_range}
use Rattle.bb_memory_file.proofs.FileQueueWalks.{happens_now, happens_on, look_happened, look_later, looks_moment, looks_then, same_on, same_scene, same_slot}
use Rattle.bb_memory_file.specs.FileCode.{Event, FileLog, LoadSlot, told}
use Rattle.bb_memory_file.specs.FileNames.{Slot}
use Rattle.bb_memory_file.specs.FileQueueCalls.{Happens, IsFar, IsWrong, Looks, Note, far, nothing}
use Rattle.bb_memory_file.specs.FileQueueLooks.{Look, Position, last_lap}
use Rattle.bb_memory_file.specs.FileQueueSteps.{FindsHead, KnowsSame}
use Rattle.bb_memory_file_machine.specs.FileQueues.{FileQueue, IsLater, IsMoment, earlier, lap_said, now}
use Rattle.std.proofs.Common.{Bool, List, Some, arith, false, refl, subst, sym, true, ℕ, ◌%◌, ◌*◌, ◌+◌, ◌-◌, ◌<◌, ◌≡◌, ◌≤◌}
use Rattle.std.proofs.lemmas.Bool.{eqb-false, eqb-true, ltb-false, ltb-true}
use Rattle.std.specs.Prelude.{if◌then◌else◌, nat_lt, ◌==◌, ◌^◌}

-- LAPS

-- how far a lap is behind the first of those that are near to this one
abbrev pub offset : ℕ → ℕ → ℕ
offset lap other = (other + 2 ^ 28 + (2 ^ 30 - lap)) % 2 ^ 30

near_by : (lap other : ℕ) → ¬ IsFar lap other → offset lap other + 1 < 2 ^ 29
near_by lap other near = by_test (nat_lt (offset lap other + 1) (2 ^ 29)) refl
  where
    by_test : (test : Bool) → nat_lt (offset lap other + 1) (2 ^ 29) ≡ test → offset lap other + 1 < 2 ^ 29
    by_test true e = ltb-true (offset lap other + 1) (2 ^ 29) e
    by_test false e = absurd (near (ltb-false (offset lap other + 1) (2 ^ 29) e))

-- of two laps that are near, the later one is further behind
later_less : (lap one two : ℕ) → lap < 2 ^ 30 → one < 2 ^ 30 → two < 2 ^ 30 → offset lap one + 1 < 2 ^ 29 →
    IsLater one two → offset lap two + 1 < 2 ^ 29 → offset lap one < offset lap two
later_less lap one two small first second near (more, positive, half, is) close =
    omega (arith, small, first, second, near, positive, half, is, close)

less_later : (lap one two : ℕ) → lap < 2 ^ 30 → one < 2 ^ 30 → two < 2 ^ 30 → offset lap two + 1 < 2 ^ 29 →
    offset lap one < offset lap two → IsLater one two
less_later lap one two small first second close less = (
  offset lap two - offset lap one,
  omega (arith, less),
  omega (arith, close),
  omega (arith, small, first, second, close, less),
)

most_later : (lap one two : ℕ) → lap < 2 ^ 30 → one < 2 ^ 30 → two < 2 ^ 30 → offset lap two + 1 < 2 ^ 29 →
    offset lap one ≤ offset lap two → IsLater (last_lap one) two
most_later lap one two small first second close most = (
  offset lap two - offset lap one + 1,
  omega arith,
  omega (arith, close),
  omega (arith, small, first, second, close, most),
)

not_later_most : (lap one two : ℕ) → lap < 2 ^ 30 → one < 2 ^ 30 → two < 2 ^ 30 → offset lap two + 1 < 2 ^ 29 →
    ¬ IsLater one two → offset lap two ≤ offset lap one
not_later_most lap one two small first second close not = by_test (nat_lt (offset lap one) (offset lap two)) refl
  where
    by_test : (test : Bool) → nat_lt (offset lap one) (offset lap two) ≡ test → offset lap two ≤ offset lap one
    by_test true e =
        absurd (not (less_later lap one two small first second close (ltb-true (offset lap one) (offset lap two) e)))
    by_test false e = ltb-false (offset lap one) (offset lap two) e

-- THE FIRST LAP

-- the party has seen this word in the slot, whose lap is near, and not before that of the head
pub record Behind (lap : ℕ) (events : List Event) (head : Position) (other : ℕ) : Type 0 where
  pub word : Slot
  pub look : Look events other word
  pub small : lap_said word < 2 ^ 30
  pub near : offset lap (lap_said word) + 1 < 2 ^ 29
  pub strict : other < head.slot → offset lap head.lap < offset lap (lap_said word)
  pub most : offset lap head.lap ≤ offset lap (lap_said word)

-- The party has come to this slot, and of the slots before it the head's lap comes first.
pub record Heading (queue : FileQueue) (old : FileLog) (lap slot : ℕ) (head : Position) (log : FileLog) : Type 0 where
  pub looks : Looks old log
  pub same : KnowsSame old log
  pub first : Slot
  pub begun : Happens old.events log.events (LoadSlot (queue.number * queue.depth) first)
  pub lap_is : lap_said first ≡ lap
  pub small : lap < 2 ^ 30
  pub least : queue.number * queue.depth ≤ head.slot
  pub less : head.slot < slot
  pub head_small : head.lap < 2 ^ 30
  pub near : offset lap head.lap + 1 < 2 ^ 29
  pub word : Slot
  pub seen : Happens old.events log.events (LoadSlot head.slot word)
  pub word_is : lap_said word ≡ head.lap
  pub others : (other : ℕ) → queue.number * queue.depth ≤ other → other < slot → Behind lap log.events head other

pub heading_begins : (queue : FileQueue) (old log : FileLog) (slot lap : ℕ) (word : Slot) → slot ≡ queue.number * queue.depth →
    log ≡ told old (LoadSlot slot word) → lap ≡ lap_said word → lap < 2 ^ 30 →
    Heading queue old lap (slot + 1) (record { slot = slot; lap = lap }) log
heading_begins queue old log slot lap word at is said small = record {
  looks = looks_then old old nothing log (LoadSlot slot word) tt is;
  same = same_slot old log slot word is;
  first = word;
  begun = subst (λ s. Happens old.events log.events (LoadSlot s word)) at seen;
  lap_is = sym said;
  small = small;
  least = omega (arith, at);
  less = omega arith;
  head_small = small;
  near = omega (arith, small);
  word = word;
  seen = seen;
  word_is = sym said;
  others = λ other least less.
      let here : slot ≡ other = omega (arith, at, least, less) in
      record {
        word = word;
        look = subst (λ s. Look log.events s word) here (look_happened old.events log.events slot word seen);
        small = subst (λ l. l < 2 ^ 30) said small;
        near = subst (λ l. offset lap l + 1 < 2 ^ 29) said (omega (arith, small));
        strict = λ before. absurd (omega (arith, here, before));
        most = subst (λ l. offset lap lap ≤ offset lap l) said (omega arith);
      };
}
  where
    seen : Happens old.events log.events (LoadSlot slot word)
    seen = subst (λ (l : FileLog). Happens old.events l.events (LoadSlot slot word)) (sym is)
        (happens_now old.events old.events (LoadSlot slot word) now)

module _ (queue : FileQueue) (old : FileLog) (lap slot : ℕ) (head : Position) (log : FileLog)
    (heading : Heading queue old lap slot head log) where
  pub heading_scene : log.scene ≡ old.scene
  heading_scene = same_scene old log heading.looks

  module _ (new : FileLog) (word : Slot) (found : ℕ) (is : new ≡ told log (LoadSlot slot word)) (said : found ≡ lap_said word)
      (small : found < 2 ^ 30) where
    past : IsMoment log.events new.events
    past = subst (λ (l : FileLog). IsMoment log.events l.events) (sym is) (earlier (LoadSlot slot word) log.events now)

    looked : Looks old new
    looked = looks_then old log heading.looks new (LoadSlot slot word) tt is

    same_now : KnowsSame old new
    same_now = same_on old log new heading.same (same_slot log new slot word is)

    seen_now : Happens old.events new.events (LoadSlot slot word)
    seen_now = subst (λ (l : FileLog). Happens old.events l.events (LoadSlot slot word)) (sym is)
        (happens_now old.events log.events (LoadSlot slot word) (looks_moment old log heading.looks))

    begun_now : Happens old.events new.events (LoadSlot (queue.number * queue.depth) heading.first)
    begun_now = happens_on old.events log.events new.events (LoadSlot (queue.number * queue.depth) heading.first) past heading.begun

    -- its lap is far from that of the first slot
    pub heading_far : 0 < queue.depth → slot < queue.number * queue.depth + queue.depth → IsFar lap found →
        (notes : List Note) → IsWrong notes queue old.events new.events
    heading_far positive below is_far notes =
        let least = heading.least in
        let less = heading.less in
        far (queue.number * queue.depth) slot heading.first word (slot_in queue positive (queue.number * queue.depth) (omega arith)
        (omega (arith, positive))) (slot_in queue positive slot (omega (arith, least, less)) below) begun_now seen_now
        (subst (λ l. IsFar l (lap_said word)) (sym heading.lap_is) (subst (λ l. IsFar lap l) said is_far))

    pub heading_looks : Looks old new
    heading_looks = looked

    pub heading_same : KnowsSame old new
    heading_same = same_now

    module _ (near : ¬ IsFar lap found) where
      close : offset lap found + 1 < 2 ^ 29
      close = near_by lap found near

      behind_now : (head : Position) → (slot < head.slot → ⊥) → offset lap head.lap ≤ offset lap found → (other : ℕ) → other ≡ slot →
          Behind lap new.events head other
      behind_now head above most other here = record {
        word = word;
        look = subst (λ s. Look new.events s word) (sym here) (look_happened old.events new.events slot word seen_now);
        small = subst (λ l. l < 2 ^ 30) said small;
        near = subst (λ l. offset lap l + 1 < 2 ^ 29) said close;
        strict = λ before. absurd (above (subst (λ s. s < head.slot) here before));
        most = subst (λ l. offset lap head.lap ≤ offset lap l) said most;
      }

      -- its lap comes first
      pub heading_moves : IsLater found head.lap → Heading queue old lap (slot + 1) (record { slot = slot; lap = found }) new
      heading_moves later =
          let less = later_less lap found head.lap heading.small small heading.head_small close later heading.near in
          let least = heading.least in
          let after = heading.less in
          record {
            looks = looked;
            same = same_now;
            first = heading.first;
            begun = begun_now;
            lap_is = heading.lap_is;
            small = heading.small;
            least = omega (arith, least, after);
            less = omega arith;
            head_small = small;
            near = close;
            word = word;
            seen = seen_now;
            word_is = sym said;
            others = λ other from to. by_slot other from to (other == slot) refl less;
          }
        where
          by_slot : (other : ℕ) → queue.number * queue.depth ≤ other → other < slot + 1 → (here : Bool) → (other == slot) ≡ here →
              offset lap found < offset lap head.lap → Behind lap new.events (record { slot = slot; lap = found }) other
          by_slot other from to true e less =
              behind_now (record { slot = slot; lap = found }) (λ before. absurd (omega (arith, before))) (omega arith) other
              (eqb-true other slot e)
          by_slot other from to false e less =
              let apart = eqb-false other slot e in
              let known = heading.others other from (omega (arith, to, apart)) in
              let most = known.most in
              record {
                word = known.word;
                look = look_later log.events new.events other known.word past known.look;
                small = known.small;
                near = known.near;
                strict = λ before. omega (arith, less, most);
                most = omega (arith, less, most);
              }

      -- its lap doesn't
      pub heading_stays : ¬ IsLater found head.lap → Heading queue old lap (slot + 1) head new
      heading_stays not =
          let most = not_later_most lap found head.lap heading.small small heading.head_small heading.near not in
          let after = heading.less in
          record {
            looks = looked;
            same = same_now;
            first = heading.first;
            begun = begun_now;
            lap_is = heading.lap_is;
            small = heading.small;
            least = heading.least;
            less = omega (arith, after);
            head_small = heading.head_small;
            near = heading.near;
            word = heading.word;
            seen = happens_on old.events log.events new.events (LoadSlot head.slot heading.word) past heading.seen;
            word_is = heading.word_is;
            others = λ other from to. by_slot other from to (other == slot) refl most;
          }
        where
          by_slot : (other : ℕ) → queue.number * queue.depth ≤ other → other < slot + 1 → (here : Bool) → (other == slot) ≡ here →
              offset lap head.lap ≤ offset lap found → Behind lap new.events head other
          by_slot other from to true e most =
              let after = heading.less in
              behind_now head (λ before. absurd (omega (arith, before, after))) most other (eqb-true other slot e)
          by_slot other from to false e most =
              let apart = eqb-false other slot e in
              let known = heading.others other from (omega (arith, to, apart)) in
              record {
                word = known.word;
                look = look_later log.events new.events other known.word past known.look;
                small = known.small;
                near = known.near;
                strict = known.strict;
                most = known.most;
              }

  -- the queue begins at the head
  pub heading_ends : 0 < queue.depth → queue.number * queue.depth + queue.depth ≤ slot →
      slot ≤ queue.number * queue.depth + queue.depth → FindsHead queue old (Some head) log
  heading_ends positive past most =
      let least = heading.least in
      let less = heading.less in (
        (
          (slot_in queue positive head.slot least (omega (arith, less, most)), heading.head_small),
          (λ other its.
              let range = slot_range queue positive other its in
              let above = range.0 in
              let below = range.1 in
              let known = heading.others other above (omega (arith, below, past)) in
              (known.word, known.look, by_order other known (nat_lt other head.slot) refl)),
        ),
        (heading.word, heading.seen, heading.word_is),
      )
    where
      by_order : (other : ℕ) (known : Behind lap log.events head other) (test : Bool) → nat_lt other head.slot ≡ test →
          IsLater (if test then head.lap else last_lap head.lap) (lap_said known.word)
      by_order other known true e =
          less_later lap head.lap (lap_said known.word) heading.small heading.head_small known.small known.near
          (known.strict (ltb-true other head.slot e))
      by_order other known false e =
          most_later lap head.lap (lap_said known.word) heading.small heading.head_small known.small known.near known.most
