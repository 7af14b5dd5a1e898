-- How a request goes on: from its read to the step that decides it.
use Rattle.atomic_table.specs.Table.{Me}
use Rattle.bb_memory_bump.proofs.SharedBumpTries.{counted_more, losses_more, won_then}
use Rattle.bb_memory_bump.proofs.SharedLogs.{call_next, losses_in-cons, seen_next}
use Rattle.bb_memory_bump.specs.Bump.{Layout}
use Rattle.bb_memory_bump.specs.SharedBump.{BumpOutcome, Exchange, Loses, Read, RefusedAtLoss, RefusedAtRead, Sees, Tries, Wins, at_loss, at_read, by_loss, by_read}
use Rattle.bb_memory_bump.specs.SharedBumpRule.{AfterExchange, AfterRead, AfterRefusal, AfterStep, AfterWin, IsCounted, IsSeatOf, SeatView, met_by}
use Rattle.bb_memory_bump_machine.proofs.BumpRuns.{chunk_at-above}
use Rattle.bb_memory_bump_machine.specs.BumpLogs.{BumpLog, HasPositionFrom, HasPositionUpTo, call_after, call_in, chunks_won, entry_of, is_loss, losses_in, seen_in}
use Rattle.bb_memory_bump_machine.specs.BumpMachine.{BumpScene, OngoingCall, chunk_at, ending, exchange_move, fits, loss_move, position_behind, read_move, seeing}
use Rattle.bb_memory_seats.specs.Seats.{number_of, view_log}
use Rattle.bb_memory_traits.specs.Chunk.{Chunk, Region, chunk_end, region_end}
use Rattle.std.proofs.Common.{Bool, Some, [], ap, append_assoc, arith, eq-eqb, false, ne_eqb, refl, subst, sym, true, ℕ, ◌++◌, ◌+◌, ◌<◌, ◌∙◌, ◌∷◌, ◌≡◌, ◌≢◌, ◌≤◌}
use Rattle.std.proofs.lemmas.List.Elements.{All-from_recursion}
use Rattle.std.specs.Prelude.{if◌then◌else◌, max}

-- A request in progress: the party has made these tries, and has seen `last`, which is at most what
-- its log says. Each loss has raised that by at least one, and none of these steps has won a chunk.
pub record IsTrying (scene : BumpScene) (number : ℕ) (log : BumpLog) (met : ℕ) (layout : Layout) (last : ℕ)
    (me : Me ℕ SeatView) : Type 0 where
  pub tried : BumpLog
  pub seat : IsSeatOf scene number (log ++ tried) me
  pub unchanged : met_by me.0 ≡ met
  pub tries : Tries scene.region number layout tried last
  pub counted : IsCounted scene log met tried
  pub few : losses_in tried + max (seen_in scene log) met ≤ last
  pub chunks : chunks_won tried ≡ []
  pub within : last ≤ scene.region.size
  pub call : call_in (log ++ tried) ≡ Some (record { layout = layout; seen = last })
  pub seen : last ≡ seen_in scene (log ++ tried)
  pub alone : scene.parties ≡ 1 → last ≡ seen_in scene log

-- WHAT THE MACHINE ANSWERS, BY ITS TESTS

read_answers : (region : Region) (found : ℕ) (layout : Layout) (fitting : Bool) → fits region found layout ≡ fitting →
    (read_move region found layout).outcome ≡ (if fitting then Sees found else RefusedAtRead found)
read_answers region found layout fitting is = grind arith

loss_answers : (region : Region) (found : ℕ) (call : OngoingCall) (fitting : Bool) →
    found ≢ call.seen → fits region found call.layout ≡ fitting →
    (exchange_move region found call).outcome ≡ (if fitting then Loses found else RefusedAtLoss found)
loss_answers region found call fitting apart is =
    let chunk = chunk_at region found call.layout in
    ap (λ (b : Bool). (if b then ending (Wins chunk) (position_behind region chunk)
    else loss_move region found call.layout).outcome)
    (ne_eqb found call.seen apart)
    ∙ ap (λ (b : Bool). (if b then seeing (Loses found) found call.layout else ending (RefusedAtLoss found) found).outcome) is
    ∙ by_test fitting
  where
    by_test : (b : Bool) → (if b then seeing (Loses found) found call.layout else ending (RefusedAtLoss found) found).outcome ≡
        (if b then Loses found else RefusedAtLoss found)
    by_test true = refl
    by_test false = refl

win_answers : (region : Region) (found : ℕ) (call : OngoingCall) → found ≡ call.seen →
    (exchange_move region found call).outcome ≡ Wins (chunk_at region found call.layout)
win_answers region found call same =
    let chunk = chunk_at region found call.layout in
    ap (λ (b : Bool). (if b then ending (Wins chunk) (position_behind region chunk)
    else loss_move region found call.layout).outcome)
    (eq-eqb found call.seen same)

-- A READ

module _ (scene : BumpScene) (party : ℕ) (log : BumpLog) (met : ℕ) (layout : Layout) (found : ℕ) (new : Me ℕ SeatView)
    (told : AfterRead scene party log met layout found new) where
  read_told : (outcome : BumpOutcome) → (read_move scene.region found layout).outcome ≡ outcome →
      AfterStep scene party log met (Read party layout) outcome found new
  read_told outcome is = subst (λ (o : BumpOutcome). AfterStep scene party log met (Read party layout) o found new) is told

  read_counted : (outcome : BumpOutcome) →
      HasPositionFrom (max (seen_in scene log) met) scene.region (entry_of (Read party layout) outcome) →
      HasPositionUpTo scene.region.size scene.region (entry_of (Read party layout) outcome) → is_loss outcome ≡ false →
      IsCounted scene log met (entry_of (Read party layout) outcome ∷ [])
  read_counted outcome from up_to no_loss =
      let entry = entry_of (Read party layout) outcome in record {
        seen = All-from_recursion (HasPositionFrom (max (seen_in scene log) met) scene.region) (entry ∷ []) (from, tt);
        within = All-from_recursion (HasPositionUpTo scene.region.size scene.region) (entry ∷ []) (up_to, tt);
        losses = let one = losses_in-cons entry [] in
            let none = ap {B = ℕ} (λ (b : Bool). if b then 1 else 0) no_loss in omega (arith, one, none);
      }

  pub begins : fits scene.region found layout ≡ true → IsTrying scene party log met layout found new
  begins fit =
      let tells = read_told (Sees found) (read_answers scene.region found layout true fit) in record {
        tried = entry_of (Read party layout) (Sees found) ∷ [];
        seat = tells.seat;
        unchanged = tells.unchanged;
        tries = by_read (entry_of (Read party layout) (Sees found) ∷ []) found refl fit;
        counted = read_counted (Sees found) (omega (arith, tells.seen, tells.above)) tells.within refl;
        few = let none = losses_in-cons (entry_of (Read party layout) (Sees found)) [] in
            omega (arith, none, tells.seen, tells.above);
        chunks = refl;
        within = tells.within;
        call = call_next log (Read party layout) (Sees found);
        seen = let next = seen_next scene log (Read party layout) (Sees found) in omega (arith, next, tells.seen);
        alone = tells.exact;
      }

  pub refused_at_once : fits scene.region found layout ≡ false → AfterRefusal scene party log met layout new
  refused_at_once unfit =
      let decides = entry_of (Read party layout) (RefusedAtRead found) in
      let tells = read_told (RefusedAtRead found) (read_answers scene.region found layout false unfit) in record {
        added = decides ∷ [];
        ended = record {
          seat = record { seat = tells.seat; idle = call_next log (Read party layout) (RefusedAtRead found) };
          unchanged = tells.unchanged;
          counted = read_counted (RefusedAtRead found) (omega (arith, tells.seen, tells.above)) tells.within refl;
        };
        refused = at_read found refl unfit;
        chunks = refl;
        alone = λ one. subst (λ (n : ℕ). fits scene.region n layout ≡ false) (tells.exact one) unfit;
      }

-- AN EXCHANGE

module _ (scene : BumpScene) (party : ℕ) (log : BumpLog) (met : ℕ) (layout : Layout) (last found : ℕ) (me new : Me ℕ SeatView)
    (trying : IsTrying scene party log met layout last me)
    (told : AfterExchange scene (number_of me.0) (view_log me.0) (met_by me.0) found new) where
  exchanged : AfterStep scene party (log ++ trying.tried) met (Exchange party)
      (exchange_move scene.region found (record { layout = layout; seen = last })).outcome found new
  exchanged =
      subst (λ (n : ℕ). AfterExchange scene party (log ++ trying.tried) n found new) trying.unchanged
      (subst (λ (m : Me ℕ SeatView). AfterExchange scene (number_of m.0) (view_log m.0) (met_by me.0) found new)
      trying.seat.is told)
      (record { layout = layout; seen = last }) trying.call

  exchange_told : (outcome : BumpOutcome) →
      (exchange_move scene.region found (record { layout = layout; seen = last })).outcome ≡ outcome →
      AfterStep scene party (log ++ trying.tried) met (Exchange party) outcome found new
  exchange_told outcome is =
      subst (λ (o : BumpOutcome). AfterStep scene party (log ++ trying.tried) met (Exchange party) o found new) is exchanged

  -- a party that is the only one loses none
  alone_wins : scene.parties ≡ 1 → found ≡ last
  alone_wins one = exchanged.exact one ∙ sym trying.seen

  -- an exchange finds at least the position that was seen
  pub raises : (last ≤ found) × (found ≤ scene.region.size)
  raises = (omega (arith, exchanged.seen, trying.seen), exchanged.within)

  joined : (outcome : BumpOutcome) →
      (log ++ trying.tried) ++ entry_of (Exchange party) outcome ∷ [] ≡
      log ++ (trying.tried ++ entry_of (Exchange party) outcome ∷ [])
  joined outcome = append_assoc log trying.tried (entry_of (Exchange party) outcome ∷ [])

  then_call : (outcome : BumpOutcome) →
      call_in (log ++ (trying.tried ++ entry_of (Exchange party) outcome ∷ [])) ≡
      call_after (Some (record { layout = layout; seen = last })) (entry_of (Exchange party) outcome)
  then_call outcome =
      ap call_in (sym (joined outcome)) ∙ call_next (log ++ trying.tried) (Exchange party) outcome
      ∙ ap (λ now. call_after now (entry_of (Exchange party) outcome)) trying.call

  then_seat : (outcome : BumpOutcome) → AfterStep scene party (log ++ trying.tried) met (Exchange party) outcome found new →
      IsSeatOf scene party (log ++ (trying.tried ++ entry_of (Exchange party) outcome ∷ [])) new
  then_seat outcome tells = subst (λ (l : BumpLog). IsSeatOf scene party l new) (joined outcome) tells.seat

  above_least : max (seen_in scene log) met ≤ last
  above_least = omega (arith, trying.few)

  -- a loss at which the layout fits
  pub goes_on : found ≢ last → fits scene.region found layout ≡ true → IsTrying scene party log met layout found new
  goes_on apart fit =
      let above = above_least in
      let tells =
      exchange_told (Loses found) (loss_answers scene.region found (record { layout = layout; seen = last }) true apart fit) in
      let risen = raises.0 in
      let less : last < found = grind (arith, risen, apart) in
      let lost = entry_of (Exchange party) (Loses found) in
      record {
        tried = trying.tried ++ lost ∷ [];
        seat = then_seat (Loses found) tells;
        unchanged = tells.unchanged;
        tries = by_loss trying.tried (trying.tried ++ lost ∷ []) last found trying.tries refl less fit;
        counted = counted_more scene log met trying.tried lost trying.counted (omega (arith, above, less)) tells.within
            (omega (arith, trying.few, less, tells.within));
        few = let more = losses_more trying.tried lost in omega (arith, more, trying.few, less);
        chunks = won_then trying.tried lost trying.chunks;
        within = tells.within;
        call = then_call (Loses found);
        seen = let next = seen_next scene (log ++ trying.tried) (Exchange party) (Loses found) in
            let same = ap (seen_in scene) (joined (Loses found)) in omega (arith, next, same, tells.seen);
        alone = λ one. absurd (apart (alone_wins one));
      }

  -- a loss at a position at which the layout doesn't fit
  pub refused_later : found ≢ last → fits scene.region found layout ≡ false → AfterRefusal scene party log met layout new
  refused_later apart unfit =
      let decides = entry_of (Exchange party) (RefusedAtLoss found) in
      let tells = exchange_told (RefusedAtLoss found)
      (loss_answers scene.region found (record { layout = layout; seen = last }) false apart unfit) in
      let risen = raises.0 in
      let above = above_least in
      let less : last < found = grind (arith, risen, apart) in
      let from : max (seen_in scene log) met ≤ found = omega (arith, above, less) in
      record {
        added = trying.tried ++ decides ∷ [];
        ended = record {
          seat = record { seat = then_seat (RefusedAtLoss found) tells; idle = then_call (RefusedAtLoss found) };
          unchanged = tells.unchanged;
          counted = counted_more scene log met trying.tried decides trying.counted from tells.within
              (omega (arith, trying.few, less, tells.within));
        };
        refused = at_loss trying.tried last found trying.tries refl less unfit;
        chunks = won_then trying.tried decides trying.chunks;
        alone = λ one. absurd (apart (alone_wins one));
      }

  -- a win: the chunk is the one at what was seen last, and ends inside the region
  pub wins : (chunk : Chunk) → found ≡ last → chunk ≡ chunk_at scene.region last layout →
      chunk_end chunk ≤ region_end scene.region →
      AfterWin scene party log met layout new chunk
  wins chunk same placed inside =
      let region = scene.region in
      let decides = entry_of (Exchange party) (Wins chunk) in
      let it : chunk_at region found layout ≡ chunk = ap (λ (position : ℕ). chunk_at region position layout) same ∙ sym placed in
      let tells =
      exchange_told (Wins chunk) (win_answers region found (record { layout = layout; seen = last }) same ∙ ap Wins it) in
      let above = above_least in
      let place = chunk_at-above region last layout in
      let end = ap (λ (c : Chunk). chunk_end c) placed in
      let from : max (seen_in scene log) met ≤ position_behind region chunk = omega (arith, above, place, end) in
      let begin = ap (λ (c : Chunk). c.place) placed in
      let up_to : position_behind region chunk ≤ region.size = omega (arith, inside) in
      record {
        added = trying.tried ++ decides ∷ [];
        ended = record {
          seat = record { seat = then_seat (Wins chunk) tells; idle = then_call (Wins chunk) };
          unchanged = tells.unchanged;
          counted =
              counted_more scene log met trying.tried decides trying.counted from up_to
              (omega (arith, trying.few, trying.within));
        };
        won = record { seen = last; tried = trying.tried; tries = trying.tries; is = refl; placed = placed };
        chunks = won_then trying.tried decides trying.chunks;
        behind = omega (arith, above, place, begin);
        below = inside;
        alone = λ one. placed ∙ ap (λ (position : ℕ). chunk_at region position layout) (trying.alone one);
      }
