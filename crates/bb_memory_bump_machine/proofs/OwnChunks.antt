-- A party's own chunks, as its log has them.
use Rattle.bb_memory_bump_machine.proofs.BumpAllowed.{no_clear_when_allowed}
use Rattle.bb_memory_bump_machine.proofs.BumpMeetings.{all_in_log, all_parts, allowed_stands, apart_behind}
use Rattle.bb_memory_bump_machine.proofs.BumpStretches.{stretch_grows}
use Rattle.bb_memory_bump_machine.specs.BumpLogs.{AllAllowed, BumpEntry, BumpLog, Interleaving, LogsAgree, OpensWith, chunks_won, entries_by, history_of, is_by, live_after, won_at}
use Rattle.bb_memory_bump_machine.specs.BumpMachine.{BumpScene, BumpStep, opening_state}
use Rattle.bb_memory_traits.proofs.LiveLists.{all_above, all_end_by, apart_from_order, end_of_last-above, in_order-append, in_order-front, in_order-rest, stands_for_some}
use Rattle.bb_memory_traits.specs.BumpObject.{IsInOrder, StandsFor, end_of_last}
use Rattle.bb_memory_traits.specs.Chunk.{AreApart, Chunk, IsInside, IsSound}
use Rattle.std.proofs.Common.{Bool, List, [], arith, false, subst, true, ℕ, ◌++◌, ◌∷◌, ◌≡◌, ◌≤◌}
use Rattle.std.proofs.lemmas.List.Elements.{All-from_recursion}
use Rattle.std.specs.List.{All}
use Rattle.std.specs.Prelude.{if◌then◌else◌}

in_order_lower : (v w : ℕ) (xs : List Chunk) → v ≤ w → IsInOrder w xs → IsInOrder v xs
in_order_lower v w [] le ordered = tt
in_order_lower v w (x ∷ xs) le (here, rest) = (omega (arith, le, here), rest)

own_entry : (v : ℕ) (own : Bool) (entry : BumpEntry) (log : BumpLog) → v ≤ end_of_last v (won_at entry.outcome) →
    IsInOrder v (won_at entry.outcome) → IsInOrder (end_of_last v (won_at entry.outcome)) (chunks_won log) →
    IsInOrder v (chunks_won (if own then entry ∷ log else log))
own_entry v true entry log le front rest = in_order-append v (won_at entry.outcome) (chunks_won log) front rest
own_entry v false entry log le front rest = in_order_lower v (end_of_last v (won_at entry.outcome)) (chunks_won log) le rest

in_order_own : (v party : ℕ) (history : BumpLog) → IsInOrder v (chunks_won history) →
    IsInOrder v (chunks_won (entries_by party history))
in_order_own v party [] ordered = tt
in_order_own v party (entry ∷ history) ordered =
    let won = won_at entry.outcome in
    let later = chunks_won history in
    let front = in_order-front v won later ordered in
    let rest = in_order-rest v won later ordered in
    own_entry v (is_by party entry.step) entry (entries_by party history) (end_of_last-above v won front) front
    (in_order_own (end_of_last v won) party history rest)

-- after allowed steps the object's list is the one of before with the chunks won since
allowed_grow : (scene : BumpScene) (live : List Chunk) (steps : List BumpStep) → AllAllowed (history_of scene steps) →
    live_after scene live steps ≡ live ++ chunks_won (history_of scene steps)
allowed_grow scene live steps allowed =
    stretch_grows scene.region (opening_state scene) live steps
    (no_clear_when_allowed scene.region (opening_state scene) steps allowed)

-- AN INTERLEAVING

-- a party's own chunks are a sound list
pub interleaved_own : (scene : BumpScene) (position party : ℕ) (log : BumpLog) → scene.opening ≤ scene.region.size →
    Interleaving scene party log position → IsSound scene.region (chunks_won log)
interleaved_own scene position party log within own =
    let some = stands_for_some scene.region scene.opening within in
    let history = history_of scene own.steps in
    let stands = allowed_stands scene some.0 own.steps own.allowed some.1 in
    let v = end_of_last scene.region.start some.0 in
    let ordered = in_order-rest scene.region.start some.0 (chunks_won history) stands.in_order in
    let mine = in_order_own v party history ordered in
    let inside = (all_parts (IsInside scene.region) some.0 (chunks_won history) stands.sound.inside).1 in
    subst (λ (l : BumpLog). IsSound scene.region (chunks_won l)) own.logged record {
      inside = all_in_log (IsInside scene.region) party history inside;
      apart = apart_from_order v (chunks_won (entries_by party history)) mine;
    }

-- the chunks of a party are apart from all that was given before the opening
pub interleaved_older : (scene : BumpScene) (position party : ℕ) (log : BumpLog) (live : List Chunk) → OpensWith scene live →
    Interleaving scene party log position → All (λ older. All (AreApart older) (chunks_won log)) live
interleaved_older scene position party log live opens own =
    let history = history_of scene own.steps in
    let stands = allowed_stands scene live own.steps own.allowed opens in
    let v = end_of_last scene.region.start live in
    let ordered = in_order-rest scene.region.start live (chunks_won history) stands.in_order in
    let won = chunks_won history in
    let above = All-from_recursion (λ y. v ≤ y.place) won (all_above v v won (omega arith) ordered) in
    let below = all_end_by scene.region.start v live opens.in_order (omega arith) in
    apart_behind v live (chunks_won log) below
    (subst (λ l. All (λ y. v ≤ y.place) (chunks_won l)) own.logged (all_in_log (λ y. v ≤ y.place) party history above))

-- the object's list is the earlier one followed by the chunks won
pub interleaved_since : (scene : BumpScene) (position party : ℕ) (log : BumpLog) (live : List Chunk)
    (own : Interleaving scene party log position) →
    live_after scene live own.steps ≡ live ++ chunks_won (history_of scene own.steps)
interleaved_since scene position party log live own = allowed_grow scene live own.steps own.allowed

-- LOGS THAT AGREE

pub agreed_since : (scene : BumpScene) (position : ℕ) (logs : List BumpLog) (live : List Chunk)
    (agree : LogsAgree scene position logs) →
    live_after scene live agree.steps ≡ live ++ chunks_won (history_of scene agree.steps)
agreed_since scene position logs live agree = allowed_grow scene live agree.steps agree.allowed

pub agreed_stands : (scene : BumpScene) (position : ℕ) (logs : List BumpLog) (live : List Chunk) → OpensWith scene live →
    (agree : LogsAgree scene position logs) → StandsFor scene.region position (live ++ chunks_won (history_of scene agree.steps))
agreed_stands scene position logs live opens agree =
    subst (λ (n : ℕ). StandsFor scene.region n (live ++ chunks_won (history_of scene agree.steps))) agree.leaves
    (allowed_stands scene live agree.steps agree.allowed opens)
