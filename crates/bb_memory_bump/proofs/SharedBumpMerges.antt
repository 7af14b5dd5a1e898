-- Parties that come to one seat, and what their meeting shows about their logs.
use Rattle.atomic_table.specs.Seated.{TableId}
use Rattle.atomic_table.specs.Table.{Me}
use Rattle.bb_memory_bump.specs.SharedBump.{AgreeAt, BumpParty, HaveMet, IsSharedScene, SharedBump, floor_of, greatest_seen, meeting_at, seen_by}
use Rattle.bb_memory_bump.specs.SharedBumpRule.{AfterMeetingLoad, HasMet, IsPartySeat, NumberedLog, SeatView, meeting_of, met_by, met_of, numbered_of, party_in, scene_of, sight}
use Rattle.bb_memory_bump_machine.proofs.BumpLogs.{opening_agrees}
use Rattle.bb_memory_bump_machine.proofs.BumpPositions.{seen_below}
use Rattle.bb_memory_bump_machine.proofs.BumpWholes.{opened_below, whole_bounds}
use Rattle.bb_memory_bump_machine.specs.BumpLogs.{BumpLog, HasLog, seen_in}
use Rattle.bb_memory_bump_machine.specs.BumpMachine.{BumpScene}
use Rattle.bb_memory_lists.proofs.ListEntries.{contains-none}
use Rattle.bb_memory_seats.proofs.PartyNumbers.{all_there, has_number, logs_had, numbers_differ, owner}
use Rattle.bb_memory_seats.specs.Seats.{HaveLogs, alone, standing_for, view_log}
use Rattle.std.proofs.Common.{List, [], ap, append_assoc, arith, length, refl, replicate, subst, suc, sym, zero, ℕ, ◌++◌, ◌<◌, ◌∙◌, ◌∷◌, ◌≡◌, ◌≤◌}
use Rattle.std.proofs.lemmas.Grind.{common_steps}
use Rattle.std.proofs.lemmas.List.{length-map, length-replicate}
use Rattle.std.proofs.lemmas.List.Elements.{All-cons, All-contains, All-contains_itself, All-from_recursion, All-head, All-nil, All-replicate, All-tail, All-weaker, recursion_from_All}
use Rattle.std.specs.List.{All, AllByRecursion}
use Rattle.std.specs.Prelude.{Contains, map}

-- GATHERING

-- the last of a list comes to the seat
pub all_merged : (table : TableId) (number : ℕ) (me : Me ℕ SeatView) (party : BumpParty) (items rest : List BumpParty) →
    IsPartySeat number me → party_in table number me.0 ≡ party → items ≡ rest ++ party ∷ [] →
    map numbered_of rest ++ me.0.parties ≡ map numbered_of items
all_merged table number me party items rest fields view_is is = grind (arith, common_steps)

pub one_merged : (table : TableId) (number : ℕ) (me : Me ℕ SeatView) (party : BumpParty) (items rest : List BumpParty)
    (own : List NumberedLog) → IsPartySeat number me → party_in table number me.0 ≡ party → items ≡ rest ++ party ∷ [] →
    map numbered_of rest ++ (me.0.parties ++ own) ≡ map numbered_of items ++ own
one_merged table number me party items rest own fields view_is is = grind (arith, common_steps)

-- WHAT A MEETING SAYS

-- the greatest position that one of them has seen
greatest_above : (items : List BumpParty) (one : BumpParty) → Contains items one → seen_by one ≤ greatest_seen items
greatest_above [] one has = absurd (contains-none one has)
greatest_above (party ∷ items) one (zero, below, same) = let seen = ap seen_by same in omega arith
greatest_above (party ∷ items) one (suc k, below, same) =
    let rest = greatest_above items one (k, omega (arith, below), same) in omega arith

greatest_below : (items : List BumpParty) (most : ℕ) → AllByRecursion (λ party. seen_by party ≤ most) items →
    greatest_seen items ≤ most
greatest_below [] most below = omega arith
greatest_below (party ∷ items) most below = let rest = greatest_below items most below.1 in omega (arith, rest, below.0)

-- parties of one bump that met and found this position
module _ (bump : SharedBump) (items : List BumpParty) (met found : ℕ) (theirs : All (λ party. party.allocator ≡ bump) items)
    (told : AfterMeetingLoad bump.scene (map numbered_of items) met found) where
  abbrev scene : BumpScene
  scene = bump.scene

  had : All (λ party. HasLog told.logs party.number party.log) items
  had = All-from_recursion (λ (p : BumpParty). HasLog told.logs p.number p.log) items
      (logs_had numbered_of scene.parties told.logs items told.theirs)

  its_scene : (party : BumpParty) → Contains items party → seen_by party ≡ seen_in scene party.log
  its_scene party there = ap (λ (b : SharedBump). seen_in b.scene party.log)
      (All-contains (λ (p : BumpParty). p.allocator ≡ bump) items party theirs there)

  seen_at_most : (party : BumpParty) → Contains items party → seen_by party ≤ found
  seen_at_most party there =
      let own = All-contains (λ (p : BumpParty). HasLog told.logs p.number p.log) items party had there in
      let seen = seen_below scene found told.logs party.number party.log told.agree own in
      omega (arith, seen, its_scene party there)

  -- the agreement of the parties' logs with the position
  pub agrees : IsSharedScene scene → AgreeAt scene found items
  agrees shared = record {
    logs = told.logs;
    agree = told.agree;
    one_a_party = told.one_a_party;
    theirs = had;
    differ = numbers_differ numbered_of scene.parties told.logs items told.theirs told.once;
    whole = λ long.
        let long_so : length (map numbered_of items) ≡ scene.parties = length-map items numbered_of ∙ long in
        let there = all_there scene.parties told.logs (map numbered_of items) told.theirs told.once long_so in
        let each : (number : ℕ) → number < scene.parties →
        (log : BumpLog) × HasLog told.logs number log × (seen_in scene log ≤ greatest_seen items) = λ number below.
        let one = owner numbered_of items number (there number below) in
        let own = All-contains (λ (p : BumpParty). HasLog told.logs p.number p.log) items one.one had one.there in (
          one.one.log,
          subst (λ (n : ℕ). HasLog told.logs n one.one.log) one.its own,
          omega (arith, greatest_above items one.one one.there, its_scene one.one one.there),
        ) in
        let first = each 0 shared.parties in
        let opened = opened_below scene first.0 in
        let up = whole_bounds scene found (greatest_seen items) told.logs told.agree (omega (arith, opened, first.2)) each in
        let down = greatest_below items found (recursion_from_All (λ (p : BumpParty). seen_by p ≤ found) items
        (All-weaker (Contains items) (λ p. seen_by p ≤ found) seen_at_most items (All-contains_itself items))) in (
          λ number below. has_number numbered_of items number (there number below),
          omega (arith, up, down),
        );
  }

  -- no party knew a greater position
  pub floors_below : All (λ party. party.met ≤ found) items → All (λ party. floor_of party ≤ found) items
  floors_below mets = grind (arith, seen_at_most, All-contains_itself)

  pub have_met : (new : List BumpParty) → IsSharedScene scene → All (λ party. party.met ≤ found) items →
      new ≡ map (meeting_at found) items → HaveMet scene items new
  have_met new shared mets is = grind (arith, floors_below, agrees)

-- a meeting of none
pub none_met : (bump : SharedBump) (items new : List BumpParty) → IsSharedScene bump.scene → items ≡ [] → new ≡ [] →
    HaveMet bump.scene items new
none_met bump items new shared none none_new =
    let scene = bump.scene in
    let logs : List BumpLog = replicate scene.parties [] in
    subst (λ (x : List BumpParty × List BumpParty). HaveMet scene x.0 x.1) (λ i. (sym none i, sym none_new i)) record {
      position = scene.opening;
      kept = refl;
      risen = All-nil (λ (p : BumpParty). floor_of p ≤ scene.opening);
      within = shared.opening;
      agree = record {
        logs = logs;
        agree = opening_agrees scene logs (All-replicate (λ (log : BumpLog). log ≡ []) scene.parties [] refl);
        one_a_party = length-replicate scene.parties [];
        theirs = All-nil (λ (p : BumpParty). HasLog logs p.number p.log);
        differ = λ i j one other at at_other apart same. absurd (cc);
        whole = λ long. let some = shared.parties in absurd (omega (arith, some, long));
      };
    }

-- the log of one of the parties that met
its_own : (made : ℕ) (logs : List BumpLog) (before behind : List NumberedLog) (one : NumberedLog) →
    HaveLogs made logs (before ++ one ∷ behind) → HasLog logs one.number one.log
its_own made logs [] behind one have = have.1
its_own made logs (first ∷ before) behind one have = its_own made logs before behind one have.2

-- the seat of a party that goes back: one interleaving has its log and leaves what the meeting
-- found
pub met_seat : (scene : BumpScene) (number met found : ℕ) (before behind : List NumberedLog) (me new : Me ℕ SeatView) →
    IsPartySeat number me → scene_of me.0 ≡ scene →
    AfterMeetingLoad scene (before ++ (me.0.parties ++ behind)) met found →
    new ≡ (alone (sight scene found) number (view_log me.0), []) → IsPartySeat number new
met_seat scene number met found before behind me new fields same told is = grind (arith, its_own)

-- THERE AND BACK

-- what a meeting found, for one of its parties
has_met : (scene : BumpScene) (met found : ℕ) (before behind : List NumberedLog) (one : NumberedLog) →
    AfterMeetingLoad scene (before ++ one ∷ behind) met found → HasMet scene found one
has_met scene met found before behind one told =
    let own = its_own scene.parties told.logs before behind one told.theirs in
    let seen = seen_below scene found told.logs one.number one.log told.agree own in
    record {
      within = told.within;
      reached = grind (arith, common_steps);
    }

-- and for all of them
all_met : (scene : BumpScene) (met found : ℕ) (before behind : List NumberedLog) (items : List BumpParty) →
    AfterMeetingLoad scene (before ++ (map numbered_of items ++ behind)) met found →
    All (λ party. HasMet scene found (numbered_of party)) items
all_met scene met found before behind [] told = All-nil (λ (p : BumpParty). HasMet scene found (numbered_of p))
all_met scene met found before behind (party ∷ items) told =
    let first = numbered_of party in
    let rest = map numbered_of items ++ behind in
    let again = sym (append_assoc before (first ∷ []) rest) in
    All-cons (λ (p : BumpParty). HasMet scene found (numbered_of p)) party items
    (has_met scene met found before rest first told)
    (all_met scene met found (before ++ first ∷ []) behind items
    (subst (λ (all : List NumberedLog). AfterMeetingLoad scene all met found) again told))

pub parties_met : (scene : BumpScene) (met found : ℕ) (behind : List NumberedLog) (items : List BumpParty) →
    AfterMeetingLoad scene (map numbered_of items ++ behind) met found →
    All (λ party. HasMet scene found (numbered_of party)) items
parties_met scene met found = all_met scene met found []

-- parties of a bump that met are those of its numbers and logs
of_its_numbers : (bump : SharedBump) (found : ℕ) (items : List BumpParty) → All (λ party. party.allocator ≡ bump) items →
    map (met_of bump found) (map numbered_of items) ≡ map (meeting_at found) items
of_its_numbers bump found [] all = refl
of_its_numbers bump found (party ∷ items) all =
    let its = All-head (λ (p : BumpParty). p.allocator ≡ bump) party items all in
    let rest = of_its_numbers bump found items (All-tail (λ (p : BumpParty). p.allocator ≡ bump) party items all) in
    λ i. record { allocator = sym its i; number = party.number; log = party.log; met = found } ∷ rest i

pub of_same_numbers : (bump : SharedBump) (found : ℕ) (items now : List BumpParty) →
    All (λ party. party.allocator ≡ bump) items → map numbered_of now ≡ map numbered_of items →
    map (met_of bump found) (map numbered_of now) ≡ map (meeting_at found) items
of_same_numbers bump found items now all same =
    ap (map (met_of bump found)) same ∙ of_its_numbers bump found items all

-- a load of a meeting that found at least as much as an earlier one
pub told_above : (scene : BumpScene) (parties : List NumberedLog) (less met found : ℕ) → less ≤ met →
    AfterMeetingLoad scene parties met found → AfterMeetingLoad scene parties less found
told_above scene parties less met found up told = record {
  above = omega (arith, up, told.above);
  within = told.within;
  opened = told.opened;
  logs = told.logs;
  agree = told.agree;
  one_a_party = told.one_a_party;
  theirs = told.theirs;
  once = told.once;
}

-- a seat that stands for some parties stands for its own
pub stands_for : (scene : BumpScene) {met : ℕ} {parties : List NumberedLog} (me : Me ℕ SeatView) →
    me ≡ (standing_for (sight scene met) parties, []) → me ≡ (standing_for (sight scene (met_by me.0)) me.0.parties, [])
stands_for scene me is = is ∙ sym (ap (λ (m : Me ℕ SeatView). (standing_for (sight scene (met_by m.0)) m.0.parties, [])) is)

-- the seat after a load for a meeting
pub after_load : (at : BumpScene) {met : ℕ} {parties : List NumberedLog} (found : ℕ) (old new : Me ℕ SeatView) →
    old ≡ (standing_for (sight at met) parties, []) → new ≡ (meeting_of found old.0, []) →
    new ≡ (standing_for (sight at found) parties, [])
after_load at found old new is load =
    load ∙ ap (λ (m : Me ℕ SeatView). (standing_for (sight (scene_of m.0) found) m.0.parties, [])) is
