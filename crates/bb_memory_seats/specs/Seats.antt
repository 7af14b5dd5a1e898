-- Seats of a table that threads share. Each seat has a view: the parties that it stands for, with
-- their logs. Each party is in exactly one view.
use Rattle.atomic_table.specs.Seated.{TableId}
use Rattle.atomic_table.specs.Table.{Me}
use Rattle.std.specs.Prelude.{Bool, List, Some, [], false, slice_get, suc, true, vec_capacity, vec_len, zero, ℕ, ◌++◌, ◌+◌, ◌<◌, ◌==◌, ◌∷◌, ◌≡◌, ◌≤◌}
use Rattle.std.specs.declared.vec.Vec.{Vec}
use lib.ListN.{get_elem?}
use mathlib.Core.Option.{some}

-- the number of a party, and its log
pub record Numbered (E : Type 0) : Type 0 where
  pub number : ℕ
  pub log : List E

-- the party of this number, with this log
abbrev pub numbered : {E : Type 0} → ℕ → List E → Numbered E
numbered number log = record { number = number; log = log }

-- The view of a seat: the parties that the seat stands for, with their logs, and the numbers of the
-- items that are detached at it, in transit from one party to another. A seat stands for more than
-- one party only while parties are made or meet.
pub record View (S E : Type 0) : Type 0 where
  pub scene : S
  pub parties : List (Numbered E)
  pub detached : List ℕ

-- the view with this scene, these parties and these detached items
abbrev pub seat_of : {S E : Type 0} → S → List (Numbered E) → List ℕ → View S E
seat_of scene parties detached = record { scene = scene; parties = parties; detached = detached }

-- the view of a seat that stands for these parties, with nothing detached
abbrev pub standing_for : {S E : Type 0} → S → List (Numbered E) → View S E
standing_for scene parties = seat_of scene parties []

-- the view of a seat that stands for one party, with nothing detached
abbrev pub alone : {S E : Type 0} → S → ℕ → List E → View S E
alone scene number log = standing_for scene (numbered number log ∷ [])

-- the view of a seat that stands for no party, with one detached item
abbrev pub carrying : {S E : Type 0} → S → ℕ → View S E
carrying scene item = seat_of scene [] (item ∷ [])

-- the view of a seat that stands for one party, with one detached item
abbrev pub alone_with : {S E : Type 0} → S → ℕ → List E → ℕ → View S E
alone_with scene number log item = seat_of scene (numbered number log ∷ []) (item ∷ [])

-- the number of the first of these parties, or 0 if there is none
abbrev pub first_number : {E : Type 0} → List (Numbered E) → ℕ
first_number [] = 0
first_number (party ∷ parties) = party.number

-- the log of the first of these parties, or an empty log if there is none
abbrev pub first_log : {E : Type 0} → List (Numbered E) → List E
first_log [] = []
first_log (party ∷ parties) = party.log

-- the number of the first party of a view
abbrev pub number_of : {S E : Type 0} → View S E → ℕ
number_of view = first_number view.parties

-- the log of the first party of a view
abbrev pub view_log : {S E : Type 0} → View S E → List E
view_log view = first_log view.parties

-- LOGS OF THE PARTIES

-- The number of each of these parties is below `made`, which is how many were made, and its log is
-- the one that `logs` has for that number.
abbrev pub HaveLogs : {E : Type 0} → ℕ → List (List E) → List (Numbered E) → Type 0
HaveLogs made logs [] = Unit {0}
HaveLogs made logs (party ∷ parties) =
    (party.number < made) × (slice_get logs party.number ≡ Some party.log) × HaveLogs made logs parties

-- 1 if the flag is set, otherwise 0
abbrev pub one_if : Bool → ℕ
one_if true = 1
one_if false = 0

-- the sum of a figure over a list
abbrev pub total : {V : Type 0} → (V → ℕ) → List V → ℕ
total figure [] = 0
total figure (x ∷ xs) = figure x + total figure xs

-- how often the party of this number is in a list
abbrev pub times_in : {E : Type 0} → ℕ → List (Numbered E) → ℕ
times_in number [] = 0
times_in number (party ∷ parties) = one_if (party.number == number) + times_in number parties

-- how often the party of this number is in all views together
abbrev pub times_in_views : {S E : Type 0} → ℕ → List (View S E) → ℕ
times_in_views number views = total (λ view. times_in number view.parties) views

-- Each party of a view has the log that `logs` has for its number, and each party that was made is
-- in exactly one view. The view of a party that was dropped stays.
pub record AreSeated {S E : Type 0} (made : ℕ) (logs : List (List E)) (views : List (View S E)) : Type 0 where
  pub known : (seat : ℕ) (view : View S E) → get_elem? views seat ≡ some view → HaveLogs made logs view.parties
  pub once : (number : ℕ) → number < made → times_in_views number views ≡ 1

-- how often an item is in a list
abbrev pub times_of : ℕ → List ℕ → ℕ
times_of item [] = 0
times_of item (other ∷ others) = one_if (other == item) + times_of item others

-- how often an item is detached in all views together
abbrev pub times_detached : {S E : Type 0} → ℕ → List (View S E) → ℕ
times_detached item views = total (λ view. times_of item view.detached) views

-- SPLITS AND JOINS

-- `count` parties without a step, numbered from `number` on
abbrev pub fresh_from : {E : Type 0} → ℕ → ℕ → List (Numbered E)
fresh_from number zero = []
fresh_from number (suc count) = numbered number [] ∷ fresh_from (number + 1) count

-- the list of only the first element, or the empty list if there is none
abbrev pub head_of : {A : Type 0} → List A → List A
head_of [] = []
head_of (first ∷ others) = first ∷ []

-- the list without its first element
abbrev pub tail_of : {A : Type 0} → List A → List A
tail_of [] = []
tail_of (first ∷ others) = others

-- the view of only the first party of a view
abbrev pub first_of : {S E : Type 0} → View S E → View S E
first_of view = standing_for view.scene (head_of view.parties)

-- the view of all parties of a view except the first
abbrev pub others_of : {S E : Type 0} → View S E → View S E
others_of view = standing_for view.scene (tail_of view.parties)

-- the view of the parties of two views, first those of `other`
abbrev pub both_of : {S E : Type 0} → View S E → View S E → View S E
both_of view other = standing_for view.scene (other.parties ++ view.parties)

-- the view of only the first detached item of a view, without a party
abbrev pub first_detached : {S E : Type 0} → View S E → View S E
first_detached view = seat_of view.scene [] (head_of view.detached)

-- the view without its first detached item, with all of its parties
abbrev pub others_detached : {S E : Type 0} → View S E → View S E
others_detached view = seat_of view.scene view.parties (tail_of view.detached)

-- the view of the parties and the detached items of two views, first those of `other`
abbrev pub both_detached : {S E : Type 0} → View S E → View S E → View S E
both_detached view other = seat_of view.scene (other.parties ++ view.parties) (other.detached ++ view.detached)

-- SEATS AT A TABLE

-- A seat is at the table `whose`, and `stands` says what the seat stands for.
pub record IsAt (whose here : TableId) (stands : Type 0) : Type 0 where
  pub table : here ≡ whose
  pub seat : stands

-- A seat that made a step is at the same table afterwards, and `tells` says what the step left.
pub record Stays (was is : TableId) (tells : Type 0) : Type 0 where
  pub table : is ≡ was
  pub step : tells

-- The first party of a seat gets a seat of its own at the same table, and the old seat stands for
-- the others.
pub record IsSplit {S E : Type 0} (was : TableId) (old : Me ℕ (View S E)) (is : TableId) (new : Me ℕ (View S E))
    (its : TableId) (own : Me ℕ (View S E)) : Type 0 where
  pub table : is ≡ was
  pub rest : new ≡ (others_of old.0, old.1)
  pub its_table : its ≡ was
  pub first : own ≡ (first_of old.0, [])

-- Both seats are at this table, and the other one, whose parties the first takes over, has no slot.
pub record MayMerge {V : Type 0} (whose here there : TableId) (other : Me ℕ V) : Type 0 where
  pub tables : (here ≡ whose) × (there ≡ whose)
  pub guest : other.1 ≡ []

-- the vector is empty, and has room for `count` elements
pub record HasRoomFor {T Z : Type 0} (count : ℕ) (all : Vec T Z) : Type 0 where
  pub empty : all.items ≡ []
  pub room : (vec_len all ≡ 0) × (count ≤ vec_capacity all)

-- the vector has these elements now, with the length and the capacity that it had
pub record HasNow {T Z : Type 0} (elements : List T) (old new : Vec T Z) : Type 0 where
  pub items : new.items ≡ elements
  pub len : vec_len new ≡ vec_len old
  pub capacity : vec_capacity new ≡ vec_capacity old
