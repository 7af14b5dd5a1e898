-- A search for a free bucket.
use Rattle.bb_memory_file.proofs.FileEvents.{gets_on, has_none}
use Rattle.bb_memory_file.proofs.FileLooks.{moves_none_on}
use Rattle.bb_memory_file.proofs.FileSteps.{allocates}
use Rattle.bb_memory_file.proofs.FileWalks.{walk_look, walk_nowhere, walk_on, walk_step}
use Rattle.bb_memory_file.specs.FileCalls.{AllocateSays, AllocatesFrom, BeginsSearch, Gets, IsGained, Makes, MovesNone, SearchSays, TakesOne, has_some, misses_before, misses_from, moves_message}
use Rattle.bb_memory_file.specs.FileCode.{Event, ExchangeFlag, FileLog, MissFlag, known_of, told}
use Rattle.bb_memory_file.specs.FileNames.{Allocate, Free, HeldBy, Outside}
use Rattle.bb_memory_pool_machine.proofs.PoolSteps.{test_same}
use Rattle.std.proofs.Common.{Bool, List, None, Option, Some, [], ap, arith, false, refl, subst, suc, sym, true, zero, ℕ, ◌++◌, ◌+◌, ◌-◌, ◌<◌, ◌∙◌, ◌∷◌, ◌≡◌, ◌≤◌}
use Rattle.std.proofs.lemmas.Bool.{le-ltb, lt-ltb, ne_eqb}
use Rattle.std.specs.Prelude.{if◌then◌else◌, nat_lt}

-- THE EVENTS OF A SEARCH

-- those of one more bucket
misses_on : (from bucket : ℕ) → from ≤ bucket →
    misses_from from (bucket + 1 - from) ≡ MissFlag bucket Free ∷ misses_from from (bucket - from)
misses_on from bucket order =
    let more : bucket + 1 - from ≡ suc (bucket - from) = omega (arith, order) in
    let here : from + (bucket - from) ≡ bucket = omega (arith, order) in
    ap (λ n. misses_from from n) more ∙ ap (λ b. MissFlag b Free ∷ misses_from from (bucket - from)) here

misses_more : (from count more : ℕ) → misses_from (from + count) more ++ misses_from from count ≡ misses_from from (more + count)
misses_more from count zero = ap (λ n. misses_from from n) (omega arith)
misses_more from count (suc more) =
    let here : from + count + more ≡ from + (more + count) = omega arith in
    let all : suc (more + count) ≡ suc more + count = omega arith in
    ap (λ b. MissFlag b Free ∷ misses_from (from + count) more ++ misses_from from count) here
    ∙ ap (λ events. MissFlag (from + (more + count)) Free ∷ events) (misses_more from count more)
    ∙ ap (λ n. misses_from from n) all

-- those of two parts of a search
misses_join : (from bucket to : ℕ) → from ≤ bucket → bucket ≤ to →
    misses_from bucket (to - bucket) ++ misses_from from (bucket - from) ≡ misses_from from (to - from)
misses_join from bucket to low high =
    let here : from + (bucket - from) ≡ bucket = omega (arith, low) in
    let all : (to - bucket) + (bucket - from) ≡ to - from = omega (arith, low, high) in
    ap (λ b. misses_from b (to - bucket) ++ misses_from from (bucket - from)) (sym here)
    ∙ misses_more from (bucket - from) (to - bucket) ∙ ap (λ n. misses_from from n) all

-- the same events by another name
gets_as : (old new : FileLog) (one other : List Event) → one ≡ other → Gets old one new → Gets old other new
gets_as old new one other same gets = gets ∙ ap (λ (events : List Event). record old { events = events ++ old.events }) same

-- none of the buckets before this one was free
pub record Searched (old : FileLog) (from bucket : ℕ) (log : FileLog) : Type 0 where
  pub gets : Gets old (misses_from from (bucket - from)) log
  pub makes : (process : ℕ) → Makes process old [] log
  pub order : from ≤ bucket
  pub same : (other : ℕ) → known_of log other ≡ known_of old other

pub searched_none : (old : FileLog) (from : ℕ) → Searched old from from old
searched_none old from =
    let none : 0 ≡ from - from = omega arith in record {
      gets = ap (λ n. record old { events = misses_from from n ++ old.events }) none;
      makes = λ process. walk_nowhere process old Outside;
      order = omega arith;
      same = λ other. refl;
    }

pub searched_on : (old log new : FileLog) (from bucket : ℕ) → Searched old from bucket log → new ≡ told log (MissFlag bucket Free) →
    Searched old from (bucket + 1) new
searched_on old log new from bucket before is = record {
  gets = gets_as old new (MissFlag bucket Free ∷ misses_from from (bucket - from)) (misses_from from (bucket + 1 - from))
      (sym (misses_on from bucket before.order)) (is ∙ ap (λ l. told l (MissFlag bucket Free)) before.gets);
  makes = λ process. walk_on process old log new Outside Outside Outside [] [] (before.makes process)
      (walk_look process log new Outside (MissFlag bucket Free) tt is);
  order = let o = before.order in omega (arith, o);
  same = λ other. ap (λ l. known_of l other) is ∙ before.same other;
}

pub searched_all : (old new : FileLog) (from to bucket : ℕ) → Searched old from bucket new → bucket ≤ to → to ≤ bucket →
    SearchSays old from to None new
searched_all old new from to bucket search most past =
    let here : bucket ≡ to = omega (arith, most, past) in (
      subst (λ (b : ℕ). Gets old (misses_from from (b - from)) new) here search.gets,
      search.makes,
      search.same,
    )

pub search_ends : (old log new : FileLog) (from to bucket party : ℕ) → Searched old from bucket log → bucket < to →
    party ≡ old.party → new ≡ told log (ExchangeFlag bucket Free (HeldBy party)) → SearchSays old from to (Some bucket) new
search_ends old log new from to bucket party search below mine is =
    let same : log.party ≡ old.party = ap (λ (l : FileLog). l.party) search.gets in
    let is' : new ≡ told log (ExchangeFlag bucket Free (HeldBy log.party)) =
    is ∙ ap (λ p. told log (ExchangeFlag bucket Free (HeldBy p))) (mine ∙ sym same) in (
      is ∙ ap (λ p. told log (ExchangeFlag bucket Free (HeldBy p))) mine
          ∙ ap (λ (l : FileLog). told l (ExchangeFlag bucket Free (HeldBy old.party))) search.gets,
      (λ process. subst (λ (p : ℕ). Makes process old (Allocate process p bucket ∷ []) new) same
          (walk_on process old log new Outside Outside Outside [] (Allocate process log.party bucket ∷ []) (search.makes process)
          (walk_step process log new Outside (ExchangeFlag bucket Free (HeldBy log.party))
          (Allocate process log.party bucket) Outside refl
          (allocates log process bucket) is'))),
      search.order,
      below,
      subst (λ (l : FileLog). IsGained old bucket l) (sym is') (
        rw (test_same bucket bucket refl, test_same log.party log.party refl) refl,
        (λ other apart. rw (ne_eqb bucket other (λ e. apart (sym e))) (search.same other)),
      ),
    )

-- THE WHOLE SEARCH

module _ (old new : FileLog) (hint first buckets : ℕ) (all : buckets ≡ old.scene.buckets)
    (start : first ≡ (if nat_lt hint old.scene.buckets then hint else 0)) where
  begins_there : (answer : Option ℕ) → AllocatesFrom old first answer new → AllocateSays old hint answer new
  begins_there answer says = subst (λ (f : ℕ). AllocatesFrom old f answer new) start says

  -- what a search found before the end
  before_the_end : (bucket : ℕ) → first ≤ bucket → misses_from first (bucket - first) ≡ misses_before old.scene.buckets first bucket
  before_the_end bucket order = rw (le-ltb bucket first order) refl

  -- the search found a bucket before the end
  pub found_first : (bucket : ℕ) → SearchSays old first buckets (Some bucket) new → AllocateSays old hint (Some bucket) new
  found_first bucket says = begins_there (Some bucket) (
    gets_as old new _ _ (ap (λ (events : List Event). ExchangeFlag bucket Free (HeldBy old.party) ∷ events)
        (before_the_end bucket says.2)) says.0,
    says.1,
    subst (λ (n : ℕ). bucket < n) all says.3,
    says.4,
  )

  module _ (middle : FileLog) (one : SearchSays old first buckets None middle) where
    middle_party : middle.party ≡ old.party
    middle_party = ap (λ (l : FileLog). l.party) one.0

    first_part : Gets old (misses_from first (old.scene.buckets - first)) middle
    first_part = subst (λ (n : ℕ). Gets old (misses_from first (n - first)) middle) all one.0

    pub found_none : SearchSays middle 0 first None new → AllocateSays old hint None new
    found_none two = begins_there None (
      gets_on old middle new (misses_from first (old.scene.buckets - first)) (misses_from 0 first) first_part
          (subst (λ (n : ℕ). Gets middle (misses_from 0 n) new) (omega arith) two.0),
      (λ process. walk_on process old middle new Outside Outside Outside [] [] (one.1 process) (two.1 process)),
      (λ other. two.2 other ∙ one.2 other),
    )

    around : (bucket : ℕ) → bucket < first → misses_from 0 bucket ++ misses_from first (old.scene.buckets - first)
        ≡ misses_before old.scene.buckets first bucket
    around bucket less = rw (lt-ltb bucket first less) refl

    pub found_second : (bucket : ℕ) → first ≤ buckets → SearchSays middle 0 first (Some bucket) new →
        AllocateSays old hint (Some bucket) new
    found_second bucket order two =
        let less = two.3 in begins_there (Some bucket) (
          gets_as old new _ _ (ap (λ (events : List Event). ExchangeFlag bucket Free (HeldBy old.party) ∷ events)
              (around bucket two.3))
              (gets_on old middle new (misses_from first (old.scene.buckets - first))
              (ExchangeFlag bucket Free (HeldBy old.party) ∷ misses_from 0 bucket) first_part
              (subst (λ (p : ℕ). Gets middle (ExchangeFlag bucket Free (HeldBy p) ∷ misses_from 0 bucket) new) middle_party
              (subst (λ (n : ℕ). Gets middle (ExchangeFlag bucket Free (HeldBy middle.party) ∷ misses_from 0 n) new)
              (omega arith) two.0))),
          (λ process. subst (λ (p : ℕ). Makes process old (Allocate process p bucket ∷ []) new) middle_party
              (walk_on process old middle new Outside Outside Outside [] (Allocate process middle.party bucket ∷ []) (one.1 process)
              (two.1 process))),
          subst (λ (n : ℕ). bucket < n) all (omega (arith, less, order)),
          (two.4.0, (λ other apart. two.4.1 other apart ∙ one.2 other)),
        )

    pub found_by : (answer : Option ℕ) → first ≤ buckets → SearchSays middle 0 first answer new → AllocateSays old hint answer new
    found_by None order two = found_none two
    found_by (Some bucket) order two = found_second bucket order two

-- ONE BUCKET IS TAKEN

-- a search moves no message
misses_move_none : (from count : ℕ) → has_some moves_message (misses_from from count) ≡ false
misses_move_none from zero = refl
misses_move_none from (suc count) = misses_move_none from count

before_move_none : (buckets first bucket : ℕ) → has_some moves_message (misses_before buckets first bucket) ≡ false
before_move_none buckets first bucket = by_test (nat_lt bucket first)
  where
    by_test : (is : Bool) → has_some moves_message (if is then misses_from 0 bucket ++ misses_from first (buckets - first)
        else misses_from first (bucket - first)) ≡ false
    by_test true = has_none moves_message (misses_from first (buckets - first)) (misses_from 0 bucket)
        (misses_move_none first (buckets - first)) (misses_move_none 0 bucket)
    by_test false = misses_move_none first (bucket - first)

search_moves_none : (old new : FileLog) (from to : ℕ) (answer : Option ℕ) → SearchSays old from to answer new → MovesNone old new
search_moves_none old new from to None says = (misses_from from (to - from), says.0, misses_move_none from (to - from))
search_moves_none old new from to (Some bucket) says = (
  ExchangeFlag bucket Free (HeldBy old.party) ∷ misses_from from (bucket - from),
  says.0,
  misses_move_none from (bucket - from),
)

allocate_moves_none : (old new : FileLog) (first : ℕ) (answer : Option ℕ) → AllocatesFrom old first answer new → MovesNone old new
allocate_moves_none old new first None says = (
  misses_from 0 first ++ misses_from first (old.scene.buckets - first),
  says.0,
  has_none moves_message (misses_from first (old.scene.buckets - first)) (misses_from 0 first)
      (misses_move_none first (old.scene.buckets - first)) (misses_move_none 0 first),
)
allocate_moves_none old new first (Some bucket) says = (
  ExchangeFlag bucket Free (HeldBy old.party) ∷ misses_before old.scene.buckets first bucket,
  says.0,
  before_move_none old.scene.buckets first bucket,
)

pub search_takes : (old new : FileLog) (from to : ℕ) (answer : Option ℕ) → to ≤ old.scene.buckets →
    SearchSays old from to answer new → TakesOne old answer new
search_takes old new from to None most says = (says.1, says.2, search_moves_none old new from to None says)
search_takes old new from to (Some bucket) most says =
    let less = says.3 in
    (says.1, (omega (arith, less, most)), says.4, search_moves_none old new from to (Some bucket) says)

-- after a search that found none
pub takes_on : (old middle new : FileLog) (from to : ℕ) (answer : Option ℕ) → SearchSays old from to None middle →
    TakesOne middle answer new → TakesOne old answer new
takes_on old middle new from to None one two = (
  (λ process. walk_on process old middle new Outside Outside Outside [] [] (one.1 process) (two.0 process)),
  (λ other. two.1 other ∙ one.2 other),
  moves_none_on old middle new (search_moves_none old middle from to None one) two.2,
)
takes_on old middle new from to (Some bucket) one two = (
  (λ process. subst (λ (p : ℕ). Makes process old (Allocate process p bucket ∷ []) new) (ap (λ (l : FileLog). l.party) one.0)
      (walk_on process old middle new Outside Outside Outside [] (Allocate process middle.party bucket ∷ []) (one.1 process)
      (two.0 process))),
  subst (λ (n : ℕ). bucket < n) (ap (λ (l : FileLog). l.scene.buckets) one.0) two.1,
  (two.2.0, (λ other apart. two.2.1 other apart ∙ one.2 other)),
  moves_none_on old middle new (search_moves_none old middle from to None one) two.3,
)

pub allocate_takes : (old new : FileLog) (hint : ℕ) (answer : Option ℕ) → AllocateSays old hint answer new → TakesOne old answer new
allocate_takes old new hint None says = (says.1, says.2, allocate_moves_none old new _ None says)
allocate_takes old new hint (Some bucket) says = (
  says.1,
  says.2,
  says.3,
  allocate_moves_none old new _ (Some bucket) says,
)

-- A SEARCH IN TWO PARTS

-- a search goes on behind the buckets of which none was free
pub search_goes_on : (old log new : FileLog) (from bucket to : ℕ) (answer : Option ℕ) → bucket ≤ to → Searched old from bucket log →
    SearchSays log bucket to answer new → SearchSays old from to answer new
search_goes_on old log new from bucket to answer most before says = by_answer answer says
  where
    mine : log.party ≡ old.party
    mine = ap (λ (l : FileLog). l.party) before.gets

    by_answer : (found : Option ℕ) → SearchSays log bucket to found new → SearchSays old from to found new
    by_answer None two = (
      gets_as old new _ _ (misses_join from bucket to before.order most)
          (gets_on old log new (misses_from from (bucket - from)) (misses_from bucket (to - bucket)) before.gets two.0),
      (λ process. walk_on process old log new Outside Outside Outside [] [] (before.makes process) (two.1 process)),
      (λ other. two.2 other ∙ before.same other),
    )
    by_answer (Some found) two = (
      gets_as old new _ _ (ap (λ (events : List Event). ExchangeFlag found Free (HeldBy old.party) ∷ events)
          (misses_join from bucket found before.order two.2))
          (gets_on old log new (misses_from from (bucket - from))
          (ExchangeFlag found Free (HeldBy old.party) ∷ misses_from bucket (found - bucket)) before.gets
          (subst (λ (p : ℕ). Gets log (ExchangeFlag found Free (HeldBy p) ∷ misses_from bucket (found - bucket)) new) mine two.0)),
      (λ process. subst (λ (p : ℕ). Makes process old (Allocate process p found ∷ []) new) mine
          (walk_on process old log new Outside Outside Outside [] (Allocate process log.party found ∷ []) (before.makes process)
          (two.1 process))),
      (let low = before.order in let high = two.2 in omega (arith, low, high)),
      two.3,
      (two.4.0, (λ other apart. two.4.1 other apart ∙ before.same other)),
    )

-- a search that begins in the file
module _ (old new : FileLog) (hint buckets : ℕ) (all : buckets ≡ old.scene.buckets) (below : hint < buckets) where
  inside : nat_lt hint old.scene.buckets ≡ true
  inside = lt-ltb hint old.scene.buckets (subst (λ (n : ℕ). hint < n) all below)

  starts : hint ≡ (if nat_lt hint old.scene.buckets then hint else 0)
  starts = rw inside refl

  -- its first bucket was free
  pub first_taken : (party : ℕ) → party ≡ old.party → new ≡ told old (ExchangeFlag hint Free (HeldBy party)) →
      AllocateSays old hint (Some hint) new
  first_taken party mine is = found_first old new hint hint buckets all starts hint
      (search_ends old old new hint buckets hint party (searched_none old hint) below mine is)

  -- its first bucket wasn't free
  pub first_missed : new ≡ told old (MissFlag hint Free) → BeginsSearch old hint new
  first_missed is = rw inside is

  pub first_searched : BeginsSearch old hint new → Searched old hint (hint + 1) new
  first_searched begun = searched_on old old new hint hint (searched_none old hint) (rw inside at begun)

  -- its later part
  pub found_behind : (last : FileLog) (bucket : ℕ) → BeginsSearch old hint new →
      SearchSays new (hint + 1) buckets (Some bucket) last →
      AllocateSays old hint (Some bucket) last
  found_behind last bucket begun says = found_first old last hint hint buckets all starts bucket
      (search_goes_on old new last hint (hint + 1) buckets (Some bucket) (omega (arith, below)) (first_searched begun) says)

  pub found_before : (middle last : FileLog) (answer : Option ℕ) → BeginsSearch old hint new →
      SearchSays new (hint + 1) buckets None middle → SearchSays middle 0 hint answer last → AllocateSays old hint answer last
  found_before middle last answer begun one two = found_by old last hint hint buckets all starts middle
      (search_goes_on old new middle hint (hint + 1) buckets None (omega (arith, below)) (first_searched begun) one) answer
      (omega (arith, below)) two

-- a search that begins behind the last bucket
module _ (old new : FileLog) (hint buckets : ℕ) (all : buckets ≡ old.scene.buckets) (past : buckets ≤ hint) where
  outside : nat_lt hint old.scene.buckets ≡ false
  outside = le-ltb hint old.scene.buckets (subst (λ (n : ℕ). n ≤ hint) all past)

  none_tried : BeginsSearch old hint new → new ≡ old
  none_tried begun = rw outside at begun

  starts_zero : 0 ≡ (if nat_lt hint old.scene.buckets then hint else 0)
  starts_zero = rw outside refl

  pub found_anywhere : (last : FileLog) (answer : Option ℕ) → BeginsSearch old hint new → SearchSays new 0 buckets answer last →
      AllocateSays old hint answer last
  found_anywhere last answer begun says =
      by_answer answer (subst (λ (l : FileLog). SearchSays l 0 buckets answer last) (none_tried begun) says)
    where
      by_answer : (found : Option ℕ) → SearchSays old 0 buckets found last → AllocateSays old hint found last
      by_answer None one = found_none old last hint 0 buckets all starts_zero last one
          (searched_all last last 0 0 0 (searched_none last 0) (omega arith) (omega arith))
      by_answer (Some bucket) one = found_first old last hint 0 buckets all starts_zero bucket one
