-- A party's log, at its beginning and its end: one more entry of the party makes its log longer by
-- that entry, and no other log.
use Rattle.bb_memory_lists.proofs.SliceGets.{slice_get-same, slice_get-set_apart, slice_get-set_at}
use Rattle.std.proofs.Common.{Bool, List, Some, [], append-nil, arith, false, refl, true, ℕ, ◌++◌, ◌∷◌, ◌≡◌, ◌≢◌}
use Rattle.std.proofs.lemmas.Bool.{cases_eq}
use Rattle.std.proofs.lemmas.Grind.{common_steps}
use Rattle.std.proofs.lemmas.Option.{same_Some}
use Rattle.std.specs.Prelude.{filter, fold, if◌then◌else◌, slice_get, slice_set}

-- a fold over a party's own entries, with one more entry before them that is the party's or not
pub fold-own : {A B : Type 0} (f : B → A → B) (own : Bool) (now : B) (entry : A) (log : List A) →
    fold f (if own then f now entry else now) log ≡ fold f now (if own then entry ∷ log else log)
fold-own f true now entry log = refl
fold-own f false now entry log = refl

-- Logs are the parties' own entries of a history, which a test by a party selects.
pub logs-push : {E : Type 0} (own : ℕ → E → Bool) (logs : List (List E)) (party : ℕ) (log history : List E) (entry : E) →
    slice_get logs party ≡ Some log → own party entry ≡ true → ((other : ℕ) → party ≢ other → own other entry ≡ false) →
    ((other : ℕ) (found : List E) → slice_get logs other ≡ Some found → filter (own other) history ≡ found) →
    (other : ℕ) (found : List E) → slice_get (slice_set logs party (log ++ entry ∷ [])) other ≡ Some found →
    filter (own other) (history ++ entry ∷ []) ≡ found
logs-push {E = E} own logs party log history entry at mine others each other found there =
    grind (arith, common_steps, cases_eq, slice_get-same, slice_get-set_at, same_Some, slice_get-set_apart, append-nil)
