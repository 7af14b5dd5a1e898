-- A flush, bucket by bucket.
use Rattle.bb_memory_file.proofs.FileEvents.{gets_on}
use Rattle.bb_memory_file.proofs.FileWalks.{walk_nowhere, walk_on}
use Rattle.bb_memory_file.specs.FileCalls.{Gets, Makes}
use Rattle.bb_memory_file.specs.FileCode.{FileLog, StoreFlag}
use Rattle.bb_memory_file.specs.FileNames.{Deallocate, Free, Outside}
use Rattle.bb_memory_file.specs.FileNotes.{Flushes, FreesLast, JoinedParty, Unheld, hint_without, notes_without}
use Rattle.bb_memory_pool_machine.specs.PoolHints.{hint_after}
use Rattle.bb_memory_pool_machine.specs.declared.steps.pool.PoolOutcome.TheVariants as outcome
use Rattle.std.proofs.Common.{List, [], ap, append-nil, append_assoc, arith, false, length, map, refl, subst, sym, true, ℕ, ◌++◌, ◌<◌, ◌∙◌, ◌∷◌, ◌≡◌, ◌≤◌}
use Rattle.std.proofs.lemmas.Bool.{le-ltb, lt-ltb}
use Rattle.std.proofs.lemmas.List.{length_push}
use Rattle.std.specs.Prelude.{if◌then◌else◌, nat_lt, slice_set}

module _ {W : Type 0} (log : W → FileLog) (old : JoinedParty W) where
  -- the party has given back the buckets `gone`, which it cached last
  pub record Flushed (gone : List ℕ) (new : JoinedParty W) : Type 0 where
    pub gets : Gets (log old.words) (map (λ bucket. StoreFlag bucket Free) gone) (log new.words)
    pub makes : (process : ℕ) → Makes process (log old.words)
        (map (λ bucket. Deallocate process (log old.words).party bucket) gone) (log new.words)
    pub parts : old.cached ≡ new.cached ++ gone
    pub party : new ≡ record old {
      words = new.words;
      notes = notes_without old.notes gone;
      hint = hint_without old.hint gone;
      cached = new.cached;
    }

  pub flushed_none : Flushed [] old
  flushed_none = record {
    gets = refl;
    makes = λ process. walk_nowhere process (log old.words) Outside;
    parts = sym (append-nil old.cached);
    party = refl;
  }

  -- one more bucket is given back
  pub flushed_on : (gone : List ℕ) (middle new : JoinedParty W) → Flushed gone middle → (frees : FreesLast log middle true new) →
      Flushed (frees.1 ∷ gone) new
  flushed_on gone middle new before (rest, last, is, gives, party) =
      let mine : (log middle.words).party ≡ (log old.words).party = ap (λ (l : FileLog). l.party) before.gets in
      record {
        gets = gets_on (log old.words) (log middle.words) (log new.words) (map (λ bucket. StoreFlag bucket Free) gone)
            (StoreFlag last Free ∷ []) before.gets (gives 0).1;
        makes = λ process. walk_on process (log old.words) (log middle.words) (log new.words) Outside Outside Outside
            (map (λ bucket. Deallocate process (log old.words).party bucket) gone)
            (Deallocate process (log old.words).party last ∷ []) (before.makes process)
            (subst (λ (p : ℕ). Makes process (log middle.words) (Deallocate process p last ∷ []) (log new.words)) mine
            (gives process).0);
        parts = before.parts ∙ ap (λ (xs : List ℕ). xs ++ gone) is ∙ append_assoc rest (last ∷ []) gone
            ∙ ap (λ (xs : List ℕ). xs ++ last ∷ gone) (sym (ap (λ (p : JoinedParty W). p.cached) party));
        party = party ∙ (λ i. record {
          words = new.words;
          notes = slice_set ((before.party i).notes) last Unheld;
          hint = hint_after ((before.party i).hint) (outcome.Gives last);
          cached = sym (ap (λ (p : JoinedParty W). p.cached) party) i;
          most = (before.party i).most;
          depth = (before.party i).depth;
          ends = (before.party i).ends;
        });
      }

  -- the party may cache another number of buckets afterwards
  pub flushed_with : (middle later : JoinedParty W) (most : ℕ) → Flushes log old middle → later ≡ record middle { most = most } →
      Flushes log (record old { most = most }) later
  flushed_with middle later most flushes is =
      subst (λ (p : JoinedParty W). Flushes log (record old { most = most }) p) (sym is) record {
        gets = flushes.gets;
        makes = flushes.makes;
        party = λ i. record {
          words = middle.words;
          notes = (flushes.party i).notes;
          hint = (flushes.party i).hint;
          cached = (flushes.party i).cached;
          most = most;
          depth = (flushes.party i).depth;
          ends = (flushes.party i).ends;
        };
      }

  -- all are given back
  pub flushed_all : (gone : List ℕ) (middle new : JoinedParty W) → Flushed gone middle → FreesLast log middle false new →
      Flushes log old new
  flushed_all gone middle new before (none, same) =
      let whole : old.cached ≡ gone = before.parts ∙ ap (λ (xs : List ℕ). xs ++ gone) none in
      let all : Flushed old.cached middle = subst (λ (xs : List ℕ). Flushed xs middle) (sym whole) before in
      subst (λ (p : JoinedParty W). Flushes log old p) (sym same) record {
        gets = all.gets;
        makes = all.makes;
        party = all.party ∙ ap (λ (xs : List ℕ). record old {
          words = middle.words;
          notes = notes_without old.notes old.cached;
          hint = hint_without old.hint old.cached;
          cached = xs;
        }) none;
      }

-- fewer buckets are cached after one was given back
pub fewer : (W : Type 0) (log : W → FileLog) (old new : JoinedParty W) → FreesLast log old true new →
    length new.cached < length old.cached
fewer W log old new (rest, last, is, gives, party) =
    let long = length_push rest last in
    omega (arith, long, ap length is, ap (λ (p : JoinedParty W). length p.cached) party)

-- the less of two numbers
pub less_first : (most buckets all least : ℕ) → buckets ≡ all → most < buckets → least ≡ most →
    least ≡ (if nat_lt most all then most else all)
less_first most buckets all least same below is =
    let test : nat_lt most all ≡ true = lt-ltb most all (subst (λ (n : ℕ). most < n) same below) in rw test is

pub less_second : (most buckets all least : ℕ) → buckets ≡ all → buckets ≤ most → least ≡ buckets →
    least ≡ (if nat_lt most all then most else all)
less_second most buckets all least same past is =
    let test : nat_lt most all ≡ false = le-ltb most all (subst (λ (n : ℕ). n ≤ most) same past) in rw test (is ∙ same)
