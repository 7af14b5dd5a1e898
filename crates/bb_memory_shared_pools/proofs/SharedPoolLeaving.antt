-- A party that leaves gives back each bucket that it holds, one after another, and holds nothing then.
use Rattle.bb_memory_pool_machine.proofs.PoolHolders.{held_through}
use Rattle.bb_memory_pool_machine.proofs.PoolSteps.{test_apart, test_same}
use Rattle.bb_memory_pool_machine.specs.PoolLogs.{IsHeldAfter, PoolLog}
use Rattle.bb_memory_shared_pools.proofs.SharedPoolLaws.{held_below}
use Rattle.bb_memory_shared_pools.proofs.SharedPoolTries.{held-append}
use Rattle.bb_memory_shared_pools.specs.SharedPool.{IsParty, PoolParty, return_entry, with_entries}
use Rattle.bb_memory_shared_pools.specs.SharedPoolLeaving.{GivesAllBack, holds_bucket, return_of, returns_of}
use Rattle.std.proofs.Common.{Bool, [], ap, append-nil, append_assoc, arith, false, inl, inr, refl, suc, sym, true, zero, ℕ, ◌++◌, ◌+◌, ◌<◌, ◌∙◌, ◌≡◌, ◌≤◌}
use Rattle.std.proofs.lemmas.Bool.{cases_Bool, cases_eq, cases_lt, false≢true}
use Rattle.std.specs.Prelude.{if◌then◌else◌, ◌==◌}

-- ONE RETURN

-- whether a bucket is held after the return of one, if that one is held
through-return : (party number bucket : ℕ) (is held : Bool) →
    held_through bucket held (if is then return_entry party number else [])
    ≡ (if is then (if number == bucket then false else held) else held)
through-return party number bucket true held = refl
through-return party number bucket false held = refl

other : (is same held : Bool) → same ≡ false → (if is then (if same then false else held) else held) ≡ held
other true same held apart = ap (λ (b : Bool). if b then false else held) apart
other false same held apart = refl

this : (is same : Bool) → same ≡ true → (if is then (if same then false else is) else is) ≡ false
this true same at = ap (λ (b : Bool). if b then false else true) at
this false same at = refl

neither : (is same : Bool) → (if is then (if same then false else false) else false) ≡ false
neither true true = refl
neither true false = refl
neither false same = refl

-- ALL OF SO MANY

-- one more return, of a bucket that is held after the others or not
one-more : (party : PoolParty) (number bucket : ℕ) (held before : Bool) →
    held_through bucket held (returns_of party number) ≡ before →
    held_through bucket held (returns_of party (suc number))
    ≡ (if holds_bucket party number then (if number == bucket then false else before) else before)
one-more party number bucket held before is = held-append bucket held (returns_of party number) (return_of party number)
    ∙ ap (λ (b : Bool). held_through bucket b (return_of party number)) is
    ∙ through-return party.number number bucket (holds_bucket party number) before

-- a bucket that isn't among them is as before
pub past-returns : (party : PoolParty) (number bucket : ℕ) (held : Bool) → number ≤ bucket →
    held_through bucket held (returns_of party number) ≡ held
past-returns party zero bucket held past = refl
past-returns party (suc number) bucket held past =
    one-more party number bucket held held (past-returns party number bucket held (omega arith))
    ∙ other (holds_bucket party number) (number == bucket) held (test_apart number bucket (λ same. omega arith))

-- one among them isn't held
pub among-returns : (party : PoolParty) (number bucket : ℕ) → bucket < number →
    held_through bucket (holds_bucket party bucket) (returns_of party number) ≡ false
among-returns party zero bucket below = absurd (omega arith)
among-returns party (suc number) bucket below = elim (cases_eq number bucket) [
  | inl same ↦
      one-more party number bucket (holds_bucket party bucket) (holds_bucket party bucket)
      (past-returns party number bucket (holds_bucket party bucket) (omega arith))
      ∙ (let is : holds_bucket party number ≡ holds_bucket party bucket = ap (holds_bucket party) same in
      ap (λ (b : Bool). if holds_bucket party number then (if number == bucket then false else b) else b) (sym is)
      ∙ this (holds_bucket party number) (number == bucket) (test_same number bucket same))
  | inr apart ↦
      one-more party number bucket (holds_bucket party bucket) false
      (among-returns party number bucket (omega arith))
      ∙ neither (holds_bucket party number) (number == bucket)
]

-- THE PARTY

-- a bucket that isn't held adds nothing
pub none-returned : (party : PoolParty) (number : ℕ) → ¬ IsHeldAfter party.log number →
    party ≡ with_entries party (return_of party number)
none-returned party number not_held =
    let free : holds_bucket party number ≡ false = elim (cases_Bool (holds_bucket party number)) [
      | inl held ↦ absurd (not_held held)
      | inr free ↦ free
    ] in
    ap (λ (log : PoolLog). record { allocator = party.allocator; number = party.number; log = log }) (
    sym (append-nil party.log)
    ∙ ap (λ (b : Bool). party.log ++ (if b then return_entry party.number number else [])) (sym free))

-- the next bucket is held after the returns of those before it exactly if it was held before these returns
pub next-held : (party : PoolParty) (number : ℕ) →
    holds_bucket (with_entries party (returns_of party number)) number ≡ holds_bucket party number
next-held party number = held-append number false party.log (returns_of party number)
    ∙ past-returns party number number (holds_bucket party number) (omega arith)

pub next-returned : (party : PoolParty) (number : ℕ) → with_entries (with_entries party (returns_of party number))
    (return_of (with_entries party (returns_of party number)) number)
    ≡ with_entries party (returns_of party (number + 1))
next-returned party number =
    let next : suc number ≡ number + 1 = omega arith in
    ap (λ (b : Bool). with_entries (with_entries party (returns_of party number))
    (if b then return_entry party.number number else [])) (next-held party number)
    ∙ ap (λ (log : PoolLog). record { allocator = party.allocator; number = party.number; log = log })
    (append_assoc party.log (returns_of party number) (return_of party number))
    ∙ ap (λ (n : ℕ). with_entries party (returns_of party n)) next

-- with all returned, nothing is held
pub all-returned : (party : PoolParty) → IsParty party →
    GivesAllBack party (with_entries party (returns_of party party.allocator.scene.geometry.buckets))
all-returned party is = let buckets = party.allocator.scene.geometry.buckets in record {
  returned = refl;
  idle = λ some.
      let bucket = some.0 in
      let after = sym (held-append bucket false party.log (returns_of party buckets)) ∙ some.1 in
      elim (cases_lt bucket buckets) [
        | inl below ↦ false≢true (sym (among-returns party buckets bucket below) ∙ after)
        | inr past ↦
            let held : holds_bucket party bucket ≡ true =
            sym (past-returns party buckets bucket (holds_bucket party bucket) past) ∙ after in
            omega (arith, held_below party is bucket held, past)
      ];
}
