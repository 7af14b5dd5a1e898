-- Parties of files: their calls leave as many buckets as there are, and take buckets that are there.
use Rattle.bb_memory_c.specs.Files.{HasBucketOf, HoldsPlace, JoinedFile}
use Rattle.bb_memory_file.proofs.FileCaches.{last_cached}
use Rattle.bb_memory_file.specs.FileCalls.{Makes}
use Rattle.bb_memory_file.specs.FileLog.{FileLog}
use Rattle.bb_memory_file.specs.FileNotes.{Allocates, AreCached, Attaches, Detaches, Finishes, GivesAllBack, IsDoneWith, JoinedParty, Posts, Receives, Returns, Searches, Sends, Takes}
use Rattle.bb_memory_file.specs.FileParties.{log_of}
use Rattle.bb_memory_file.specs.declared.joined.Refusal.{Refusal}
use Rattle.bb_memory_file.specs.declared.joined.Refusal.TheVariants.{NotABucket, NotDone, NotHeld}
use Rattle.bb_memory_file.specs.declared.joined.Taken.{Taken}
use Rattle.bb_memory_file.specs.declared.joined.Taken.TheVariants as taken
use Rattle.bb_memory_file.specs.declared.party.FileParty.{FileParty}
use Rattle.bb_memory_file.specs.declared.queues.Sending.{Sending}
use Rattle.bb_memory_file.specs.declared.queues.Sending.TheVariants.{Full, Overtaken, Sent}
use Rattle.bb_memory_file_machine.specs.declared.steps.file.FileStep.{FileStep}
use Rattle.bb_memory_traits.specs.Geometry.{IsPlaceOfBucket}
use Rattle.bb_memory_traits.specs.PoolObject.{PoolGeometry}
use Rattle.std.proofs.Common.{Bool, Err, List, None, Ok, Option, Result, Some, [], ap, arith, false, inl, inr, length, refl, true, ℕ, ◌++◌, ◌<◌, ◌∙◌, ◌∷◌, ◌≡◌, ◌⊎◌}
use Rattle.std.proofs.lemmas.Bool.{cases_lt}
use Rattle.std.proofs.lemmas.Option.{slice_get_within}
use Rattle.std.specs.Prelude.{IfNone}

abbrev Party : Type 0
Party = JoinedParty FileParty

-- how many buckets the party's file has
abbrev pub buckets_of : Party → ℕ
buckets_of party = (log_of party.words).scene.buckets

-- the file has as many buckets by one log as by the other
abbrev AreSame : FileLog → FileLog → Type 0
AreSame old new = new.scene.buckets ≡ old.scene.buckets

by_walk : {process : ℕ} {old new : FileLog} {taken : List FileStep} → Makes process old taken new → AreSame old new
by_walk makes = ap (λ s. s.buckets) makes.scene

-- a list is empty, or has a last number
ends : (xs : List ℕ) → (xs ≡ []) ⊎ ((before : List ℕ) × (last : ℕ) × (xs ≡ before ++ last ∷ []))
ends [] = inl refl
ends (x ∷ xs) = inr (elim (ends xs) [
  | inl none ↦ ([], x, ap (λ (ys : List ℕ). x ∷ ys) none)
  | inr more ↦ (x ∷ more.0, more.1, ap (λ (ys : List ℕ). x ∷ ys) more.2)
])

-- SAME BUCKETS

searched-same : (old : Party) (answer : Option ℕ) (new : Party) → Searches log_of old answer new → buckets_of new ≡ buckets_of old
searched-same old None new did = ap (λ (l : FileLog). l.scene.buckets) did.0.0
searched-same old (Some bucket) new did = ap (λ (l : FileLog). l.scene.buckets) did.0.0

pub allocated-same : (old : Party) (answer : Option ℕ) (new : Party) → Allocates log_of old answer new →
    buckets_of new ≡ buckets_of old
allocated-same old answer new did = elim (ends old.cached) [
  | inl none ↦ searched-same old answer new (did.searched none)
  | inr last ↦ ap (λ (p : Party). buckets_of p) (did.cached last.0 last.1 last.2).1
]

-- a taken bucket is one of the file's
pub allocated-below : (old : Party) (bucket : ℕ) (new : Party) → AreCached old.notes old.cached →
    length old.notes ≡ buckets_of old → Allocates log_of old (Some bucket) new → bucket < buckets_of old
allocated-below old bucket new are long did = elim (ends old.cached) [
  | inl none ↦ let said = (did.searched none).0 in said.2
  | inr last ↦
      let its : Some bucket ≡ Some last.1 = (did.cached last.0 last.1 last.2).0 in
      let noted = last_cached old.notes old.cached last.0 last.1 are last.2 in
      let same : bucket ≡ last.1 = cc in
      omega (arith, same, long, slice_get_within old.notes last.1 _ noted)
]

pub returned-same : (old : Party) (bucket : ℕ) (new : Party) → Returns log_of old bucket new → buckets_of new ≡ buckets_of old
returned-same old bucket new did = elim (cases_lt (length old.cached) old.most) [
  | inl fewer ↦ ap (λ (p : Party). buckets_of p) (did.cached fewer)
  | inr full ↦ ap (λ (l : FileLog). l.scene.buckets) ((did.returned full).0 0).1
]

pub detached-same : (old : Party) (bucket : ℕ) (told : Result (Option ℕ) Refusal) (new : Party) → Detaches log_of old bucket told new →
    buckets_of new ≡ buckets_of old
detached-same old bucket (Ok None) new did = ap (λ (l : FileLog). l.scene.buckets) (did.1.0 0).1
detached-same old bucket (Ok (Some slot)) new did = by_walk (did.1.1.0 0).0
detached-same old bucket (Err refusal) new did = elim did.1 [
  | inl other ↦ ap (λ (p : Party). buckets_of p) other.1
  | inr undone ↦ elim undone.1 [
    | inl entered ↦ by_walk (entered.0 0).0
    | inr nowhere ↦ by_walk (nowhere.0 0).0
  ]
]

pub attached-same : (old : Party) (bucket : ℕ) (told : Result Bool Refusal) (new : Party) → Attaches log_of old bucket told new →
    buckets_of new ≡ buckets_of old
attached-same old bucket (Ok true) new did = ap (λ (l : FileLog). l.scene.buckets) (did.1.0 0).2
attached-same old bucket (Ok false) new did = elim did [
  | inl tried ↦ by_walk (tried.1.0 0).0
  | inr held ↦ ap (λ (p : Party). buckets_of p) held.1
]
attached-same old bucket (Err refusal) new did = ap (λ (p : Party). buckets_of p) did.2

pub posted-same : (old : Party) (slot bucket len : ℕ) (told : Result Bool Refusal) (new : Party) →
    Posts log_of old slot bucket len told new → buckets_of new ≡ buckets_of old
posted-same old slot bucket len (Ok true) new did = by_walk (did.1.0 0).1
posted-same old slot bucket len (Ok false) new did = elim (did.1.0 0).1 [
  | inl full ↦ by_walk full.2
  | inr lost ↦ by_walk lost.1
]
posted-same old slot bucket len (Err refusal) new did = ap (λ (p : Party). buckets_of p) did.1

pub took-same : (old : Party) (slot size : ℕ) (told : Taken) (new : Party) → Takes log_of old slot size told new →
    buckets_of new ≡ buckets_of old
took-same old slot size taken.Empty new did = ap (λ (l : FileLog). l.scene.buckets) did.1
took-same old slot size taken.Wrong new did = elim did.2 [
  | inl past ↦ ap (λ (l : FileLog). l.scene.buckets) past.1
  | inr wrong ↦ by_walk (wrong.1.0 0).2
]
took-same old slot size taken.NotSent new did = elim did.2 [
  | inl held ↦ ap (λ (l : FileLog). l.scene.buckets) held.1
  | inr lost ↦ by_walk (lost.1.0 0).0
]
took-same old slot size (taken.Message bucket len) new did = by_walk (did.2.0 0).1

pub done-same : (old : Party) (slot : ℕ) (told : Bool) (new : Party) → IsDoneWith log_of old slot told new →
    buckets_of new ≡ buckets_of old
done-same old slot true new did = by_walk (did.3.0 0).0
done-same old slot false new did = ap (λ (l : FileLog). l.scene.buckets) did.1

pub sent-same : (old : Party) (queue bucket len : ℕ) (told : Result Sending Refusal) (new : Party) →
    Sends log_of old queue bucket len told new → buckets_of new ≡ buckets_of old
sent-same old queue bucket len (Ok (Sent slot)) new did = by_walk (did.1 0).9
sent-same old queue bucket len (Ok Full) new did = by_walk (did.1 0).10
sent-same old queue bucket len (Ok Overtaken) new did = by_walk (did.1 0).2
sent-same old queue bucket len (Err refusal) new did = ap (λ (p : Party). buckets_of p) did.1

pub received-same : (old : Party) (queue size : ℕ) (told : Taken) (new : Party) → Receives log_of old queue size told new →
    buckets_of new ≡ buckets_of old
received-same old queue size taken.Empty new did = by_walk (did.0 0).5
received-same old queue size taken.NotSent new did = by_walk (did.0 0).0
received-same old queue size taken.Wrong new did = elim (did.0 0) [
  | inl looked ↦ by_walk looked.0
  | inr wrong ↦ by_walk wrong.7.2 ∙ by_walk wrong.5
]
received-same old queue size (taken.Message bucket len) new did = let it = did.0 0 in by_walk it.8.1 ∙ by_walk it.4

pub finished-same : (old : Party) (bucket : ℕ) (told : Result ℕ Refusal) (new : Party) → Finishes log_of old bucket told new →
    buckets_of new ≡ buckets_of old
finished-same old bucket (Ok slot) new did = let it = (did.1.1.0 0).1 in by_walk it.5.0 ∙ by_walk it.4
finished-same old bucket (Err NotABucket) new did = ap (λ (p : Party). buckets_of p) did.1
finished-same old bucket (Err NotHeld) new did = ap (λ (p : Party). buckets_of p) did.1
finished-same old bucket (Err NotDone) new did = elim did.1 [
  | inl entered ↦ by_walk (entered.0 0).0
  | inr nowhere ↦ by_walk (nowhere.0 0).0
]

pub given-same : (old : Party) (freed : ℕ) (new : Party) → GivesAllBack log_of old freed new → buckets_of new ≡ buckets_of old
given-same old freed new did = ap (λ (l : FileLog). l.scene.buckets) (did.0 0).gets

-- PLACES

-- the bucket of a message that a party has just received is one of the file's
pub received-below : (old : Party) (queue size : ℕ) (answer : Taken) (new : Party) (places : PoolGeometry) →
    length old.notes ≡ places.buckets → Receives log_of old queue size answer new →
    HasBucketOf (record { party = new; places = places }) answer
received-below old queue size (taken.Message bucket len) new places long did =
    omega (arith, long, slice_get_within old.notes bucket _ (did.0 0).6)
received-below old queue size taken.Empty new places long did = tt
received-below old queue size taken.NotSent new places long did = tt
received-below old queue size taken.Wrong new places long did = tt

-- what follows if there is none
pub none-so : (told : Option ℕ) (A B : Type 0) → (A → B) → IfNone told A → IfNone told B
none-so None A B so is = so is
none-so (Some number) A B so is = tt

-- the party has no bucket in use where none begins
pub holds-none : (file : JoinedFile) (place : ℕ) → length file.party.notes ≡ file.places.buckets →
    ¬ IsPlaceOfBucket file.places place → ¬ HoldsPlace file place
holds-none file place long away held = elim held [
  | inl in_use ↦ away (in_use.0, omega (arith, long, slice_get_within file.party.notes in_use.0 _ in_use.1.0), in_use.1.1)
  | inr undone ↦ away (undone.0, omega (arith, long, slice_get_within file.party.notes undone.0 _ undone.1.0), undone.1.1)
]
