-- The list of the buckets that a party has in use: what an entry says, and the list after a step on one bucket or on none.
use Rattle.bb_memory_c.specs.SharedPools.{AreFlagged, AreListed, IsJoinedAt, geometry_of}
use Rattle.bb_memory_index_set.specs.IndexSets.{Has}
use Rattle.bb_memory_lists.proofs.SliceGets.{length-set_at, slice_get-replicated, slice_get-set, slice_get-set_other, slice_get-set_same}
use Rattle.bb_memory_pool_machine.specs.PoolLogs.{IsHeldAfter}
use Rattle.bb_memory_shared_pools.proofs.SharedPoolLaws.{held_below}
use Rattle.bb_memory_shared_pools.specs.SharedPool.{IsParty, PoolParty, SharedPool, TakenBucket}
use Rattle.bb_memory_shared_pools.specs.SharedPoolCaching.{CachingParty, IsOut, MissesFirst, SendsCaching, ServesCaching}
use Rattle.bb_memory_shared_pools.specs.SharedPoolLeaving.{HoldsSome}
use Rattle.bb_memory_traits.specs.declared.allocator.AllocationError.{AllocationError}
use Rattle.bb_memory_traits.specs.declared.allocator.AllocationError.TheVariants.{OutOfMemory}
use Rattle.bb_memory_traits.specs.declared.layout.Layout.{Layout}
use Rattle.std.proofs.Common.{Bool, List, None, Ok, Option, Some, [], ap, arith, false, inl, inr, length, refl, replicate, set, subst, sym, true, ℕ, ◌+◌, ◌<◌, ◌↔◌, ◌∙◌, ◌≡◌, ◌≢◌, ◌≤◌}
use Rattle.std.proofs.lemmas.Bool.{cases_eq, cases_lt, false≢true}
use Rattle.std.proofs.lemmas.List.{length-replicate}
use Rattle.std.proofs.lemmas.Option.{same_Some, slice_get-get_or}
use Rattle.std.specs.Prelude.{Err, IfNone, IfSome, IsTrue, slice_get}

-- a list of no entry has none for any number
no-entry : (list : List Bool) (number : ℕ) (is : Bool) → list ≡ [] → ¬ (slice_get list number ≡ Some is)
no-entry list number is none there =
    let wrong : slice_get [] number ≡ Some is = subst (λ (l : List Bool). slice_get l number ≡ Some is) none there in absurd (cc)

-- an entry says whether its bucket is in use
pub tells-in-use : (joined : CachingParty) (list : List Bool) (number : ℕ) (is : Bool) → AreListed joined joined.most list →
    slice_get list number ≡ Some is → IsTrue is ↔ IsOut joined number
tells-in-use joined list number is listed there = elim (cases_lt 0 joined.most) [
  | inl some ↦
      let exact = (listed.flagged some).exact number in (
        λ yes. exact.0 (there ∙ ap Some yes),
        λ out. same_Some is true (sym there ∙ exact.1 out),
      )
  | inr none ↦
      absurd (no-entry list number is (listed.none (omega (arith, none))) there)
]

-- a party whose list lacks one of the pool's buckets caches none, so its flag says whether the bucket is in use
pub flag-tells-in-use : (joined : CachingParty) (list : List Bool) (number : ℕ) (is : Bool) →
    length joined.cached ≤ joined.most → AreListed joined joined.most list → number < (geometry_of joined).buckets →
    slice_get list number ≡ None → (is ≡ true) ↔ IsHeldAfter joined.party.log number → IsTrue is ↔ IsOut joined number
unfolding IsOut
flag-tells-in-use joined list number is few listed below lacks held = elim (cases_lt 0 joined.most) [
  | inl some ↦
      let enough = (listed.flagged some).enough in
      let there = slice_get-get_or list number false (omega (arith, below, enough)) in absurd (cc)
  | inr none ↦ (
    λ yes. (held.0 yes, λ (k, within, same). absurd (omega (arith, few, none, within))),
    λ out. held.1 out.0,
  )
]

-- ONE ENTRY

-- one entry is written, and the others say the same as before
told-noted : {before after : ℕ → Type 0} (list : List Bool) (number : ℕ) (is : Bool) →
    ((bucket : ℕ) → Has list bucket ↔ before bucket) → number < length list → (is ≡ true) ↔ after number →
    ((other : ℕ) → other ≢ number → before other ↔ after other) → (bucket : ℕ) → Has (set list number is) bucket ↔ after bucket
told-noted {before} {after} list number is exact within here others bucket = elim (cases_eq bucket number) [
  | inl same ↦
      let there = slice_get-set_same list number is _ (slice_get-get_or list number false within) in
      subst (λ (b : ℕ). Has (set list number is) b ↔ after b) (sym same) (
        λ has. here.0 (same_Some is true (sym there ∙ has)),
        λ so. there ∙ ap Some (here.1 so),
      )
  | inr apart ↦
      let old = slice_get-set_other list number bucket is apart in (
        λ has. (others bucket apart).0 ((exact bucket).0 (sym old ∙ has)),
        λ so. old ∙ (exact bucket).1 ((others bucket apart).1 so),
      )
]

flagged-noted : {pool : SharedPool} {before after : ℕ → Type 0} (number : ℕ) (is : Bool) {list : List Bool} →
    AreFlagged pool before list → number < pool.scene.geometry.buckets → (is ≡ true) ↔ after number →
    ((other : ℕ) → other ≢ number → before other ↔ after other) → AreFlagged pool after (set list number is)
flagged-noted number is {list} are below here others = record {
  enough = omega (arith, are.enough, length-set_at list number is);
  below = λ bucket has. elim (slice_get-set list number bucket is true has) [
    | inl old ↦ are.below bucket old
    | inr new ↦ omega (arith, new.0, below)
  ];
  exact = told-noted list number is are.exact (omega (arith, are.enough, below)) here others;
}

-- EACH BUCKET

-- of the first buckets, the list says which are in use, and it has no other entry that is set
pub record AreListedBelow (joined : CachingParty) (number : ℕ) (list : List Bool) : Type 0 where
  pub exact : (bucket : ℕ) → Has list bucket ↔ ((bucket < number) × IsOut joined bucket)

pub listed-none : (joined : CachingParty) (n : ℕ) → AreListedBelow joined 0 (replicate n false)
listed-none joined n = record {
  exact = λ bucket. (
    λ has. absurd (false≢true (slice_get-replicated n bucket false true has)),
    λ (below, out). absurd (omega (arith, below)),
  );
}

pub listed-next : (joined : CachingParty) (number : ℕ) (is : Bool) {list : List Bool} → AreListedBelow joined number list →
    number < length list → IsTrue is ↔ IsOut joined number → AreListedBelow joined (number + 1) (set list number is)
listed-next joined number is {list} listed within here = record {
  exact = told-noted list number is listed.exact within (λ yes. (omega arith, here.0 yes), λ so. here.1 so.1)
      (λ other apart. (λ (low, out). (omega (arith, low), out), λ (low, out). (omega (arith, low, apart), out)));
}

pub flagged-all : (joined : CachingParty) {list : List Bool} → IsParty joined.party →
    AreListedBelow joined (geometry_of joined).buckets list → (geometry_of joined).buckets ≤ length list →
    AreFlagged joined.party.allocator (IsOut joined) list
unfolding IsOut
flagged-all joined is listed enough = record {
  enough = enough;
  below = λ bucket has. ((listed.exact bucket).0 has).0;
  exact = λ bucket. (
    λ has. ((listed.exact bucket).0 has).1,
    λ out. (listed.exact bucket).1 (held_below joined.party is bucket out.0, out),
  );
}

-- THE PARTY

-- after a step: the entries say which buckets the party has in use then, and a list without entries has none then
joined-after : {pool : SharedPool} {joined after : CachingParty} {list now : List Bool} → IsJoinedAt pool joined list →
    after.party.allocator ≡ joined.party.allocator → after.most ≡ joined.most →
    (AreFlagged pool (IsOut joined) list → AreFlagged pool (IsOut after) now) → (list ≡ [] → now ≡ []) →
    IsJoinedAt pool after now
joined-after {pool} {joined} {after} {list} {now} at same most flagged none =
    let theirs = same ∙ at.theirs in
    record {
      theirs = theirs;
      listed = record {
        flagged = λ some. subst (λ (p : SharedPool). AreFlagged p (IsOut after) now) (sym theirs)
            (flagged (subst (λ (p : SharedPool). AreFlagged p (IsOut joined) list) at.theirs
            (at.listed.flagged (omega (arith, some, most)))));
        none = λ zero. none (at.listed.none (sym most ∙ zero));
      };
    }

-- after a step on one bucket, whose entry is written
pub joined-noted : {pool : SharedPool} {joined after : CachingParty} (number : ℕ) (is : Bool) {list : List Bool} →
    IsJoinedAt pool joined list → after.party.allocator ≡ joined.party.allocator → after.most ≡ joined.most →
    (AreFlagged pool (IsOut joined) list → number < pool.scene.geometry.buckets) → (is ≡ true) ↔ IsOut after number →
    ((other : ℕ) → other ≢ number → IsOut joined other ↔ IsOut after other) →
    IsJoinedAt pool after (set list number is)
joined-noted number is at same most below here others =
    joined-after at same most (λ are. flagged-noted number is are (below are) here others)
    (λ none. ap (λ (l : List Bool). set l number is) none)

-- after a step by which a bucket comes into use or ceases to be in use
pub joined-gains : {pool : SharedPool} {joined after : CachingParty} (number : ℕ) {list : List Bool} →
    IsJoinedAt pool joined list → after.party.allocator ≡ joined.party.allocator → after.most ≡ joined.most →
    number < pool.scene.geometry.buckets → IsOut after number → ((other : ℕ) → IsOut joined other → IsOut after other) →
    ((other : ℕ) → other ≢ number → IsOut after other → IsOut joined other) →
    IsJoinedAt pool after (set list number true)
joined-gains number at same most below out kept others = joined-noted number true at same most (λ _. below)
    (λ _. out, λ _. refl) (λ other apart. (kept other, others other apart))

-- after a request that took a bucket
pub joined-takes : {pool : SharedPool} {joined after : CachingParty} {list : List Bool} {layout : Layout}
    (bucket : TakenBucket) → IsJoinedAt pool joined list → ServesCaching joined layout (Ok bucket) after →
    IsJoinedAt pool after (set list bucket.number true)
joined-takes {after = after} bucket at serves =
    let number = bucket.number in
    let below = subst (λ (p : SharedPool). number < p.scene.geometry.buckets) (serves.party ∙ at.theirs)
    (held_below after.party serves.serves.is_party number serves.serves.held) in
    joined-gains number at serves.party serves.most below serves.taken serves.others_kept serves.others

pub joined-loses : {pool : SharedPool} {joined after : CachingParty} (number lost : ℕ) {list : List Bool} →
    lost ≡ number → IsJoinedAt pool joined list → after.party.allocator ≡ joined.party.allocator → after.most ≡ joined.most →
    IsOut joined number → ¬ IsOut after lost → ((other : ℕ) → other ≢ lost → IsOut joined other → IsOut after other) →
    ((other : ℕ) → IsOut after other → IsOut joined other) → IsJoinedAt pool after (set list number false)
joined-loses {after = after} number lost its at same most was out kept others = joined-noted number false at same most
    (λ are. are.below number ((are.exact number).1 was))
    (λ wrong. absurd (false≢true wrong), λ is. absurd (out (subst (IsOut after) (sym its) is)))
    (λ other apart. (kept other (λ is. apart (is ∙ its)), others other))

-- after steps that leave the same buckets in use
pub joined-same : {pool : SharedPool} {joined after : CachingParty} {list : List Bool} → IsJoinedAt pool joined list →
    after.party.allocator ≡ joined.party.allocator → after.most ≡ joined.most →
    ((other : ℕ) → IsOut joined other ↔ IsOut after other) → IsJoinedAt pool after list
joined-same at same most outs = joined-after at same most (λ are. record {
  enough = are.enough;
  below = are.below;
  exact = λ bucket. (
    λ has. (outs bucket).0 ((are.exact bucket).0 has),
    λ out. (are.exact bucket).1 ((outs bucket).1 out),
  );
}) (λ none. none)

-- before the first probe of a taking, which missed
pub joined-missed : {pool : SharedPool} {joined after : CachingParty} {list : List Bool} → IsJoinedAt pool after list →
    MissesFirst joined after → IsJoinedAt pool joined list
joined-missed at missed = joined-same at (sym (ap (λ (p : PoolParty). p.allocator) missed.party.logged))
    (sym (ap (λ (c : CachingParty). c.most) missed.unchanged)) (λ bucket. ((missed.out bucket).1, (missed.out bucket).0))

-- after a request that took no bucket
pub joined-refused : {pool : SharedPool} {joined after : CachingParty} {list : List Bool} {layout : Layout}
    (error : AllocationError) → IsJoinedAt pool joined list → ServesCaching joined layout (Err error) after →
    IsJoinedAt pool after list
joined-refused error at serves =
    joined-same at serves.party serves.most (λ other. (serves.others_kept other, serves.others other tt))

-- after a bucket was taken and detached, or none was taken
pub joined-sends : {pool : SharedPool} {joined after : CachingParty} {list : List Bool} (layout : Layout) (result : Option ℕ) →
    IsJoinedAt pool joined list → IfSome result (λ number. SendsCaching joined number after) →
    IfNone result (ServesCaching joined layout (Err OutOfMemory) after) → IsJoinedAt pool after list
joined-sends layout None at sent refused = joined-refused OutOfMemory at refused
joined-sends layout (Some number) at sent refused =
    joined-same at (ap (λ (c : CachingParty). c.party.allocator) sent.logged ∙ sent.serves.party)
    (ap (λ (c : CachingParty). c.most) sent.logged ∙ sent.serves.most) sent.out

-- a party that holds none, and whose list has no entry of a bucket in use
pub joined-cleared : {pool : SharedPool} {joined : CachingParty} (after : CachingParty) {list : List Bool} →
    IsJoinedAt pool joined list → after.party.allocator ≡ joined.party.allocator → after.most ≡ joined.most →
    ¬ HoldsSome after.party → IsJoinedAt pool after (replicate (length list) false)
unfolding IsOut
joined-cleared after {list} at same most idle =
    let unset : (bucket : ℕ) → ¬ Has (replicate (length list) false) bucket =
    λ bucket has. false≢true (slice_get-replicated (length list) bucket false true has) in
    joined-after at same most (λ are. record {
      enough = omega (arith, are.enough, length-replicate (length list) false);
      below = λ bucket has. absurd (unset bucket has);
      exact = λ bucket. (λ has. absurd (unset bucket has), λ out. absurd (idle (bucket, out.0)));
    }) (λ none. ap (λ (l : List Bool). replicate (length l) false) none)

-- a party that caches none
pub joined-fresh : {pool : SharedPool} {joined : CachingParty} {list : List Bool} → joined.party.allocator ≡ pool →
    joined.most ≡ 0 → list ≡ [] → IsJoinedAt pool joined list
joined-fresh theirs most none = record {
  theirs = theirs;
  listed = record { flagged = λ some. absurd (omega (arith, some, most)); none = λ _. none };
}
