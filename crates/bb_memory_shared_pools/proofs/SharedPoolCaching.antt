-- Lists of cached buckets that lose their last bucket or get one more; how requests are then
-- answered; and which buckets are in use.
use Rattle.bb_memory_pool_machine.proofs.PoolHolders.{held_through}
use Rattle.bb_memory_pool_machine.proofs.PoolSteps.{test_apart}
use Rattle.bb_memory_pool_machine.specs.PoolLogs.{IsHeldAfter, PoolLog}
use Rattle.bb_memory_shared_pools.proofs.SharedPoolLaws.{held_below}
use Rattle.bb_memory_shared_pools.proofs.SharedPoolNextFit.{missed_same}
use Rattle.bb_memory_shared_pools.proofs.SharedPoolRequests.{not_within, refused_unasked, unasked}
use Rattle.bb_memory_shared_pools.proofs.SharedPoolTries.{held-append}
use Rattle.bb_memory_shared_pools.specs.SharedPool.{IsParty, PoolParty, Serves, ServesAlone, SharedPool, TakenBucket, detach_entry, return_entry, taken_bucket, with_entries}
use Rattle.bb_memory_shared_pools.specs.SharedPoolCaching.{AreAllOut, AreCached, CachingParty, IsOut, MissesFirst, ServesCaching, TakesCaching, returns_of}
use Rattle.bb_memory_shared_pools.specs.SharedPoolNextFit.{BeginsSearch, MayTakeFrom, hint_of, probes_before}
use Rattle.bb_memory_traits.proofs.Measures.{bucket-inside, bucket_place-multiple}
use Rattle.bb_memory_traits.specs.Geometry.{Admits}
use Rattle.bb_memory_traits.specs.PoolObject.{IsWithin}
use Rattle.bb_memory_traits.specs.declared.allocator.AllocationError.{AllocationError}
use Rattle.bb_memory_traits.specs.declared.layout.Layout.{Layout}
use Rattle.std.proofs.Common.{Bool, List, [], ap, append_assoc, arith, false, inl, inr, length, refl, subst, sym, true, ℕ, ⊎_elim, ◌++◌, ◌∙◌, ◌∷◌, ◌≡◌, ◌≢◌}
use Rattle.std.proofs.lemmas.Bool.{cases_eq, false≢true}
use Rattle.std.proofs.lemmas.Bool.Decides.{nat_tests}
use Rattle.std.proofs.lemmas.List.{get_or_append_left, get_or_default, get_or_push, length_push, same_from_push}
use Rattle.std.proofs.lemmas.List.Elements.{All-push, Contains-append_left, Contains-push, Contains-push_cases}
use Rattle.std.proofs.lemmas.List.Quantifiers.{all_pairs_push}
use Rattle.std.specs.Prelude.{Contains, Err, IfOk, IsErr, Ok, Result, if◌then◌else◌, ◌==◌, ◌↔◌, ◌⊎◌}

-- a token's number
pub number_of : (pool : SharedPool) (token : TakenBucket) (bucket len : ℕ) → token ≡ taken_bucket pool bucket len →
    token.number ≡ bucket
number_of pool token bucket len is = ap (λ (b : TakenBucket). b.number) is

-- the last is among all, and so is each of the others
pub has_last : (cached before : List ℕ) (last bucket : ℕ) → cached ≡ before ++ last ∷ [] → bucket ≡ last → Contains cached bucket
has_last cached before last bucket is same = subst (λ (xs : List ℕ). Contains xs bucket) (sym is)
    (subst (λ (n : ℕ). Contains (before ++ last ∷ []) n) (sym same) (Contains-push before last))

pub has_others : (cached before : List ℕ) (last other : ℕ) → cached ≡ before ++ last ∷ [] → Contains before other →
    Contains cached other
has_others cached before last other is at =
    subst (λ (xs : List ℕ). Contains xs other) (sym is) (Contains-append_left before (last ∷ []) other at)

-- each is the last or among the others
pub has_either : (cached before : List ℕ) (last other : ℕ) → cached ≡ before ++ last ∷ [] → Contains cached other →
    Contains before other ⊎ (last ≡ other)
has_either cached before last other is at =
    Contains-push_cases before last other (subst (λ (xs : List ℕ). Contains xs other) is at)

-- one more cached bucket
pub cached_more : (party : PoolParty) (cached : List ℕ) (bucket : ℕ) → AreCached party cached → IsHeldAfter party.log bucket →
    ¬ Contains cached bucket → AreCached party (cached ++ bucket ∷ [])
cached_more party cached bucket are held uncached = record {
  held = All-push (λ (b : ℕ). IsHeldAfter party.log b) cached bucket are.held held;
  differ = all_pairs_push (λ (one other : ℕ). one ≢ other) cached bucket are.differ
      (λ k d below same. uncached (k, below, get_or_default cached k bucket d below ∙ same));
}

-- one cached bucket less, the last
pub cached_less : (party : PoolParty) (cached before : List ℕ) (last : ℕ) → cached ≡ before ++ last ∷ [] →
    AreCached party cached → AreCached party before
cached_less party cached before last is are =
    let whole = subst (AreCached party) is are in
    let long = length_push before last in
    record {
      held = λ k d below. subst (λ (b : ℕ). IsHeldAfter party.log b) (get_or_append_left before (last ∷ []) d k below)
          (whole.held k d (omega arith));
      differ = λ i j d lt within same. whole.differ i j d lt (omega arith)
          (get_or_append_left before (last ∷ []) d i (omega arith) ∙ same
          ∙ sym (get_or_append_left before (last ∷ []) d j within));
    }

-- the last is held
pub last_held : (party : PoolParty) (cached before : List ℕ) (last : ℕ) → cached ≡ before ++ last ∷ [] →
    AreCached party cached → IsHeldAfter party.log last
last_held party cached before last is are =
    let long = length_push before last in
    subst (λ (b : ℕ). IsHeldAfter party.log b) (get_or_push before last last (length before) refl)
    ((subst (AreCached party) is are).held (length before) last (omega arith))

-- the last isn't among the others
pub last_apart : (party : PoolParty) (cached before : List ℕ) (last : ℕ) → cached ≡ before ++ last ∷ [] →
    AreCached party cached → ¬ Contains before last
last_apart party cached before last is are at =
    let long = length_push before last in
    (subst (AreCached party) is are).differ at.0 (length before) last at.1 (omega arith)
    (get_or_append_left before (last ∷ []) last at.0 at.1 ∙ at.2 ∙ sym (get_or_push before last last (length before) refl))

-- buckets stay cached while the party gives back one that is in use
pub cached_while : (old new : PoolParty) (cached : List ℕ) (bucket : ℕ) → AreCached old cached → ¬ Contains cached bucket →
    ((other : ℕ) → other ≢ bucket → IsHeldAfter old.log other → IsHeldAfter new.log other) → AreCached new cached
cached_while old new cached bucket are uncached still = record {
  held = λ k d below. still _ (λ same. uncached (k, below, get_or_default cached k bucket d below ∙ same)) (are.held k d below);
  differ = are.differ;
}

-- ANSWERS AND LOGS

-- an answer by a bucket that the party holds already
served_cached : (party : PoolParty) (layout : Layout) (bucket : ℕ) → IsParty party →
    IsWithin party.allocator.scene.geometry.bucket layout → IsHeldAfter party.log bucket →
    Serves party.allocator party layout (Ok (taken_bucket party.allocator bucket layout.size)) party
served_cached party layout bucket is within held =
    let geometry = party.allocator.scene.geometry in
    record {
      bucket = refl;
      number = refl;
      is_party = is;
      held = held;
      others_kept = λ other its. its;
      others = λ other apart its. its;
      inside = bucket-inside geometry bucket layout.size is.scene.geometry (held_below party is bucket held) within.size;
      aligned = bucket_place-multiple geometry bucket layout within.align;
      exact_size = refl;
    }

-- an answer by the bucket that was cached last
pub served_last : (pool : SharedPool) (old party : PoolParty) (layout : Layout) (cached before : List ℕ) (last len : ℕ)
    (token : TakenBucket) → party ≡ old → old.allocator ≡ pool → IsParty party → AreCached party cached →
    cached ≡ before ++ last ∷ [] → token ≡ taken_bucket pool last len → len ≡ layout.size →
    IsWithin pool.scene.geometry.bucket layout → Serves old.allocator old layout (Ok token) party
served_last pool old party layout cached before last len token same own is are cut its size within =
    let pool_is = ap (λ (p : PoolParty). p.allocator) same ∙ own in
    let within_its = subst (λ (p : SharedPool). IsWithin p.scene.geometry.bucket layout) (sym pool_is) within in
    let token_is = its ∙ λ i. taken_bucket (sym pool_is i) last (size i) in
    subst (λ (p : PoolParty). Serves p.allocator p layout (Ok token) party) same
    (subst (λ (b : TakenBucket). Serves party.allocator party layout (Ok b) party) (sym token_is)
    (served_cached party layout last is within_its (last_held party cached before last cut are)))

-- no list that ends with an element is empty
not_empty : (before : List ℕ) (last : ℕ) → ¬ ([] ≡ before ++ last ∷ [])
not_empty before last is = let long = length_push before last in absurd (omega (arith, ap length is))

-- a request that takes the bucket that was cached last
pub takes_last : (pool : SharedPool) (old new : CachingParty) (layout : Layout) (last len : ℕ) (token : TakenBucket) →
    new.party ≡ old.party → new.most ≡ old.most → old.party.allocator ≡ pool → old.cached ≡ new.cached ++ last ∷ [] →
    token ≡ taken_bucket pool last len → len ≡ layout.size → IsWithin pool.scene.geometry.bucket layout →
    TakesCaching old layout (Ok token) new
takes_last pool old new layout last len token same most own cut its size within = record {
  cached = λ before end _ is.
      let ends = same_from_push new.cached before last end (sym cut ∙ is) in (
        λ i. Ok ((its ∙ λ j. taken_bucket (sym own j) (ends.1 j) (size j)) i),
        λ i. record { party = same i; cached = ends.0 i; most = most i },
      );
  searched = λ none. absurd (not_empty new.cached last (sym none ∙ cut));
  refused = tt;
  within = subst (λ (p : SharedPool). IsWithin p.scene.geometry.bucket layout) (sym own) within;
}

-- a request that is refused without a step
pub unasked_answer : (old : CachingParty) (layout : Layout) (error : AllocationError) → IsParty old.party →
    Admits old.party.allocator.scene.geometry.bucket layout (Err error) → TakesCaching old layout (Err error) old
unasked_answer old layout error is refused =
    let bucket = old.party.allocator.scene.geometry.bucket in
    let answer = refused_unasked old.party _ layout error refused in record {
      cached = λ before last within at. absurd (not_within bucket layout error refused within);
      searched = λ none. record {
        answer = answer;
        serves = unasked old.party.allocator old.party layout error is refused;
        unchanged = refl;
      };
      refused = record {
        answer = answer;
        unchanged = refl;
        none_cached = λ out. absurd (subst (λ (e : AllocationError). Admits bucket layout (Err e)) out refused);
      };
      within = tt;
    }

-- a request that searches the pool, as none is cached
pub searches : (old new : CachingParty) (layout : Layout) (result : Result TakenBucket AllocationError) → old.cached ≡ [] →
    MayTakeFrom (hint_of old.party) old.party layout result new.party →
    ServesAlone old.party.allocator old.party layout result new.party → new ≡ record old { party = new.party } →
    TakesCaching old layout result new
searches old new layout (Ok bucket) none answer serves unchanged = record {
  cached = λ before last within at. absurd (not_empty before last (sym none ∙ at));
  searched = λ _. record { answer = answer; serves = serves; unchanged = unchanged };
  refused = tt;
  within = answer.0.within;
}
searches old new layout (Err error) none answer serves unchanged = record {
  cached = λ before last within at. absurd (not_empty before last (sym none ∙ at));
  searched = λ _. record { answer = answer; serves = serves; unchanged = unchanged };
  refused = record { answer = answer; unchanged = unchanged; none_cached = λ out. none };
  within = tt;
}

-- the returns of all but the last come after that of the last
pub returns_push : (party : ℕ) (before : List ℕ) (last : ℕ) →
    returns_of party (before ++ last ∷ []) ≡ return_entry party last ++ returns_of party before
returns_push party [] last = refl
returns_push party (bucket ∷ others) last =
    ap (λ (log : PoolLog). log ++ return_entry party bucket) (returns_push party others last)
    ∙ append_assoc (return_entry party last) (returns_of party others) (return_entry party bucket)

-- a return of the last, and of the others after it, is a return of all
pub returns_last : (party new : PoolParty) (cached before : List ℕ) (last bucket : ℕ) → cached ≡ before ++ last ∷ [] →
    bucket ≡ last → new ≡ with_entries party (return_entry party.number bucket) →
    with_entries new (returns_of new.number before) ≡ with_entries party (returns_of party.number cached)
returns_last party new cached before last bucket is same gave =
    let all = append_assoc party.log (return_entry party.number last) (returns_of party.number before)
    ∙ ap (λ (log : PoolLog). party.log ++ log)
    (sym (returns_push party.number before last) ∙ ap (λ (b : List ℕ). returns_of party.number b) (sym is)) in
    ap (λ (p : PoolParty). with_entries p (returns_of p.number before))
    (gave ∙ ap (λ (n : ℕ). with_entries party (return_entry party.number n)) same) ∙ λ i. record {
      allocator = party.allocator;
      number = party.number;
      log = all i;
    }

-- WHAT IS OUT

-- a bucket that is in use goes to the cache
pub out_cached : (old : CachingParty) (party : PoolParty) (cached now : List ℕ) (most bucket number : ℕ) →
    record { party = party; cached = cached; most = most } ≡ old → number ≡ bucket → AreCached party cached →
    IsOut old bucket → now ≡ cached ++ number ∷ [] → AreCached party now
unfolding IsOut
out_cached old party cached now most bucket number own same are out is =
    let its = subst (λ (p : CachingParty). IsOut p bucket) (sym own) out in
    subst (AreCached party) (sym (is ∙ ap (λ (n : ℕ). cached ++ n ∷ []) same)) (cached_more party cached bucket are its.0 its.1)

-- a bucket that is in use goes to the pool
pub out_returned : (old : CachingParty) (party new : PoolParty) (cached : List ℕ) (most bucket : ℕ) →
    record { party = party; cached = cached; most = most } ≡ old → AreCached party cached → IsOut old bucket →
    ((other : ℕ) → other ≢ bucket → IsHeldAfter party.log other → IsHeldAfter new.log other) → AreCached new cached
unfolding IsOut
out_returned old party new cached most bucket own are out still =
    cached_while party new cached bucket are (subst (λ (p : CachingParty). IsOut p bucket) (sym own) out).1 still

-- the token of the last is that of a bucket that is in use once it isn't cached any more
pub last_out : (party : PoolParty) (cached before : List ℕ) (most last len : ℕ) (pool : SharedPool) (token : TakenBucket) →
    AreCached party cached → cached ≡ before ++ last ∷ [] → token ≡ taken_bucket pool last len →
    IsOut (record { party = party; cached = before; most = most }) token.number
unfolding IsOut
last_out party cached before most last len pool token are is its =
    let same = number_of pool token last len its in (
      subst (λ (n : ℕ). IsHeldAfter party.log n) (sym same) (last_held party cached before last is are),
      λ at. last_apart party cached before last is are (subst (λ (n : ℕ). Contains before n) same at),
    )

-- no bucket that was in use is the last
pub last_fresh : (old : CachingParty) (cached before : List ℕ) (last len : ℕ) (pool : SharedPool) (token : TakenBucket)
    (other : ℕ) → cached ≡ old.cached → cached ≡ before ++ last ∷ [] → token ≡ taken_bucket pool last len →
    IsOut old other → other ≢ token.number
unfolding IsOut
last_fresh old cached before last len pool token other own is its out same =
    out.1 (has_last old.cached before last other (sym own ∙ is) (same ∙ number_of pool token last len its))

-- the bucket that was cached last isn't in use, so not all are
pub last_not_all : (old : CachingParty) (cached before : List ℕ) (last : ℕ) → IsParty old.party →
    AreCached old.party old.cached → cached ≡ old.cached → cached ≡ before ++ last ∷ [] → ¬ AreAllOut old
unfolding IsOut
last_not_all old cached before last is are own cut all =
    let its = sym own ∙ cut in
    let held = last_held old.party old.cached before last its are in
    (all last (held_below old.party is last held)).1 (has_last old.cached before last last its refl)

-- a bucket that is in use stays in use if another bucket is cached
pub out_more : (old new : CachingParty) (bucket other : ℕ) → new.party ≡ old.party → new.cached ≡ old.cached ++ bucket ∷ [] →
    other ≢ bucket → IsOut old other → IsOut new other
unfolding IsOut
out_more old new bucket other own is apart out = (
  subst (λ (p : PoolParty). IsHeldAfter p.log other) (sym own) out.0,
  λ at. ⊎_elim out.1 (λ same. apart (sym same)) (has_either new.cached old.cached bucket other is at),
)

-- a bucket that is in use stays in use if one bucket less is cached
pub out_less : (old new : CachingParty) (bucket other : ℕ) → new.party ≡ old.party → old.cached ≡ new.cached ++ bucket ∷ [] →
    IsOut old other → IsOut new other
unfolding IsOut
out_less old new bucket other own is out = (
  subst (λ (p : PoolParty). IsHeldAfter p.log other) (sym own) out.0,
  λ at. out.1 (has_others old.cached new.cached bucket other is at),
)

-- the buckets that are in use after a search of the pool
module _ (old new : CachingParty) (layout : Layout) (none : old.cached ≡ []) (none_now : new.cached ≡ []) where
  uncached : (cached : List ℕ) (other : ℕ) → cached ≡ [] → ¬ Contains cached other
  uncached cached other is at = let within = (subst (λ (xs : List ℕ). Contains xs other) is at).1 in absurd (omega arith)

  pub found_out : (result : Result TakenBucket AllocationError) →
      ServesAlone old.party.allocator old.party layout result new.party → IfOk result (λ bucket. IsOut new bucket.number)
  unfolding IsOut
  found_out (Ok bucket) serves = (serves.serves.held, uncached new.cached bucket.number none_now)
  found_out (Err error) serves = tt

  pub found_kept : (result : Result TakenBucket AllocationError) →
      ServesAlone old.party.allocator old.party layout result new.party → (other : ℕ) → IsOut old other → IsOut new other
  unfolding IsOut
  found_kept result serves other out = (serves.serves.others_kept other out.0, uncached new.cached other none_now)

  pub found_others : (result : Result TakenBucket AllocationError) →
      ServesAlone old.party.allocator old.party layout result new.party → (other : ℕ) →
      IfOk result (λ bucket. other ≢ bucket.number) → IsOut new other → IsOut old other
  unfolding IsOut
  found_others result serves other apart out = (serves.serves.others other apart out.0, uncached old.cached other none)

  pub found_alone : (result : Result TakenBucket AllocationError) →
      ServesAlone old.party.allocator old.party layout result new.party → old.party.allocator.scene.parties ≡ 1 →
      IsWithin old.party.allocator.scene.geometry.bucket layout → (IsErr result ↔ AreAllOut old)
  unfolding IsOut
  found_alone result serves one within =
      let held = serves.alone one within in (
        λ refused bucket below. (held.0 refused bucket below, uncached old.cached bucket none),
        λ out. held.1 (λ bucket below. (out bucket below).0),
      )

-- a bucket that a search took wasn't out
pub found_fresh : (old : CachingParty) (new : PoolParty) (layout : Layout) (result : Result TakenBucket AllocationError) →
    MayTakeFrom (hint_of old.party) old.party layout result new →
    IfOk result (λ bucket. (other : ℕ) → IsOut old other → other ≢ bucket.number)
unfolding IsOut
found_fresh old new layout (Ok bucket) answer =
    λ other out same. answer.0.free (subst (λ (n : ℕ). IsHeldAfter old.party.log n) same out.0)
found_fresh old new layout (Err error) answer = tt

-- WHOLE TAKINGS

-- a taking of the bucket that was cached last
pub serves_cached : (pool : SharedPool) (old : CachingParty) (party : PoolParty) (cached rest : List ℕ) (most last len : ℕ)
    (token : TakenBucket) (layout : Layout) → record { party = party; cached = cached; most = most } ≡ old →
    old.party.allocator ≡ pool → IsParty party → AreCached party cached → cached ≡ rest ++ last ∷ [] →
    token ≡ taken_bucket pool last len → len ≡ layout.size → IsWithin pool.scene.geometry.bucket layout →
    ServesCaching old layout (Ok token) (record { party = party; cached = rest; most = most })
serves_cached pool old party cached rest most last len token layout is own its are cut token_is size within =
    let new : CachingParty = record { party = party; cached = rest; most = most } in
    let same_party = ap (λ (p : CachingParty). p.party) is in
    let same_cached = ap (λ (p : CachingParty). p.cached) is in
    let same_most = ap (λ (p : CachingParty). p.most) is in record {
      answer = takes_last pool old new layout last len token same_party same_most own (sym same_cached ∙ cut) token_is size
          within;
      serves = served_last pool old.party party layout cached rest last len token same_party own its are cut token_is size
          within;
      taken = last_out party cached rest most last len pool token are cut token_is;
      fresh = λ other. last_fresh old cached rest last len pool token other same_cached cut token_is;
      others_kept = λ other. out_less old new last other same_party (sym same_cached ∙ cut);
      others = λ other apart out. out_more new old last other (sym same_party) (sym same_cached ∙ cut)
          (λ same. apart (same ∙ sym (ap (λ (b : TakenBucket). b.number) token_is))) out;
      alone = λ one wanted. (
        λ refused. absurd (false≢true refused),
        λ all. absurd (last_not_all old cached rest last (subst (λ (p : CachingParty). IsParty p.party) is its)
            (subst (λ (p : CachingParty). AreCached p.party p.cached) is are) same_cached cut all),
      );
      party = ap (λ (p : PoolParty). p.allocator) same_party;
      most = same_most;
    }

-- a taking that searches the pool, as none is cached
pub serves_searched : (pool : SharedPool) (old new : CachingParty) (layout : Layout) (result : Result TakenBucket AllocationError) →
    old.party.allocator ≡ pool → old.cached ≡ [] → new ≡ record old { party = new.party } →
    MayTakeFrom (hint_of old.party) old.party layout result new.party → ServesAlone pool old.party layout result new.party →
    new.party.allocator ≡ pool → ServesCaching old layout result new
serves_searched pool old new layout result own none unchanged answer told its =
    let serves = subst (λ (p : SharedPool). ServesAlone p old.party layout result new.party) (sym own) told in
    let now : new.cached ≡ [] = ap (λ (p : CachingParty). p.cached) unchanged ∙ none in record {
      answer = searches old new layout result none answer serves unchanged;
      serves = serves.serves;
      taken = found_out old new layout none now result serves;
      fresh = found_fresh old new.party layout result answer;
      others_kept = found_kept old new layout none now result serves;
      others = found_others old new layout none now result serves;
      alone = found_alone old new layout none now result serves;
      party = its ∙ sym own;
      most = ap (λ (p : CachingParty). p.most) unchanged;
    }

-- a first probe that missed leaves the same buckets in use
pub misses_first : (old new : CachingParty) → old.cached ≡ [] → BeginsSearch old.party new.party →
    new ≡ record old { party = new.party } → MissesFirst old new
unfolding IsOut
misses_first old new none begun unchanged =
    let buckets = old.party.allocator.scene.geometry.buckets in
    let first = hint_of old.party in
    let probes = probes_before buckets first in
    let same : (bucket : ℕ) → held_through bucket false new.party.log ≡ held_through bucket false old.party.log =
    λ bucket. ap (λ (p : PoolParty). held_through bucket false p.log) begun.logged
    ∙ missed_same buckets old.party.number first probes bucket old.party.log in
    let cached : new.cached ≡ old.cached = ap (λ (p : CachingParty). p.cached) unchanged in record {
      none_cached = none;
      party = begun;
      unchanged = unchanged;
      out = λ bucket. (
        λ out. (same bucket ∙ out.0, λ at. out.1 (subst (λ (xs : List ℕ). Contains xs bucket) cached at)),
        λ out. (sym (same bucket) ∙ out.0, λ at. out.1 (subst (λ (xs : List ℕ). Contains xs bucket) (sym cached) at)),
      );
    }

-- a taking and a detachment, whichever way the bucket was taken
module _ (old taken new : CachingParty) (bucket : TakenBucket) (layout : Layout) (serves : ServesCaching old layout (Ok bucket) taken)
    (logged : new ≡ record taken { party = with_entries taken.party (detach_entry taken.party.number bucket.number) })
  where
    abbrev before : ℕ → Bool
    before other = held_through other false taken.party.log

    now_holds : (other : ℕ) → held_through other false new.party.log ≡ (if bucket.number == other then false else before other)
    now_holds other = ap (λ (c : CachingParty). held_through other false c.party.log) logged
        ∙ held-append other false taken.party.log (detach_entry taken.party.number bucket.number)

    same_cached : new.cached ≡ taken.cached
    same_cached = ap (λ (c : CachingParty). c.cached) logged

    pub out_sent : (other : ℕ) → IsOut old other ↔ IsOut new other
    unfolding IsOut
    out_sent other = (
      λ out.
          let kept = serves.others_kept other out in
          let apart = test_apart bucket.number other (λ same. serves.fresh other out (sym same)) in (
            now_holds other ∙ ap (λ (b : Bool). if b then false else before other) apart ∙ kept.0,
            λ at. kept.1 (subst (λ (xs : List ℕ). Contains xs other) same_cached at),
          ),
      λ out. elim (cases_eq other bucket.number) [
        | inl same ↦
            let here : (bucket.number == other) ≡ true = grind (arith, nat_tests, same) in
            absurd (false≢true (sym (now_holds other ∙ ap (λ (b : Bool). if b then false else before other) here) ∙ out.0))
        | inr apart ↦
            let there = test_apart bucket.number other (λ same. apart (sym same)) in
            serves.others other apart (
              sym (now_holds other ∙ ap (λ (b : Bool). if b then false else before other) there) ∙ out.0,
              λ at. out.1 (subst (λ (xs : List ℕ). Contains xs other) (sym same_cached) at),
            )
      ],
    )
