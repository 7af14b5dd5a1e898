-- The walks of calls on buckets.
use Rattle.bb_memory_file.proofs.FileSteps.{attaches, deallocates, detaches}
use Rattle.bb_memory_file.proofs.FileWalks.{walk_step}
use Rattle.bb_memory_file.specs.FileCalls.{IsAttach, IsDeallocate, IsDetach, is_detached}
use Rattle.bb_memory_file.specs.FileCode.{ExchangeFlag, FileLog, LoadFlag, MissFlag, Path, StoreFlag, begins, known_of, looks, steps, told}
use Rattle.bb_memory_file.specs.FileLog.{is_clear}
use Rattle.bb_memory_file.specs.FileNames.{AttachNumber, Deallocate, DetachNumber, DetachedBy, FileFlag, Free, HeldBy, Outside, SentTo}
use Rattle.std.proofs.Common.{Bool, [], ap, false, inl, inr, refl, subst, sym, true, ℕ, ◌∙◌, ◌≡◌}
use Rattle.std.specs.Prelude.{MatchBool}

module _ (process : ℕ) (old : FileLog) (bucket : ℕ) where
  pub deallocated : (new : FileLog) → is_clear (known_of old bucket) ≡ true → new ≡ told old (StoreFlag bucket Free) →
      IsDeallocate process old bucket new
  deallocated new clear is = (
    walk_step process old new Outside (StoreFlag bucket Free) (Deallocate process old.party bucket) Outside
        refl (deallocates old process bucket clear) is,
    is,
  )

  pub detached : (new : FileLog) (party : ℕ) → is_clear (known_of old bucket) ≡ true → party ≡ old.party →
      new ≡ told old (StoreFlag bucket (DetachedBy party)) → IsDetach process old bucket new
  detached new party clear mine is =
      let is' : new ≡ told old (StoreFlag bucket (DetachedBy old.party)) =
      is ∙ ap (λ p. told old (StoreFlag bucket (DetachedBy p))) mine in (
        walk_step process old new Outside (StoreFlag bucket (DetachedBy old.party)) (DetachNumber process old.party bucket) Outside
            refl (detaches old process bucket clear) is',
        is',
      )

  -- a look at the flag
  abbrev looked : FileFlag → FileLog
  looked flag = told old (LoadFlag bucket flag)

  path_looked : (flag : FileFlag) → Path process old Outside (looked flag) [] Outside
  path_looked flag = looks old [] Outside (LoadFlag bucket flag) begins tt

  undetached : (flag : FileFlag) → ((from : ℕ) → ¬ (flag ≡ DetachedBy from)) → is_detached flag ≡ false
  undetached Free not_so = refl
  undetached (HeldBy party) not_so = refl
  undetached (DetachedBy from) not_so = absurd (not_so from refl)
  undetached (SentTo slot lap) not_so = refl

  pub not_attached : (new : FileLog) (flag : FileFlag) → new ≡ looked flag → ((from : ℕ) → ¬ (flag ≡ DetachedBy from)) →
      IsAttach process old bucket false new
  not_attached new flag is not_so = subst (λ log. IsAttach process old bucket false log) (sym is)
      (record { path = path_looked flag; scene = refl; party = refl }, inl (flag, refl, undetached flag not_so))

  pub attached : (hit : Bool) (one new : FileLog) (from party : ℕ) → one ≡ looked (DetachedBy from) → party ≡ old.party →
      MatchBool hit (new ≡ told one (ExchangeFlag bucket (DetachedBy from) (HeldBy party)))
      (new ≡ told one (MissFlag bucket (DetachedBy from))) → IsAttach process old bucket hit new
  attached true one new from party e1 mine e2 =
      subst (λ log. IsAttach process old bucket true log)
      (sym (e2 ∙ ap (λ p. told one (ExchangeFlag bucket (DetachedBy from) (HeldBy p))) mine
      ∙ ap (λ log. told log (ExchangeFlag bucket (DetachedBy from) (HeldBy old.party))) e1)) (
        from,
        record {
          path = steps (looked (DetachedBy from)) [] Outside (ExchangeFlag bucket (DetachedBy from) (HeldBy old.party))
              (AttachNumber process old.party bucket from) Outside (path_looked (DetachedBy from)) refl
              (attaches (looked (DetachedBy from)) process bucket from);
          scene = refl;
          party = refl;
        },
        refl,
      )
  attached false one new from party e1 mine e2 =
      subst (λ log. IsAttach process old bucket false log)
      (sym (e2 ∙ ap (λ log. told log (MissFlag bucket (DetachedBy from))) e1)) (
        record {
          path = looks (looked (DetachedBy from)) [] Outside (MissFlag bucket (DetachedBy from)) (path_looked (DetachedBy from)) tt;
          scene = refl;
          party = refl;
        },
        inr (from, refl),
      )
