-- A handle holds its contents under a name of its own: the contents are lent in their place. Assumes `Logic`.
use Rattle.bb_memory_c_calls.proofs.Repr.{ !, Callee, Calls, Clauses, Closed, Ended, Env, Fn, GName, Goes-spent_ref, Held, Lft, Logic, Loops, Meets, Model, MutBor, MutRef, One, Part, RattleType, RefMutOf, Running, SProp, Share, Stays, Ty, Ura, Val, WpFn, [], addr, addr_of, after, alloc_all, ap, assign, at_ret, await, block, blocks, by, closing, copy, deref, done, drop, emp, ent, enter, env, erased, exec, fact, fact_i, first, fjoin, flft, follows, free_all, fsplit, fsplit3, fst∗, ftrue, get, group, join, keep, later, leaves, lends_Part, local, look_at, mem, move, mut, mut_Tells, mut_ref_to, mut_vals, named, no, nothing, of_opd, on_entry, owns, pass_all, pick, place, plain, proved, qed, raw, return, returns, rewrite, rv_opd, sem, sep, seq, sets, sets_last, some, split, split3, stay_dropped, stop, sym, tables, through, ty_ptr, ty_ref, use0, use1, value_local, via, vptr, walk_of, ‵, ℕ, ◌$◌, ◌∙◌, ◌∵◌, ◌∷◌, ◌≡◌, ◌⊛◌}
use types.Mut.{open_ref}
unfoldable pub use denote.Memory.{part_of}
pub use Rattle.std.proofs.Common.{refl}

-- the code: the pointer is cast
abbrev casting : (handle held lent from to : Ty) → Fn
casting handle held lent from to = record {
  lifetimes = 1;
  outlives = [];
  ty_params = [];
  givens = 0;
  params = 1;
  locals = local (ty_ref (named 0) mut held) value_local ∷ local (ty_ref (named 0) mut handle) value_local
      ∷ local (ty_ref erased mut lent) value_local ∷ local ty_ptr value_local ∷ local ty_ptr value_local ∷ [];
  body = seq (block (seq (assign (place 3 []) (addr_of (place 1 (deref from ∷ []))))
      (seq (assign (place 4 []) (rv_opd (copy (place 3 [])))) (assign (place 2 []) (addr_of (place 4 (deref to ∷ []))))))) (
      seq (assign (place 0 []) (rv_opd (copy (place 2 [])))) return);
}

module _ (R X : RattleType) (one : One X.mir) (held : X.Denot → (Held R).Denot) (of : (Held R).Denot → X.Denot)
    (again : (h : (Held R).Denot) → held (of h) ≡ h)
    (same : (d : X.Denot) (b o : ℕ) → (mem X).own_at d b o ≡ (mem (Held R)).own_at (held d) b o) where
  abbrev casts : Ended
  casts = record {
    signature = record {
      lifetimes = 1;
      outlives = [];
      params = RefMutOf (0 ∷ []) tt (plain (λ _. X)) (λ _. one) ∷ [];
      result = RefMutOf (0 ∷ []) tt (plain (λ _. Held R)) (λ _. tt);
    };
    kept = (no, tt);
  }

  abbrev Kept : Type 0
  Kept = (h : (Held R).Denot) → (held (of h)).value ≡ h.value

  abbrev said : {M : Type 1} {𝓤 : Ura M} (𝓛 : Logic 𝓤) → Clauses 𝓤 casts
  said {𝓤 = 𝓤} 𝓛 κs a = record {
    ghost = Unit {0};
    requires = λ _. emp 𝓤;
    ensures = λ _ r _. sep 𝓤 (sem 𝓛 (follows X (Held R) a.0.ghost_name r.ghost_name of))
        (sep 𝓤 (fact 𝓤 (r.now.value ≡ (held a.0.now).value)) (fact 𝓤 Kept));
  }

  abbrev stays : Stays casts.signature.params casts.kept
  stays = (stay_dropped (mut_ref_to (0 ∷ []) tt (plain (λ _. X))) no, tt)

  module _ {M : Type 1} {𝓤 : Ura M} (𝓛 : Logic 𝓤) (κ : Lft) (q : Share) (rb ro : ℕ) (γ : GName) (d : X.Denot) where
    open 𝓛 use {H, A}

    abbrev self : MutBor X.Denot
    self = record { ref_ptr = (rb, ro); ghost_name = γ; now = d }

    abbrev Said : MutBor (Held R).Denot → Type 0
    Said lent = lent.now.value ≡ (held d).value

    abbrev bound : (walk_of 𝓛 casts stays (said 𝓛)).Ghost
    bound = (((κ, tt), (q, tt), tt, (self, tt), (vptr rb ro ∷ [], tt)), tt)

    abbrev Post : Val → SProp 𝓤
    Post = (walk_of 𝓛 casts stays (said 𝓛)).post bound

    back : (h : (Held R).Denot) → ent 𝓤 (sep 𝓤 (sem 𝓛 ((mem (Held R)).own_at h rb ro)) (sem 𝓛 ftrue))
        (sem 𝓛 ((mem X).own_at (of h) rb ro))
    back h = qed 𝓛 (‵ ((mem (Held R)).own_at h rb ro) ∷ ‵ ftrue ∷ []) ∵
        rewrite ! 0 ‵ (sym (same (of h) rb ro ∙ ap (λ (k : (Held R).Denot). (mem (Held R)).own_at k rb ro) (again h))) refl $
        keep ! (0 ∷ []) $ done !

    abbrev Lent : GName → SProp 𝓤
    Lent = Part 𝓛 X (Held R) of (named 0) κ q rb ro rb ro γ (sem 𝓛 ftrue) back (held d)

    leaving : (γ' : GName) → ent 𝓤 (Lent γ') (Post (vptr rb ro))
    leaving γ' =
        let lent : MutBor (Held R).Denot = record { ref_ptr = (rb, ro); ghost_name = γ'; now = held d } in
        qed 𝓛 ((‵ ((MutRef (named 0) κ (Held R)).own_val lent (vptr rb ro ∷ [])) ⊛ ‵ (flft κ q) ⊛ ‵ (follows X (Held R) γ γ' of))
        ∷ []) ∵ split3 ! $
        use0 𝓛 (raw (fact 𝓤 Kept)) (fact_i 𝓤 Kept (emp 𝓤) (λ h. ap (λ (k : (Held R).Denot). k.value) (again h))) $
        use0 𝓛 (raw (fact 𝓤 (Said lent))) (fact_i 𝓤 (Said lent) (emp 𝓤) refl) $ join ! $ move ! (3 ∷ 0 ∷ []) $ join ! $
        move ! (1 ∷ []) $ nothing ! $ nothing ! $ fjoin ! $ nothing ! $ move ! (4 ∷ 0 ∷ []) $ join ! $
        by ! (leaves 𝓛 casts stays (said 𝓛) bound (vptr rb ro) lent (tt, tt) (tt, tt))

    walk : (handle held_as lent from to : Ty) (C : Calls 𝓤 H) (Λ : Loops 𝓤 H)
        → ent 𝓤 (on_entry 𝓛 casts.signature (κ, tt) (q, tt) (self, tt) (vptr rb ro ∷ [], tt))
        (WpFn 𝓤 H C Λ (casting handle held_as lent from to) (vptr rb ro ∷ []) Post)
    walk handle held_as lent from to C Λ = let fn : Fn = casting handle held_as lent from to in
        qed 𝓛 ((‵ (flft κ q) ⊛ ‵ ftrue) ∷ ‵ (owns (MutRef (named 0) κ X ∷ []) (self, tt) (vptr rb ro ∷ [], tt)) ∷ []) ∵
        enter ! C Λ fn (vptr rb ro ∷ []) Post $ alloc_all ! (λ l. pass_all ! refl ((tt, tt), tt) $
        let En : Env 𝓤 H = env fn.locals l in
        move ! (1 ∷ []) $ fsplit ! $ fsplit3 ! $ drop ! $ move ! (3 ∷ []) $ split ! $ move ! (2 ∷ 3 ∷ 0 ∷ []) $
        first ! $ blocks ! $ sets ! (addr ! (through ! refl (stop !))) refl (tt, tt) $
        sets ! (of_opd ! (get ! refl)) refl (tt, tt) $ sets_last ! (addr ! (through ! refl (stop !))) refl (tt, tt) $
        exec ! C Λ En (after 1 fn.body) (at_ret En Post) $ sets ! (of_opd ! (get ! refl)) refl (tt, tt) $
        open_ref ! tt (mem X) {b = rb} {o = ro} $ rewrite ! 0 ‵ (same d rb ro) refl $ nothing ! $
        -- [nothing; what is held; the open borrow; obs; auth]
        move ! (2 ∷ 3 ∷ 4 ∷ 1 ∷ 0 ∷ []) $ group ! 5 $
        use1 𝓛 (later (some (λ (γ' : GName). raw (Lent γ'))))
        (lends_Part 𝓛 X (Held R) of (named 0) κ q rb ro rb ro γ (sem 𝓛 ftrue) back (X.coded.code d) (X.coded.code d) (held d)) $
        await ! tt $ pick ! (λ γ'. returns ! (look_at ! 0 refl) $ free_all ! refl $ keep ! (0 ∷ []) $ by ! (leaving γ')))

  pub lends : {M : Type 1} (𝓤 : Ura M) (𝓛 : Logic 𝓤) (𝓜 : Model 𝓤 𝓛.H) (𝓡 : Running 𝓤 𝓛.H 𝓜) {k : Callee}
      (handle held_as lent from to : Ty)
      → Closed 𝓤 𝓛.H (tables 𝓤 𝓛.H 𝓜 𝓡 𝓡.env).C (tables 𝓤 𝓛.H 𝓜 𝓡 𝓡.env).Λ k (casting handle held_as lent from to)
      → Meets 𝓛 casts.signature ((tables 𝓤 𝓛.H 𝓜 𝓡 𝓡.env).C k) (closing 𝓛 casts (said 𝓛))
  lends 𝓤 𝓛 𝓜 𝓡 {k} handle held_as lent from to closed =
      let 𝓣 = tables 𝓤 𝓛.H 𝓜 𝓡 𝓡.env in
      proved 𝓛 casts stays (said 𝓛) 𝓜 𝓡 (Goes-spent_ref 𝓛 1 (0 ∷ []) tt (plain (λ _. X)), tt) k
      (casting handle held_as lent from to) closed (λ κs. (mut_vals, tt)) (λ κs. (mut_Tells (named 0) κs.0 X, tt))
      (λ κs qs bounds a g are. via 𝓤 _ (fst∗ 𝓤 _ (emp 𝓤)) (walk 𝓛 κs.0 qs.0 a.0.ref_ptr.0 a.0.ref_ptr.1 a.0.ghost_name a.0.now
      handle held_as lent from to 𝓣.C 𝓣.Λ))
