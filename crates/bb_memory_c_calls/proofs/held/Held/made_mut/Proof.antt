-- `made_mut` lends the value in its place. Assumes `Logic`.
use Rattle.bb_memory_c_calls.proofs.Repr.{ !, Clauses, Env, Fml, Fn, GName, Goes-spent_ref, Held, Item, Lft, List, Logic, MatchOption, Model, MutBor, MutRef, None, Option, Part, RattleType, Running, SProp, Share, Some, Some-of, Stays, T, Ura, Val, WpFn, [], a_type, addr, after, agg, alloc_all, and_then, at_ret, await, block_ptr, blocks, branches, by, cell_at, closes, done, drop, emp, ent, enter, env, exec, fact, fact_i, false, first, fjoin, fld, flft, fobs, follows, fpack, free_all, fres, fsep, fsplit, fsplit3, fst∗, ftrue, full_share, get, ghosts, group, held_in, held_out, inst_fn, join, keep, later, layouts, leaves, lends_Part, lit, lit<, live, load, lone, look_at, look_in, mean, mem, move, mut_Tells, mut_ref_to, mut_vals, named, no, no_more, none_of, nothing, of_list, of_opd, on_entry, opens, owns, owns_either, param, part_at, pass_all, pick, plain, proved, qed, raw, refl, returns, returns_within, rewrite, sem, sep, sets, sets_last, skips, some, split, split3, stay_dropped, stop, sub, sym, tables, through, true, un, use0, use1, via, vptr, walk_of, whole, word, ‵, ℕ, ◌$◌, ◌∵◌, ◌∷◌, ◌≡◌, ◌⊛◌}
use Rattle.bb_memory_c_calls.proofs.held.Held.made_mut.Code as code
use Rattle.bb_memory_c_calls.proofs.held.Held.made_mut.Statement.{statement}
use Rattle.bb_memory_c_calls.specs.Handles.{heap}
use Rattle.bb_memory_c_calls.specs.contracts.held.Held.made_mut.{clauses, ended}
use Rattle.bb_memory_c_calls.specs.contracts.held.Held.made_mut.Key.{name as #self}
use Rattle.std.specs.contracts.option.Option as OP
use denote.Follow.{follows_by, such_by}
use denote.Memory.{part_of}
use mir.Raw.{raw as bare}

module _ (T : RattleType) {M : Type 1} {𝓤 : Ura M} (𝓛 : Logic 𝓤) (𝓜 : Model 𝓤 𝓛.H) (𝓡 : Running 𝓤 𝓛.H 𝓜) where
  open 𝓛 use {H, A}

  abbrev R : RattleType
  R = param 0 T

  abbrev X : RattleType
  X = Held R

  abbrev fn : Fn
  fn = inst_fn (layouts (a_type ∷ []) (T, tt)) code.function

  abbrev stays : Stays (ended T).signature.params (ended T).kept
  stays = (stay_dropped (mut_ref_to (0 ∷ []) tt (plain (λ _. X))) no, tt)

  abbrev said : Clauses 𝓤 (ended T)
  said = clauses T 𝓛 𝓜.mem 𝓡.returns

  module _ (z : (walk_of 𝓛 (ended T) stays said).Ghost) where
    abbrev self : MutBor X.Denot
    self = z.0.3.0

    abbrev bound : (walk_of 𝓛 (ended T) stays said).Ghost
    bound = ((z.0.0, z.0.1, z.0.2, z.0.3, (mut_vals self, tt)), z.1)

    abbrev Post : Val → SProp 𝓤
    Post = (walk_of 𝓛 (ended T) stays said).post bound

    abbrev κ : Lft
    κ = z.0.0.0

    abbrev q : Share
    q = z.0.1.0

    abbrev name : GName
    name = self.ghost_name

    abbrev d : X.Denot
    d = self.now

    abbrev rb : ℕ
    rb = self.ref_ptr.0

    abbrev ro : ℕ
    ro = self.ref_ptr.1

    abbrev Lent : RattleType
    Lent = MutRef (named 0) κ R

    abbrev Said : Option (MutBor R.Denot) → Type 0
    Said r = MatchOption r (d.value ≡ None) (λ lent. d.value ≡ Some lent.now)

    abbrev ending : ℕ → ℕ → R.Denot → X.Denot
    ending b o w = record { at = block_ptr b o; made = true; value = Some w }

    -- the right to free it, and the handle
    abbrev Rest : ℕ → ℕ → Fml
    Rest b o = fsep (ghosts.dealloc_token heap (bare (lone R.mir)) (block_ptr b o))
        (cell_at full_share X.mir (word (block_ptr b o) true ∷ []) rb ro)

    abbrev others : Item 𝓤
    others = ‵ (flft z.0.0.1.0 z.0.1.1.0) ⊛ ‵ ftrue

    -- the tokens
    abbrev tokens : Item 𝓤
    tokens = ‵ (flft κ q) ⊛ others

    -- how the handle ends
    abbrev Ends : Type 0
    Ends = (s : (R.Denot → X.Denot) × X.Denot) × ((w : R.Denot) → (s.0 w).value ≡ Some w) × (s.1.value ≡ d.value)

    abbrev ends : mathlib.Core.Option.Option GName → Ends → Fml
    ends lent s = follows_by X.Denot R.Denot X.coded.code R.coded.code name lent s.0.0 s.0.1

    back : (b o : ℕ) (w : R.Denot) → ent 𝓤 (sep 𝓤 (sem 𝓛 ((mem R).own_at w b o)) (sem 𝓛 (Rest b o)))
        (sem 𝓛 ((mem X).own_at (ending b o w) rb ro))
    unfolding part_of
    back b o w =
        let v : Val = word (block_ptr b o) true in
        qed 𝓛 (‵ (part_at R full_share w b o) ∷ ‵ (Rest b o) ∷ []) ∵ move ! (1 ∷ []) $ fsplit ! $ move ! (2 ∷ 0 ∷ []) $ fjoin ! $
        held_in R ! (ending b o w) $ move ! (1 ∷ 0 ∷ []) $ fjoin ! $
        fpack ! (List Val) (λ us. fsep (cell_at full_share X.mir us rb ro) (X.own_val (ending b o w) us)) (v ∷ []) $ done !

    abbrev Lends : (b o : ℕ) (x : R.Denot) → GName → SProp 𝓤
    Lends b o x = Part 𝓛 X R (ending b o) (named 0) κ q rb ro b o name (sem 𝓛 (Rest b o)) (back b o) x

    left_none : (last : X.Denot) → last.value ≡ d.value → d.value ≡ None
        → ent 𝓤 (sep 𝓤 (A.obs name (X.coded.code last)) (mean 𝓛 tokens)) (Post (live 0 (of_list [])))
    unfolding such_by follows_by
    left_none last as_it_was none =
        qed 𝓛 (‵ (fobs name (X.coded.code last)) ∷ tokens ∷ []) ∵
        use1 𝓛 (‵ (fres name (X.coded.code last))) (𝓛.names.obs-res name (X.coded.code last)) $
        fpack ! Ends (ends mathlib.Core.Option.none) ((ending rb ro, last), (λ w. refl), as_it_was) $
        use0 𝓛 (raw (fact 𝓤 (Said None))) (fact_i 𝓤 (Said None) (emp 𝓤) none) $ join ! $
        use0 𝓛 (‵ ((OP.the_row Lent).own_val None (live 0 (of_list []) ∷ []))) (none_of 𝓛 Lent) $
        nothing ! $ nothing ! $ fjoin ! $ move ! (3 ∷ []) $
        by ! (leaves 𝓛 (ended T) stays said bound (live 0 (of_list [])) None (tt, tt) (tt, tt))

    left_some : (b o : ℕ) (x : R.Denot) → d.value ≡ Some x → (γ : GName)
        → ent 𝓤 (sep 𝓤 (Lends b o x γ) (mean 𝓛 others)) (Post (live 1 (of_list (vptr b o ∷ []))))
    unfolding such_by follows_by
    left_some b o x some_x γ =
        let to : MutBor R.Denot = record { ref_ptr = (b, o); ghost_name = γ; now = x } in
        qed 𝓛 ((‵ (Lent.own_val to (vptr b o ∷ [])) ⊛ ‵ (flft κ q) ⊛ ‵ (follows X R name γ (ending b o)))
        ∷ others ∷ []) ∵ split3 ! $
        use1 𝓛 (‵ ((OP.the_row Lent).own_val (Some to) (live 1 (of_list (vptr b o ∷ [])) ∷ []))) (Some-of 𝓛 Lent to (vptr b o)) $
        move ! (2 ∷ []) $
        fpack ! Ends (ends (mathlib.Core.Option.some γ)) ((ending b o, d), (λ w. refl), refl) $
        use0 𝓛 (raw (fact 𝓤 (Said (Some to)))) (fact_i 𝓤 (Said (Some to)) (emp 𝓤) some_x) $ join ! $
        move ! (1 ∷ []) $ nothing ! $ nothing ! $ fjoin ! $ move ! (3 ∷ 4 ∷ []) $ join ! $
        by ! (leaves 𝓛 (ended T) stays said bound (live 1 (of_list (vptr b o ∷ []))) (Some to) (tt, tt) (tt, tt))

    walk : ent 𝓤 (on_entry 𝓛 (ended T).signature z.0.0 z.0.1 z.0.3 bound.0.4)
        (WpFn 𝓤 H (tables 𝓤 H 𝓜 𝓡 𝓡.env).C (tables 𝓤 H 𝓜 𝓡 𝓡.env).Λ fn (mut_vals self) Post)
    walk = let C = (tables 𝓤 H 𝓜 𝓡 𝓡.env).C in let Λ = (tables 𝓤 H 𝓜 𝓡 𝓡.env).Λ in
        qed 𝓛 (tokens ∷ ‵ (owns (MutRef (named 0) κ X ∷ []) z.0.3 bound.0.4) ∷ []) ∵
        enter ! C Λ fn (mut_vals self) Post $ alloc_all ! (λ l. pass_all ! refl ((tt, tt), tt) $
        let En : Env 𝓤 H = env fn.locals l in
        move ! (1 ∷ []) $ fsplit ! $ fsplit3 ! $ drop ! $ move ! (3 ∷ []) $ split ! $ move ! (2 ∷ 3 ∷ 0 ∷ []) $
        opens ! tt X {h = d} rb ro (λ vs. move ! (1 ∷ []) $ held_out R ! d vs (λ ws.
        rewrite ! 1 (λ (us : List Val). ‵ (cell_at full_share X.mir us rb ro)) ws refl $
        owns_either R ! d.made d.at d.value
        (λ no_made none. let v : Val = word d.at false in
        let again : X.Denot = record { at = d.at; made = false; value = None } in
        rewrite ! 0 (λ (us : List Val). ‵ (cell_at full_share X.mir us rb ro)) (λ i. word d.at (no_made i) ∷ []) refl $
        sets ! (of_opd ! (load ! (through ! refl (fld ! refl (stop !))) (look_in ! 0 (sub ! 1 refl (whole !))))) refl (tt, tt) $
        sets ! (un ! (get ! refl) tt) refl (tt, tt) $
        first ! $ branches ! (get ! refl)
        (λ _. sets ! (agg ! (and_then ! (lit ! tt) (no_more !))) refl (tt, (record { fits = lit< tt }, tt)) $
        nothing ! $ held_in R ! again $ move ! (1 ∷ 0 ∷ []) $ closes ! tt X again (v ∷ []) rb ro $
        returns_within ! Post refl (look_at ! 0 refl) $ free_all ! refl $ keep ! (0 ∷ 2 ∷ 3 ∷ []) $ group ! 3 $
        by ! (left_none again (sym none) none))
        (λ wrong. absurd wrong))
        (λ b o x at_b yes_made some_x. let v : Val = word (block_ptr b o) true in
        rewrite ! 1 (λ (us : List Val). ‵ (cell_at full_share X.mir us rb ro)) (λ i. word (at_b i) (yes_made i) ∷ []) refl $
        sets ! (of_opd ! (load ! (through ! refl (fld ! refl (stop !))) (look_in ! 1 (sub ! 1 refl (whole !))))) refl (tt, tt) $
        sets ! (un ! (get ! refl) tt) refl (tt, tt) $
        first ! $ branches ! (get ! refl) (λ wrong. absurd wrong)
        (λ _. skips ! $ exec ! C Λ En (after 3 fn.body) (at_ret En Post) $ fsplit ! $
        -- [what was made; the right to free it; the handle; the open borrow; obs; auth]
        sets ! (of_opd ! (load ! (through ! refl (fld ! refl (stop !))) (look_in ! 2 (sub ! 0 refl (whole !))))) refl (tt, tt) $
        first ! $ blocks ! $ sets_last ! (addr ! (through ! refl (stop !))) refl (tt, tt) $
        exec ! C Λ En (after 5 fn.body) (at_ret En Post) $
        sets ! (of_opd ! (get ! refl)) refl (tt, tt) $
        sets ! (agg ! (and_then ! (lit ! tt) (and_then ! (get ! refl) (no_more !)))) refl
        (tt, (record { fits = lit< tt }, (tt, tt))) $
        move ! (1 ∷ 2 ∷ []) $ fjoin ! $ move ! (2 ∷ 3 ∷ 4 ∷ 1 ∷ 0 ∷ []) $ group ! 5 $
        use1 𝓛 (later (some (λ (γ : GName). raw (Lends b o x γ))))
        (lends_Part 𝓛 X R (ending b o) (named 0) κ q rb ro b o name (sem 𝓛 (Rest b o)) (back b o)
        (X.coded.code d) (X.coded.code d) x) $
        await ! tt $ pick ! (λ γ. returns ! (look_at ! 0 refl) $ free_all ! refl $ keep ! (0 ∷ 1 ∷ []) $ join ! $
        by ! (left_some b o x some_x γ)))))))

pub made_mut_spec : {M : Type 1} → statement M
made_mut_spec 𝓤 𝓛 𝓜 𝓡 wired T L =
    proved 𝓛 (ended T) (stays T 𝓛 𝓜 𝓡) (said T 𝓛 𝓜 𝓡) 𝓜 𝓡 (Goes-spent_ref 𝓛 2 (0 ∷ []) tt (plain (λ _. Held (param 0 T))), tt)
    (#self (layouts (a_type ∷ []) (T, tt))) (fn T 𝓛 𝓜 𝓡) (code.unfolded 𝓤 𝓛.H 𝓜 𝓡 wired (T, tt)) (λ κs. (mut_vals, tt))
    (λ κs. (mut_Tells (named 0) κs.0 (Held (param 0 T)), tt)) (λ κs qs bounds a g are.
    via 𝓤 _ (fst∗ 𝓤 _ ((said T 𝓛 𝓜 𝓡 κs a).requires g)) (walk T 𝓛 𝓜 𝓡 ((κs, qs, bounds, a, (mut_vals a.0, tt)), g)))
