-- `into_loose` returns the box that was owned.
use Rattle.bb_memory_c_calls.proofs.Repr.{ !, Al, Goes-blank, Goes-dropped, Good, Held, List, Loose, None, RattleType, SProp, Some, Some-of, Stays, Val, WpFn, [], a_type, after, agg, alloc_all, and_then, and_tt, at_ret, block_ptr, both, branches, by, dnil, emp, ent, enter, env, exec, fact, fact_i, false, first, fjoin, fld, flft, free_all, fsplit, ftrue, get, get_in, ghosts, handle_tells, held_out, id⊢, impl, inst_fn, keep, layout, layouts, leaves, lit, lit<, live, look_at, loose_good, loose_in, move, no, no_more, none_of, nothing, of_opd, owns, owns_either, param, pass_all, plain, proved_at, ptr_good, qed, raw, refl, returns, sets, sets_last, split, stay_dropped, stop, sub, subst, suffices, sym, tables, tnil, true, type_at, types_at, use0, use1, vcons, vnil, vptr, walk_of, whole, word, word_good, yes, ‵, ◌$◌, ◌++◌, ◌∙◌, ◌∵◌, ◌∷◌, ◌≡◌, ◌⊛◌}
use Rattle.bb_memory_c_calls.proofs.held.Held.into_loose.Code as code
use Rattle.bb_memory_c_calls.proofs.held.Held.into_loose.Statement.{statement}
use Rattle.bb_memory_c_calls.specs.contracts.held.Held.into_loose.{clauses, ended}
use Rattle.bb_memory_c_calls.specs.contracts.held.Held.into_loose.Key.{name as #self}
use Rattle.std.proofs.alloc.Global.TheLaws as heap_laws
use Rattle.std.specs.contracts.alloc.Global as heap

abbrev al : Al
al = record { row = heap.the_row; laws = heap_laws.the_row_laws; g = ghosts; d = impl [] tnil dnil; drops = impl [] tnil dnil }

pub into_loose_spec : {M : Type 1} → statement M
into_loose_spec 𝓤 𝓛 𝓜 𝓡 wired T L =
    let H = 𝓛.H in let 𝓣 = tables 𝓤 H 𝓜 𝓡 𝓡.env in let R : RattleType = param 0 T in let En = ended T in
    let c = clauses T 𝓛 𝓜.mem 𝓡.returns in
    let inst = layouts (a_type ∷ []) (T, tt) in let fn = inst_fn inst code.function in
    let Z : RattleType = heap.the_row in let LZ = heap_laws.the_row_laws in let Lr : RattleType = Loose R Z LZ ghosts in
    let hs : Stays En.signature.params En.kept =
    (stay_dropped (plain (λ _. Held R)) no, (stay_dropped (plain (λ _. Z)) yes, tt)) in
    proved_at 𝓛 En hs c 𝓜 𝓡 (
      Goes-blank 𝓛 1 (plain (λ _. Held R)) no (λ κs x w. tt),
      (Goes-dropped 𝓛 1 (plain (λ _. Z)) yes (λ κs x w. refl), tt),
    ) (#self inst) fn (code.unfolded 𝓤 H 𝓜 𝓡 wired (T, tt))
    (λ z are.
    let κs = z.0.0 in let qs = z.0.1 in let d = z.0.3.0 in let a = z.0.3.1.0 in
    let Post : Val → SProp 𝓤 = (walk_of 𝓛 En hs c).post z in
    let Run : List Val → SProp 𝓤 = λ ws. WpFn 𝓤 H 𝓣.C 𝓣.Λ fn ws Post in
    let Out : RattleType = type_at En.signature.result κs in
    qed 𝓛 (((‵ (flft κs.0 qs.0) ⊛ ‵ ftrue) ⊛ ‵ (owns (types_at En.signature.params κs) z.0.3 z.0.4)) ∷ raw
    ((c κs z.0.3).requires z.1) ∷ []) ∵ split ! $ move ! (1 ∷ []) $ fsplit ! $
    held_out R ! d z.0.4.0 (λ ws. move ! (1 ∷ []) $ fsplit ! $ handle_tells al ! a z.0.4.1.0 (λ h es fits. move ! (2 ∷ []) $
    let begun : (w : Val) → z.0.4.0 ≡ w ∷ [] → ent 𝓤 (Run (w ∷ h ∷ [])) (Run (z.0.4.0 ++ (z.0.4.1.0 ++ []))) = λ w e.
    subst (λ (us : List Val). ent 𝓤 (Run (w ∷ h ∷ [])) (Run us)) (sym (λ i. e i ++ (es i ++ []))) (id⊢ 𝓤 (Run (w ∷ h ∷ []))) in
    -- [what is owned; the heap; nothing; the tokens; the `requires`]
    owns_either R ! d.made d.at d.value
    (λ no_made none. let w : Val = word d.at false in
    suffices ! (Run (w ∷ h ∷ [])) (begun w (ws ∙ (λ i. word d.at (no_made i) ∷ []))) $
    enter ! 𝓣.C 𝓣.Λ fn (w ∷ h ∷ []) Post $
    alloc_all ! (λ l. pass_all ! refl (word_good R d.at false, (fits, tt)) $ let Ev = env fn.locals l in
    sets ! (of_opd ! (get_in ! (fld ! refl (stop !)) (sub ! 0 refl (whole !)))) refl (ptr_good d.at) $
    sets ! (of_opd ! (get_in ! (fld ! refl (stop !)) (sub ! 1 refl (whole !)))) refl (tt, tt) $
    sets ! (of_opd ! (get ! refl)) refl (tt, tt) $
    first ! $ branches ! (get ! refl) (λ wrong. absurd wrong)
    (λ _. sets_last ! (agg ! (and_then ! (lit ! tt) (no_more !))) refl (tt, (record { fits = lit< tt }, tt)) $
    exec ! 𝓣.C 𝓣.Λ Ev (after 4 fn.body) (at_ret Ev Post) $
    sets ! (of_opd ! (get ! refl)) refl (tt, (record { fits = lit< tt }, tt)) $
    use0 𝓛 (‵ (Out.own_val None (live 0 vnil ∷ []))) (none_of 𝓛 Lr) $
    use0 𝓛 (raw (fact 𝓤 (d.value ≡ None))) (fact_i 𝓤 (d.value ≡ None) (emp 𝓤) none) $
    nothing ! $ nothing ! $ fjoin ! $ nothing ! $ fjoin ! $
    returns ! (look_at ! 0 refl) $ free_all ! refl $ keep ! (5 ∷ 0 ∷ 2 ∷ 1 ∷ []) $
    by ! (leaves 𝓛 En hs c z (live 0 vnil) None (tt, (tt, tt)) (tt, (tt, tt))))))
    (λ b o x at_b yes_made is. let w : Val = word (block_ptr b o) true in let made : Val = both (vptr b o) h in
    let typed = loose_good R Z LZ ghosts b o h fits in
    let v₁ : Val = live 1 (vcons made vnil) in let r : Lr.Denot = record { at = block_ptr b o; alloc = a; value = x } in
    let good : Good (layout Out) v₁ = (and_tt _ typed.0, (record { fits = lit< tt }, (typed.1, tt))) in
    suffices ! (Run (w ∷ h ∷ [])) (begun w (ws ∙ (λ i. word (at_b i) (yes_made i) ∷ []))) $
    enter ! 𝓣.C 𝓣.Λ fn (w ∷ h ∷ []) Post $
    alloc_all ! (λ l. pass_all ! refl ((tt, (tt, (tt, tt))), (fits, tt)) $ let Ev = env fn.locals l in
    sets ! (of_opd ! (get_in ! (fld ! refl (stop !)) (sub ! 0 refl (whole !)))) refl (tt, tt) $
    sets ! (of_opd ! (get_in ! (fld ! refl (stop !)) (sub ! 1 refl (whole !)))) refl (tt, tt) $
    sets ! (of_opd ! (get ! refl)) refl (tt, tt) $
    first ! $ branches ! (get ! refl)
    (λ _. sets ! (agg ! (and_then ! (get ! refl) (and_then ! (get ! refl) (no_more !)))) refl typed $
    sets_last ! (agg ! (and_then ! (lit ! tt) (and_then ! (get ! refl) (no_more !)))) refl good $
    exec ! 𝓣.C 𝓣.Λ Ev (after 4 fn.body) (at_ret Ev Post) $
    sets ! (of_opd ! (get ! refl)) refl good $ loose_in R Z LZ ghosts ! b o h a x $
    use1 𝓛 (‵ (Out.own_val (Some r) (v₁ ∷ []))) (Some-of 𝓛 Lr r made) $
    use0 𝓛 (raw (fact 𝓤 (d.value ≡ Some x))) (fact_i 𝓤 (d.value ≡ Some x) (emp 𝓤) is) $
    nothing ! $ nothing ! $ fjoin ! $ nothing ! $ fjoin ! $
    returns ! (look_at ! 0 refl) $ free_all ! refl $ keep ! (4 ∷ 0 ∷ 2 ∷ 1 ∷ []) $
    by ! (leaves 𝓛 En hs c z v₁ (Some r) (tt, (tt, tt)) (tt, (tt, tt))))
    (λ wrong. absurd wrong))))))
