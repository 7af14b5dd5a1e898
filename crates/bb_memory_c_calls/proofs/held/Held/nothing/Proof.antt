-- `nothing` owns nothing.
use Rattle.bb_memory_c_calls.proofs.Repr.{ !, Al, Goes-dropped, Held, List, None, Option, RattleType, SProp, Stays, Val, WpFn, [], a_type, agg, alloc_all, and_then, by, dnil, drop, emp, ent, enter, fact, fact_i, false, fjoin, flft, free_all, fsplit, ftrue, ghosts, handle_tells, held_in, id⊢, impl, inst_fn, keep, layouts, leaves, lit, look_at, move, no_more, nothing, null_ptr, owns, param, pass_all, plain, proved_at, qed, raw, refl, returns, sets, split, stay_dropped, subst, suffices, sym, tables, tnil, types_at, use0, walk_of, word, word_good, yes, ‵, ◌$◌, ◌++◌, ◌∵◌, ◌∷◌, ◌≡◌, ◌⊛◌}
use Rattle.bb_memory_c_calls.proofs.held.Held.nothing.Code as code
use Rattle.bb_memory_c_calls.proofs.held.Held.nothing.Statement.{statement}
use Rattle.bb_memory_c_calls.specs.contracts.held.Held.nothing.{clauses, ended}
use Rattle.bb_memory_c_calls.specs.contracts.held.Held.nothing.Key.{name as #self}
use Rattle.std.proofs.alloc.Global.TheLaws as heap_laws
use Rattle.std.specs.contracts.alloc.Global as heap
use types.Run as run

abbrev al : Al
al = record { row = heap.the_row; laws = heap_laws.the_row_laws; g = ghosts; d = impl [] tnil dnil; drops = impl [] tnil dnil }

pub nothing_spec : {M : Type 1} → statement M
nothing_spec 𝓤 𝓛 𝓜 𝓡 wired T L =
    let H = 𝓛.H in let 𝓣 = tables 𝓤 H 𝓜 𝓡 𝓡.env in let R : RattleType = param 0 T in let En = ended T in
    let c = clauses T 𝓛 𝓜.mem 𝓡.returns in
    let inst = layouts (a_type ∷ []) (T, tt) in let fn = inst_fn inst code.function in let Z : RattleType = heap.the_row in
    let hs : Stays En.signature.params En.kept = (stay_dropped (plain (λ _. Z)) yes, tt) in
    proved_at 𝓛 En hs c 𝓜 𝓡 (Goes-dropped 𝓛 1 (plain (λ _. Z)) yes (λ κs x w. refl), tt) (#self inst) fn
    (code.unfolded 𝓤 H 𝓜 𝓡 wired (T, tt)) (λ z are.
    let κs = z.0.0 in let qs = z.0.1 in let Post : Val → SProp 𝓤 = (walk_of 𝓛 En hs c).post z in
    let Run : List Val → SProp 𝓤 = λ ws. WpFn 𝓤 H 𝓣.C 𝓣.Λ fn ws Post in
    qed 𝓛 (((‵ (flft κs.0 qs.0) ⊛ ‵ ftrue) ⊛ ‵ (owns (types_at En.signature.params κs) z.0.3 z.0.4)) ∷ raw
    ((c κs z.0.3).requires z.1) ∷ []) ∵ split ! $ move ! (1 ∷ []) $ fsplit ! $
    handle_tells al ! z.0.3.0 z.0.4.0 (λ h ws fits. drop ! $
    let d : (Held R).Denot = record { at = null_ptr; made = false; value = None } in
    let made : Val = word null_ptr false in let gone : Option R.Denot = None in
    suffices ! (Run (h ∷ [])) (subst (λ (us : List Val). ent 𝓤 (Run (h ∷ [])) (Run us)) (sym (λ i. ws i ++ []))
    (id⊢ 𝓤 (Run (h ∷ [])))) $
    enter ! 𝓣.C 𝓣.Λ fn (h ∷ []) Post $ alloc_all ! (λ l. pass_all ! refl (fits, tt) $
    sets ! (agg ! (and_then ! (lit ! tt) (and_then ! (run.false_lit !) (no_more !)))) refl (word_good R null_ptr false) $
    nothing ! $ held_in R ! d $
    use0 𝓛 (raw (fact 𝓤 (gone ≡ None))) (fact_i 𝓤 (gone ≡ None) (emp 𝓤) refl) $ nothing ! $ nothing ! $ fjoin ! $
    returns ! (look_at ! 0 refl) $ free_all ! refl $ keep ! (4 ∷ 0 ∷ 2 ∷ 1 ∷ []) $
    by ! (leaves 𝓛 En hs c z made d (tt, tt) (tt, tt)))))
