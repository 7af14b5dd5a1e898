use Rattle.bb_memory_c.proofs.InUse.{flag-tells-in-use, tells-in-use}
use Rattle.bb_memory_c.proofs.shared_pool.JoinedPool.is_out.Goals as goal
use Rattle.bb_memory_c.specs.SharedPools.{AreListed}
use Rattle.bb_memory_shared_pools.specs.SharedPoolCaching.{CachingParty}
use Rattle.std.proofs.Common.{List, ap, subst, sym, ◌∙◌}
use Rattle.std.specs.Prelude.{Bool, slice_get}

pub returns-in-Some-clause-value : goal.returns-in-Some-clause-value
returns-in-Some-clause-value c =
    let list = c.self.inside.in_use.items in
    let at = ap (λ (l : List Bool). slice_get l c.args.number) c.deref.ensures.value in
    let listed = subst (λ (j : CachingParty). AreListed j j.most list) c.self.view_is c.self.invariant.listed in
    tells-in-use _ list c.args.number _ listed (sym at ∙ sym c.entry.ensures ∙ c.in-Some.is)

pub returns-in-None-clause-value : goal.returns-in-None-clause-value
returns-in-None-clause-value c =
    let joined = c.args.self.now in
    let list = c.self.inside.in_use.items in
    let at = ap (λ (l : List Bool). slice_get l c.args.number) c.deref.ensures.value in
    let listed = subst (λ (j : CachingParty). AreListed j j.most list) c.self.view_is c.self.invariant.listed in
    flag-tells-in-use joined list c.args.number c.is_held.result c.invariant.ensures.few listed c.requires
    (sym at ∙ sym c.entry.ensures ∙ c.in-None.is) (rw c.self.view_is at c.is_held.ensures.value)
