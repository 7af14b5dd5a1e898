use Rattle.bb_memory_index_set.specs.IndexSets.{Has}
use Rattle.bb_memory_owned.proofs.Pools.{held_bucket_below}
use Rattle.bb_memory_owned.proofs.pool_allocator.bucket_pool.BucketPool.held_number.Goals as goal
use Rattle.bb_memory_owned.specs.Pool.{bucket_held_at, held_at_bucket}
use Rattle.std.proofs.Common.{refl, rules, subst, sym, ◌∙◌}
use Rattle.std.proofs.lemmas.Bool.{false≢true}

pub returns-in_err-number-clause-held : goal.returns-in_err-number-clause-held
returns-in_err-number-clause-held g c = rw c.from_residual.ensures (
  λ no. absurd (false≢true no),
  λ holds. absurd (c.in_err-number.ensures.none
      (held_bucket_below _ c.args.place c.self.invariant.0.flags (rw (← c.self.view_is) at holds))),
)

pub returns-then-not-has-clause-held : goal.returns-then-not-has-clause-held
returns-then-not-has-clause-held g c = (
  λ no. absurd (false≢true no),
  λ holds.
      let (i, has, there) = bucket_held_at _ c.args.place (rw (← c.self.view_is) at holds) in
      let same = c.in_ok-number.ensures.one i there in
      let yes = c.has.ensures.1 (subst (Has (g.S.IndexSet.numbers c.self.inside.held)) same has) in
      absurd (false≢true (sym c.if-not-has.true ∙ yes)),
)

pub returns-clause-held : goal.returns-clause-held
returns-clause-held g c = (
  λ yes. rw (← c.self.view_is)
      (held_at_bucket _ c.args.place c.in_ok-number.field-0 (c.has.ensures.0 (search rules)) c.in_ok-number.ensures.there),
  λ holds. refl,
)
