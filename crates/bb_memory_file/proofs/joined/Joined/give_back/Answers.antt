use Rattle.bb_memory_file.proofs.FileCaches.{cached_more, cached_while, in_use_apart, unheld_apart}
use Rattle.bb_memory_file.proofs.FileEnds.{deallocate_still, keeps_still}
use Rattle.bb_memory_file.proofs.FileNotes.{after_cached, after_deallocate, below_by, in_use_clear, within}
use Rattle.bb_memory_file.proofs.joined.Joined.give_back.Goals as goal
use Rattle.bb_memory_file.specs.FileNotes.{AreCached, Cached, InUse, Unheld}
use Rattle.std.proofs.Common.{List, arith, refl, subst, sym, ℕ}
use Rattle.std.proofs.lemmas.Grind.{common_steps}
use Rattle.std.specs.Prelude.{slice_set}

pub invariant_of-self : goal.invariant_of-self
invariant_of-self g c =
    let was = rw (← c.self.view_is) at c.requires in (
      after_cached _ c.self.inside.notes.items c.args.bucket c.self.invariant.0 was,
      subst (λ (xs : List ℕ). AreCached (slice_set c.self.inside.notes.items c.args.bucket Cached) xs)
          (sym c.push_reserved.ensures.items)
          (cached_more c.self.inside.notes.items c.self.inside.cached.items c.args.bucket InUse c.self.invariant.1 was
          in_use_apart),
      grind (arith, common_steps),
      grind (arith, common_steps),
      c.self.invariant.4,
      c.self.invariant.5,
    )

pub deallocate-requires-clause-below : goal.deallocate-requires-clause-below
deallocate-requires-clause-below g c =
    below_by _ c.self.inside.notes.items c.self.invariant.0 c.args.bucket InUse
    (rw (← c.self.view_is) at c.requires)

pub deallocate-requires-clause-clear : goal.deallocate-requires-clause-clear
deallocate-requires-clause-clear g c =
    in_use_clear _ c.self.inside.notes.items c.self.invariant.0 c.args.bucket
    (rw (← c.self.view_is) at c.requires)

pub index_mut-requires-else-len-self : goal.index_mut-requires-else-len-self
index_mut-requires-else-len-self g c =
    within c.self.inside.notes.items c.args.bucket _ _ c.self.inside.notes.ok.0
    (rw (← c.self.view_is) at c.requires)

pub invariant_of-self-else-len-self : goal.invariant_of-self-else-len-self
invariant_of-self-else-len-self g c =
    let was = rw (← c.self.view_is) at c.requires in (
      after_deallocate _ _ c.self.inside.notes.items c.self.invariant.0 c.args.bucket InUse was c.deallocate.ensures,
      cached_while c.self.inside.notes.items c.self.inside.cached.items c.args.bucket InUse Unheld c.self.invariant.1 was
          in_use_apart unheld_apart,
      c.self.invariant.2,
      c.self.invariant.3,
      c.self.invariant.4,
      keeps_still _ _ _ c.self.inside.ends.items c.self.invariant.5 (deallocate_still _ _ c.args.bucket c.deallocate.ensures),
    )

pub returns-else-len-self : goal.returns-else-len-self
returns-else-len-self g c = rw (← c.self.view_is) (record {
  free = (λ _. omega arith, λ _. refl);
  returned = record {
    cached = λ less. absurd (omega arith);
    returned = λ full. (
      c.deallocate.ensures,
      λ i. record {
        words = c.deallocate.new.words;
        notes = slice_set c.self.inside.notes.items c.args.bucket Unheld;
        hint = c.follow_return.ensures i;
        cached = c.self.inside.cached.items;
        most = c.self.inside.most;
        depth = c.self.inside.depth;
        ends = c.self.inside.ends.items;
      },
    );
  };
})

pub push_reserved-requires : goal.push_reserved-requires
push_reserved-requires g c =
    let less = c.if-len-self.true in let is = c.len.ensures in let room = c.self.invariant.3 in omega (arith, less, is, room)
