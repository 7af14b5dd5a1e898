use Rattle.bb_memory_file.proofs.FileFlushes.{flushed_with, less_first, less_second}
use Rattle.bb_memory_file.proofs.joined.Joined.cache.Goals.{else-most-buckets, then-most-buckets}
use Rattle.bb_memory_file.proofs.joined.Joined.cache.Goals as goal
use Rattle.bb_memory_file.specs.FileNotes.{AreCached, Flushes, JoinedParty}
use Rattle.std.proofs.Common.{List, ap, arith, rules, subst, sym, ℕ, ◌∙◌, ◌≡◌}
use Rattle.std.specs.Prelude.{if◌then◌else◌, nat_lt}

pub returns-clause-caches : goal.returns-clause-caches
returns-clause-caches g c =
    let old = c.args.self.now in
    let all = (g.W.Words.log old.words).scene.buckets in
    let same : c.buckets-buckets.result ≡ all =
    c.buckets-buckets.ensures ∙ ap (λ (p : JoinedParty g.row.W.Denot). (g.W.Words.log p.words).scene.buckets) c.self.view_is in
    let most = c.if-most-buckets.most in
    let least : most ≡ (if nat_lt c.args.most all then c.args.most else all) =
    elim c.if-most-buckets.branch [
      | then-most-buckets w ↦ less_first c.args.most _ all most same w.if-most-buckets.true w.most-is
      | else-most-buckets w ↦ less_second c.args.most _ all most same w.if-most-buckets.false w.most-is
    ] in
    let later = flushed_with g.W.Words.log old c.flush.new.self _ most c.flush.ensures (λ i. record {
      words = (c.self-2.view_is i).words;
      notes = (c.self-2.view_is i).notes;
      hint = (c.self-2.view_is i).hint;
      cached = (c.in_ok-room.ensures.items ∙ sym (ap (λ (p : JoinedParty g.row.W.Denot). p.cached) c.flush.ensures.party)) i;
      most = most;
      depth = (c.self-2.view_is i).depth;
      ends = (c.self-2.view_is i).ends;
    }) in
    subst (λ (n : ℕ). Flushes g.W.Words.log (record old { most = n }) (record {
      words = c.self-2.inside.words;
      notes = c.self-2.inside.notes.items;
      hint = c.self-2.inside.hint;
      cached = c.in_ok-room.room.items;
      most = most;
      depth = c.self-2.inside.depth;
      ends = c.self-2.inside.ends.items;
    })) least later

pub invariant_of-self : goal.invariant_of-self
invariant_of-self g c =
    let none : c.self-2.inside.cached.items ≡ c.in_ok-room.room.items =
    ap (λ (p : JoinedParty g.row.W.Denot). p.cached) (c.self-2.view_is ∙ c.flush.ensures.party)
    ∙ sym c.in_ok-room.ensures.items in (
      c.self-2.invariant.0,
      subst (λ (cached : List ℕ). AreCached c.self-2.inside.notes.items cached) none c.self-2.invariant.1,
      rw c.in_ok-room.ensures.items (omega arith),
      c.in_ok-room.ensures.room,
      (search rules),
      c.self-2.invariant.5,
    )
