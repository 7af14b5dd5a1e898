use Rattle.atomic_table.specs.Table.{Me}
use Rattle.bb_memory_bump.proofs.SharedBumpMerges.{one_merged}
use Rattle.bb_memory_bump.proofs.shared_bump.SharedBumpAllocator.merge_rest.Goals as goal
use Rattle.bb_memory_bump.specs.SharedBump.{BumpParty}
use Rattle.bb_memory_bump.specs.SharedBumpRule.{SeatView, met_by, numbered_of}
use Rattle.std.proofs.Common.{ap, arith, rules, subst, sym, ℕ, ◌++◌, ◌∙◌, ◌≡◌, ◌≤◌}
use Rattle.std.proofs.lemmas.List.Elements.{All-pop, All-push}
use Rattle.std.specs.Prelude.{All, map}

pub loop-party-preserved : goal.loop-party-preserved
loop-party-preserved c =
    let before = c.loop-party.invariant in
    let rest = c.pop.new.self.items in
    let host : met_by c.loop-party.seat.me.0 ≤ met_by c.merge.new.seat.me.0 = search rules in
    let guest : c.in-Some.party.met ≤ met_by c.merge.new.seat.me.0 = search rules in
    record {
      table = search rules;
      seat = search rules;
      all = ap (λ (m : Me ℕ SeatView). map numbered_of rest ++ m.0.parties) c.merge.ensures.step
          ∙ one_merged _ _ _ _ _ rest _ c.party.invariant c.party.view_is c.in-Some.ensures.items ∙ before.all;
      met = omega (arith, before.met, host);
      theirs = (All-pop (λ (p : BumpParty). p.allocator ≡ c.args.self.now) c.loop-party.rest.items rest c.pop.result
          c.pop.ensures.items before.theirs).0;
      risen = λ most up small. before.risen most (omega (arith, up, host))
          (subst (All (λ (p : BumpParty). p.met ≤ most)) (sym c.in-Some.ensures.items)
          (All-push (λ (p : BumpParty). p.met ≤ most) rest c.in-Some.party small (omega (arith, up, guest))));
    }
