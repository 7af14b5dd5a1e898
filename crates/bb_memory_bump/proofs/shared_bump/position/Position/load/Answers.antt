use Rattle.bb_memory_bump.proofs.SharedBumpKeeps.{loads_as}
use Rattle.bb_memory_bump.proofs.shared_bump.position.Position.load.Goals as goal
use Rattle.bb_memory_bump.specs.SharedBumpRule.{met_by, sight}
use Rattle.bb_memory_seats.specs.Seats.{alone, number_of, view_log}
use Rattle.std.proofs.Common.{[], ap, arith, sym, ◌∙◌}

pub load-requires : goal.load-requires
load-requires c =
    let me = c.args.seat.now.me in
    let of = c.requires.seat in
    let scene = ap (λ b. b.scene) c.self.view_is in (
      c.requires.table ∙ sym (ap (λ b. b.table) c.self.view_is),
      omega (arith, c.self.invariant.words),
      loads_as c.self.inside.table.shared.key _ _ (number_of me.0) (view_log me.0) (met_by me.0) me
          (of.seat.is ∙ ap (λ s. (alone (sight s (met_by me.0)) (number_of me.0) (view_log me.0), [])) (sym scene)) of.idle,
    )
