use Rattle.bb_memory_bump.proofs.SharedBumpKeeps.{exchanges_as}
use Rattle.bb_memory_bump.proofs.shared_bump.position.Position.exchange.Goals as goal
use Rattle.bb_memory_bump.specs.SharedBumpRule.{met_by, sight}
use Rattle.bb_memory_bump_machine.specs.BumpMachine.{BumpScene, chunk_at, position_behind}
use Rattle.bb_memory_seats.specs.Seats.{alone, number_of, view_log}
use Rattle.std.proofs.Common.{[], ap, arith, sym, ◌∙◌}

pub compare_exchange-found-requires : goal.compare_exchange-found-requires
compare_exchange-found-requires c =
    let fields = c.self.invariant in
    let me = c.args.seat.now.me in
    let scene = ap (λ b. b.scene) c.self.view_is in (
      c.requires.seat.table ∙ sym (ap (λ b. b.table) c.self.view_is),
      omega (arith, fields.words),
      exchanges_as c.self.inside.table.shared.key _ _ (number_of me.0) c.args.layout c.args.seen c.args.behind (view_log me.0)
          (met_by me.0) me
          (c.requires.seat.seat.is ∙ ap (λ s. (alone (sight s (met_by me.0)) (number_of me.0) (view_log me.0), [])) (sym scene))
          c.requires.call
          (c.requires.behind ∙ ap (λ (s : BumpScene). position_behind s.region (chunk_at s.region c.args.seen c.args.layout))
          (sym scene)),
    )
