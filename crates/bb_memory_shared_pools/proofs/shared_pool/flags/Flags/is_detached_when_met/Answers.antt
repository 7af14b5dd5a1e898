use Rattle.atomic_table.specs.Table.{Me}
use Rattle.bb_memory_pool_machine.specs.PoolMachine.{PoolScene}
use Rattle.bb_memory_seats.specs.Seats.{standing_for}
use Rattle.bb_memory_shared_pools.proofs.SharedPoolLooks.{found_detached, found_other, looks_as}
use Rattle.bb_memory_shared_pools.proofs.shared_pool.flags.Flags.is_detached_when_met.Goals as goal
use Rattle.bb_memory_shared_pools.specs.FlagWords.{bucket_of}
use Rattle.bb_memory_shared_pools.specs.SharedPool.{SharedPool}
use Rattle.bb_memory_shared_pools.specs.SharedPoolRule.{AfterMeetingLook, SeatView}
use Rattle.std.proofs.Common.{[], ap, arith, subst, sym, ℕ, ◌<◌, ◌∙◌, ◌≡◌}
use Rattle.std.proofs.lemmas.Bool.{eqb-false, eqb-true}
use Rattle.std.specs.Prelude.{◌%◌}

pub load-found-requires : goal.load-found-requires
load-found-requires c =
    let me = c.args.seat.now.me in
    let key = c.self.invariant.0 ∙ ap (λ (p : SharedPool). p.scene) c.self.view_is in
    let below = rw (← c.self.view_is) at c.requires.below in
    let counted = c.self.invariant.1.words in (
      c.requires.seat.table ∙ sym (ap (λ (p : SharedPool). p.table) c.self.view_is),
      omega arith,
      looks_as c.self.inside.table.shared.key _ _ c.word_of.result c.args.bucket me.0.parties me c.word_of.ensures
          (c.requires.seat.seat ∙ ap (λ (s : PoolScene). (standing_for s me.0.parties, [])) (sym key))
          (subst (λ (s : PoolScene). c.args.bucket < s.geometry.buckets) (sym key) c.requires.below),
    )

-- the look of a seat at the bucket of a word is one of the pool at this bucket
look_of : (scene : PoolScene) (me : Me ℕ SeatView) (word bucket found : ℕ) → me ≡ (standing_for scene me.0.parties, []) →
    bucket_of word ≡ bucket → AfterMeetingLook me.0.scene me.0.parties (bucket_of word) found →
    AfterMeetingLook scene me.0.parties bucket found
look_of scene me word bucket found stands at look =
    subst (λ (s : PoolScene). AfterMeetingLook s me.0.parties bucket found) (ap (λ (m : Me ℕ SeatView). m.0.scene) stands)
    (subst (λ (b : ℕ). AfterMeetingLook me.0.scene me.0.parties b found) at look)

pub returns-then-found-ne-FREE-clause-detached : goal.returns-then-found-ne-FREE-clause-detached
returns-then-found-ne-FREE-clause-detached c =
    let me = c.args.seat.now.me in
    let bucket : bucket_of c.word_of.result ≡ c.args.bucket = omega (arith, c.word_of.ensures) in
    let look = look_of c.args.self.now.scene me c.word_of.result c.args.bucket c.load-found.result c.requires.seat.seat bucket
    c.load-found.ensures.2.1 in
    λ even. found_detached c.args.self.now.scene me.0.parties c.args.bucket c.load-found.result look c.if-found-ne-FREE.true
    (eqb-true (c.load-found.result % 2) 0 even)

pub returns-then-found-ne-FREE-clause-other : goal.returns-then-found-ne-FREE-clause-other
returns-then-found-ne-FREE-clause-other c =
    let me = c.args.seat.now.me in
    let bucket : bucket_of c.word_of.result ≡ c.args.bucket = omega (arith, c.word_of.ensures) in
    let look = look_of c.args.self.now.scene me c.word_of.result c.args.bucket c.load-found.result c.requires.seat.seat bucket
    c.load-found.ensures.2.1 in
    λ odd. found_other c.args.self.now.scene me.0.parties c.args.bucket c.load-found.result look
    (λ both. eqb-false (c.load-found.result % 2) 0 odd both.1)

pub returns-else-found-ne-FREE-clause-other : goal.returns-else-found-ne-FREE-clause-other
returns-else-found-ne-FREE-clause-other c =
    let me = c.args.seat.now.me in
    let bucket : bucket_of c.word_of.result ≡ c.args.bucket = omega (arith, c.word_of.ensures) in
    let look = look_of c.args.self.now.scene me c.word_of.result c.args.bucket c.load-found.result c.requires.seat.seat bucket
    c.load-found.ensures.2.1 in
    λ free. found_other c.args.self.now.scene me.0.parties c.args.bucket c.load-found.result look
    (λ both. both.0 (omega arith))
