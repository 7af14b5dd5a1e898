use Rattle.bb_memory_file.proofs.FileQueueSlots.{first_its}
use Rattle.bb_memory_file.proofs.FileQueueWalks.{finds_tail, its_below, looks_look, same_slot}
use Rattle.bb_memory_file.proofs.queues.find_tail.Goals as goal
use Rattle.bb_memory_file.specs.FileCode.{LoadSlot}
use Rattle.bb_memory_file.specs.FileQueueLooks.{queue_in}
use Rattle.bb_memory_file_machine.specs.FileQueues.{IsSlotOf}
use Rattle.std.proofs.Common.{subst, sym, ◌<◌}

pub load_slot-requires : goal.load_slot-requires
load_slot-requires g c =
    let queue = queue_in (g.W.Words.log c.args.words.now).scene c.args.queue in
    subst (λ slot. slot < (g.W.Words.log c.args.words.now).scene.slots) (sym c.first-slot.ensures)
    (its_below queue c.requires.whole c.requires.depth _ (first_its queue c.requires.depth))

pub after-requires-clause-slot : goal.after-requires-clause-slot
after-requires-clause-slot g c =
    let queue = queue_in (g.W.Words.log c.args.words.now).scene c.args.queue in
    subst (λ slot. IsSlotOf queue slot) (sym c.first-slot.ensures) (first_its queue c.requires.depth)

pub returns : goal.returns
returns g c =
    let old = g.W.Words.log c.args.words.now in
    let queue = queue_in old.scene c.args.queue in
    let found = finds_tail queue c.requires.depth old _ c.first-slot.result c.lap_filled-lap.result c.load_slot.result c.after.result
    c.first-slot.ensures c.load_slot.ensures.told c.lap_filled-lap.ensures.lap c.lap_filled-lap.ensures.filled
    c.lap_filled-lap.ensures.last (c.after.ensures old.scene) in
    record {
      before = found.0;
      last = found.2;
      position = found.1;
      looks = looks_look old _ (LoadSlot c.first-slot.result c.load_slot.result) tt c.load_slot.ensures.told;
      same = same_slot old _ c.first-slot.result c.load_slot.result c.load_slot.ensures.told;
    }
