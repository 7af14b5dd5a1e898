use Rattle.bb_memory_file.proofs.FileMessages.{found_in, found_nowhere, is_entered, is_in}
use Rattle.bb_memory_file.proofs.calls.find.Goals as goal
use Rattle.bb_memory_file.specs.FileCalls.whereabouts as whereabouts
use Rattle.bb_memory_file.specs.FileCode.{LoadEntry, LoadSlot}
use Rattle.bb_memory_file.specs.FileNames.{Empty, In, Message}
use Rattle.bb_memory_pool_machine.proofs.PoolSteps.{test_same}
use Rattle.std.proofs.Common.{[], ap, refl, ◌∷◌}
use Rattle.std.proofs.lemmas.Bool.{ne_eqb}

pub returns-in_default-clause-found : goal.returns-in_default-clause-found
returns-in_default-clause-found g c =
    found_nowhere (g.W.Words.log c.args.words.now) c.args.bucket c.requires.held _ c.load_entry.result c.load_entry.ensures.told
    c.in_default.is

pub returns-in_default-load_slot-clause-found : goal.returns-in_default-load_slot-clause-found
returns-in_default-load_slot-clause-found g c =
    let old = g.W.Words.log c.args.words.now in
    let word = Empty c.in_default-load_slot.field-0 in
    found_in old c.args.bucket c.requires.held c.in-In.slot c.in-In.length word whereabouts.Entered _ _ c.in-In.ensures.told
    c.in_default-load_slot.ensures.told (is_entered old c.args.bucket c.requires.held c.in-In.slot c.in-In.length word refl)
    (c.in-In.slot, c.in-In.length, word, refl, refl)

pub returns-then-other-bucket-clause-found : goal.returns-then-other-bucket-clause-found
returns-then-other-bucket-clause-found g c =
    let old = g.W.Words.log c.args.words.now in
    let word = Message c.in-Message.lap c.in-Message.other in
    found_in old c.args.bucket c.requires.held c.in-In.slot c.in-In.length word
    (whereabouts.In c.in-In.slot c.in-Message.lap) _ _ c.in-In.ensures.told c.in-Message.ensures.told
    (is_in old c.args.bucket c.requires.held c.in-In.slot c.in-In.length word c.in-Message.lap
    (rw (test_same c.in-Message.other c.args.bucket c.if-other-bucket.true) refl) c.in-Message.ensures.lap) (
      c.in-In.length,
      ap (λ b. LoadSlot c.in-In.slot (Message c.in-Message.lap b)
          ∷ LoadEntry c.args.bucket (In c.in-In.slot c.in-In.length) ∷ []) c.if-other-bucket.true,
    )

pub returns-else-other-bucket-clause-found : goal.returns-else-other-bucket-clause-found
returns-else-other-bucket-clause-found g c =
    let old = g.W.Words.log c.args.words.now in
    let word = Message c.in-Message.lap c.in-Message.other in
    found_in old c.args.bucket c.requires.held c.in-In.slot c.in-In.length word whereabouts.Entered _ _ c.in-In.ensures.told
    c.in-Message.ensures.told
    (is_entered old c.args.bucket c.requires.held c.in-In.slot c.in-In.length word
    (rw (ne_eqb c.in-Message.other c.args.bucket c.if-other-bucket.false) refl))
    (c.in-In.slot, c.in-In.length, word, refl, rw (ne_eqb c.in-Message.other c.args.bucket c.if-other-bucket.false) refl)
