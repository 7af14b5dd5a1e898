use Rattle.bb_memory_file.proofs.FileMessages.{full, post_by, still_clear}
use Rattle.bb_memory_file.proofs.calls.post.Goals as goal
use Rattle.bb_memory_file.specs.FileCode.{FileLog, HasNot, known_of}
use Rattle.bb_memory_file.specs.FileLog.{is_clear}
use Rattle.std.proofs.Common.{subst, sym, true, ◌<◌, ◌≡◌}

pub returns-in_default : goal.returns-in_default
returns-in_default g c process =
    full process (g.W.Words.log c.args.words.now) c.args.slot c.args.bucket c.args.length _ c.in_default.field-0
    c.in_default.field-1
    c.in_default.ensures.told

pub fill-requires : goal.fill-requires
fill-requires g c =
    let told = sym c.in-Empty.ensures.told in
    record {
      slot = subst (λ (log : FileLog). c.args.slot < log.scene.slots) told c.requires.slot;
      lap = c.in-Empty.ensures.lap;
      below = subst (λ (log : FileLog). c.args.bucket < log.scene.buckets) told c.requires.below;
      clear = subst (λ (log : FileLog). is_clear (known_of log c.args.bucket) ≡ true) told
          (still_clear (known_of (g.W.Words.log c.args.words.now) c.args.bucket) (HasNot c.args.slot) c.requires.clear);
    }

pub returns : goal.returns
returns g c process =
    post_by process (g.W.Words.log c.args.words.now) c.args.slot c.args.bucket c.args.length c.in-Empty.lap _ c.fill.result _
    c.in-Empty.ensures.lap c.in-Empty.ensures.told (c.fill.ensures process)
