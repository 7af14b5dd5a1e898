use Rattle.bb_memory_c.proofs.FileTold.{post-refused, post-tried}
use Rattle.bb_memory_c.proofs.file_party.JoinedFile.send.Goals as goal
use Rattle.bb_memory_c.specs.Files.{HasQueue}
use Rattle.std.proofs.Common.{rules}

pub returns-in-Err : goal.returns-in-Err
returns-in-Err c =
    let has : HasQueue c.args.self.now c.args.queue = search rules in
    rw c.of-in-Err.ensures (post-refused _ _ c.args.self.now c.args.place c.args.len c.in-Err.code has c.in-Err.ensures.refused)

pub returns : goal.returns
returns c =
    let has : HasQueue c.args.self.now c.args.queue = search rules in
    let told = c.in-Ok.ensures in
    post-tried _ _ c.args.self.now c.args.place c.args.len c.in-Ok.number _ _ has told.there told.done told.fits c.send_queued.ensures
