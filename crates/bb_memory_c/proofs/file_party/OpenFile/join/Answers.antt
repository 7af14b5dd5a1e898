use Rattle.bb_memory_c.proofs.file_party.OpenFile.join.Goals as goal
use Rattle.bb_memory_file.specs.FileCalls.{IsJoin, IsOver}
use Rattle.bb_memory_file.specs.FileLog.{FileLog}
use Rattle.bb_memory_file.specs.FileNotes.{JoinedParty, Joins, JoinsNot}
use Rattle.bb_memory_file.specs.FileParties.{IsUnlocked, log_of}
use Rattle.bb_memory_file.specs.declared.party.FileParty.{FileParty}
use Rattle.bb_memory_pool_machine.specs.PoolHints.{first_hint}
use Rattle.std.proofs.Common.{Err, Ok, inl, inr, rules, subst, true, ◌≡◌}

pub returns-in-Ok-Err-clause-over : goal.returns-in-Ok-Err-clause-over
returns-in-Ok-Err-clause-over c _ =
    let did : Joins log_of c.in-Ok.words c.first-hint.result c.max.result (Err c.in-Ok-Err.field-0-0) =
    rw c.in-Ok-Err.field-0-is at c.in-Ok-Err.ensures.joined in
    inr (
      log_of c.in-Ok-Err.field-0-0,
      subst (λ (log : FileLog). IsOver log (log_of c.in-Ok-Err.field-0-0)) c.in-Ok.ensures.fresh (did 0),
    )

pub returns-in-Err-join-clause-no_memory : goal.returns-in-Err-join-clause-no_memory
returns-in-Err-join-clause-no_memory c _ =
    inl (subst (λ (log : FileLog). JoinsNot IsUnlocked log) c.in-Ok.ensures.fresh c.in-Err-join.ensures.failed)

pub returns-in-Ok-new-clause-joins : goal.returns-in-Ok-new-clause-joins
returns-in-Ok-new-clause-joins c =
    let words = c.in-Ok.words in
    let geometry = c.args.self.now.table.geometry in
    let did : Joins log_of words c.first-hint.result c.max.result (Ok c.in-Ok-Ok.party) =
    rw c.in-Ok-Ok.field-0-is at c.in-Ok-Ok.ensures.joined in
    let hint : c.first-hint.result
    ≡ first_hint geometry.buckets geometry.parties c.args.self.now.places.bucket.size c.args.number = search rules in
    let same : c.in-Ok-Ok.party ≡ c.in-Ok-new.joined.value.party = search rules in
    let joins = subst (λ (p : JoinedParty FileParty). Joins log_of words c.first-hint.result c.max.result (Ok p)) same did in (
      words,
      c.in-Ok.ensures.fresh,
      rw (hint, c.max.ensures) at joins,
      search rules,
    )

pub returns-in-Err-new-clause-no_memory : goal.returns-in-Err-new-clause-no_memory
returns-in-Err-new-clause-no_memory c _ =
    let did : Joins log_of c.in-Ok.words c.first-hint.result c.max.result (Ok c.in-Ok-Ok.party) =
    rw c.in-Ok-Ok.field-0-is at c.in-Ok-Ok.ensures.joined in
    let same : c.in-Err-new.refused.value.party ≡ c.in-Ok-Ok.party = search rules in
    inr (
      log_of c.in-Ok-Ok.party.words,
      λ process. subst (λ (log : FileLog). IsJoin process log true (log_of c.in-Ok-Ok.party.words)) c.in-Ok.ensures.fresh (did.0 process),
      (c.leave.result, rw same at c.leave.ensures),
    )
