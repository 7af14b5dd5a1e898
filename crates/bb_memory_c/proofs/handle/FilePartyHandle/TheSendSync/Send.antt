use Rattle.bb_memory_c.proofs.SentHandles.{IsSend, owned, owning_send, two_send}
use Rattle.bb_memory_c.proofs.file_party.JoinedFile.TheSendSync.{the_send}
use Rattle.bb_memory_c.specs.contracts.handle.FilePartyHandle.{the_row, the_type}

pub send : IsSend the_row
send = owning_send the_type two_send (λ d. owned _ the_send d.made d.at d.value) (λ k x w. tt)
