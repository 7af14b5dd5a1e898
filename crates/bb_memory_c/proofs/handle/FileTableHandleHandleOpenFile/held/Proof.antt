use Rattle.bb_memory_c.proofs.handle.FileTableHandleHandleOpenFile.held.Code as code
use Rattle.bb_memory_c.proofs.handle.FileTableHandleHandleOpenFile.held.Statement.{statement}
use Rattle.bb_memory_c.specs.contracts.file_party.OpenFile.{the_row as made}
use Rattle.bb_memory_c.specs.contracts.handle.FileTableHandle.{the_row as handle}
use Rattle.bb_memory_c_calls.proofs.LentHandles.{lends, part_of, refl}

pub held_spec : {M : Type 1} → statement M
unfolding part_of
held_spec 𝓤 𝓛 𝓜 𝓡 wired = lends made handle tt (λ d. record { at = d.at; made = d.made; value = d.value })
    (λ h. record { at = h.at; made = h.made; value = h.value }) (λ h. refl) (λ d b o. refl) 𝓤 𝓛 𝓜 𝓡 _ _ _ _ _
    (code.unfolded 𝓤 𝓛.H 𝓜 𝓡 wired)
