-- The text of a pool world.
use Rattle.bb_memory_pool_machine.specs.PoolMachine.{holder_in}
use Rattle.bb_memory_pool_machine.specs.declared.steps.pool.Flag.{Flag}
use Rattle.bb_memory_pool_machine.specs.declared.steps.pool.Flag.TheVariants.{Free}
use Rattle.script_kinds.specs.Steps.{holder_text}
use Rattle.scripts.proofs.Telling.{texts_more}
use Rattle.std.proofs.Common.{List, get_or, length, refl, take, ℕ, ◌++◌, ◌+◌, ◌<◌, ◌∙◌, ◌≡◌}
use Rattle.std.proofs.lemmas.List.{get_or_default}
use Rattle.std.proofs.lemmas.Option.{unwrap_or-slice_get}
use Rattle.std.specs.List.{flat_map}
use Rattle.std.specs.Prelude.{slice_get, unwrap_or}

-- the holder that a flag names, or a dash
abbrev pub flag_text : Flag → List ℕ
flag_text flag = holder_text (holder_in flag)

-- the holders of the flags so far are written, and then one more
pub holders_more : (old mid new : List ℕ) (flags : List Flag) (i : ℕ) → i < length flags
    → mid ≡ old ++ flat_map flag_text (take i flags)
    → new ≡ mid ++ holder_text (holder_in (unwrap_or (slice_get flags i) Free))
    → new ≡ old ++ flat_map flag_text (take (i + 1) flags)
holders_more old mid new flags i below before more =
    let flag : Flag = unwrap_or (slice_get flags i) Free in
    let is : flag ≡ get_or flags i flag = unwrap_or-slice_get flags i Free ∙ get_or_default flags i Free flag below in
    texts_more flag_text old mid new (flag_text flag) flags i flag below is before more refl
