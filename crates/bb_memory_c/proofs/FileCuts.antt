-- Files whose buckets are in a region: which numbers of buckets and slots a file may have.
use Rattle.bb_memory_c.specs.Files.{MayHave}
use Rattle.std.proofs.Common.{None, Option, Some, refl, true, ℕ, ◌∙◌, ◌≡◌}
use Rattle.std.proofs.lemmas.Bool.{lt-ltb}
use Rattle.std.specs.Prelude.{if◌then◌else◌, nat_lt, ◌&&◌, ◌-◌, ◌^◌}

-- if there is no geometry of these numbers, no file has them
pub none-made : {G : Type 0} (buckets slots : ℕ) (made : G) {told : Option G} →
    told ≡ (if nat_lt buckets (2 ^ 32 - 1) && nat_lt slots (2 ^ 32 - 1) then Some made else None) → told ≡ None →
    ¬ MayHave buckets slots
none-made buckets slots made {told} is none may =
    let one : nat_lt buckets (2 ^ 32 - 1) ≡ true = lt-ltb buckets (2 ^ 32 - 1) may.0 in
    let other : nat_lt slots (2 ^ 32 - 1) ≡ true = lt-ltb slots (2 ^ 32 - 1) may.1 in
    let some : told ≡ Some made = is ∙ rw (one, other) refl in
    absurd (cc)
