-- The least place: the least multiple of an alignment that is at least a number. Also layouts that
-- a proof recognizes by computing with their numerals.
use Rattle.std.specs.Int.{next_multiple_of}
use Rattle.std.specs.Prelude.{ℕ, ◌*◌, ◌^◌, ◌≡◌, ◌≤◌, ◌⊎◌}

-- the least multiple of `align` that is at least `v`
unfoldable pub least_place : ℕ → ℕ → ℕ
least_place v align = next_multiple_of v align

-- the place is a multiple of `align` that is at least `v`, and no smaller multiple is at least `v`
pub record IsLeastPlace (v align place : ℕ) : Type 0 where
  pub multiple : (k : ℕ) × (place ≡ k * align)
  pub above : v ≤ place
  pub least : (k : ℕ) → v ≤ k * align → place ≤ k * align

-- a usual layout: the alignment is a power of two up to 4096, and the size is far below isize::MAX
pub record IsUsual (size align : ℕ) : Type 0 where
  pub small : size ≤ 2 ^ 62
  pub power : (align ≡ 1) ⊎ ((align ≡ 2) ⊎ ((align ≡ 4) ⊎ ((align ≡ 8) ⊎ ((align ≡ 16)
      ⊎ ((align ≡ 32) ⊎ ((align ≡ 64) ⊎ ((align ≡ 128) ⊎ ((align ≡ 256) ⊎ ((align ≡ 512)
      ⊎ ((align ≡ 1024) ⊎ ((align ≡ 2048) ⊎ (align ≡ 4096))))))))))))
