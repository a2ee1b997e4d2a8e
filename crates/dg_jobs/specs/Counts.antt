use Rattle.std.specs.Prelude.{◌≡◌, ◌⊎◌, ℕ, zero, suc}

-- so many of the numbers below the bound have the property
abbrev pub HasCount : (ℕ → Type 0) → ℕ → ℕ → Type 0
HasCount P zero count = count ≡ 0
HasCount P (suc bound) count =
    (P bound × (fewer : ℕ) × (count ≡ suc fewer) × HasCount P bound fewer) ⊎ ((P bound → ⊥)
    × HasCount P bound count)
