-- Sets of component classes: bit n of a number stands for the class n.
use Rattle.std.specs.Prelude.{◌≡◌, ℕ, ◌==◌, Bool}
use Rattle.std.specs.Int.{bit_at}

-- a class is in a set
unfoldable pub has : ℕ → ℕ → Bool
has set class = bit_at set class == 1

-- a set has exactly the classes that pass a test
abbrev pub IsSetOf : (ℕ → Bool) → ℕ → Type 0
IsSetOf passes set = (class : ℕ) → has set class ≡ passes class
