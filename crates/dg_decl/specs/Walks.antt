-- Walks over nodes of any kind, by the nodes to which each one leads.
use Rattle.std.specs.Prelude.{ℕ, zero, suc, Bool, ◌||◌, List, Contains}
use Rattle.std.specs.List.{list_any}

-- a walk, also one of no step, leads to a node from one of the roots
pub data IsReached {N : Type 0} (next : N → List N) (roots : List N) : N → Type 0 where
  root : (n : N) → Contains roots n → IsReached next roots n
  step : (m n : N) → IsReached next roots m → Contains (next m) n → IsReached next roots n

-- a walk of at most so many steps leads to a node from one of the roots; `same` tells whether two
-- nodes are one
abbrev pub is_within : {N : Type 0} → (N → N → Bool) → (N → List N) → ℕ → List N → N → Bool
is_within same next zero roots n = list_any (same n) roots
is_within same next (suc steps) roots n =
    list_any (same n) roots || list_any (λ m. is_within same next steps (next m) n) roots
