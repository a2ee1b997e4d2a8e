-- Tables: what stands under keys and numbers, in order, and how a table changes.
use Rattle.std.specs.Prelude.{◌≡◌, ◌<◌, ℕ, ◌==◌, nat_eq, Bool, ◌&&◌, List, [], ◌∷◌, ◌++◌, length, unwrap_or, slice_get, if◌then◌else◌}
use Rattle.std.specs.List.{flat_map}
use Rattle.std.specs.Map.{lookup}
use Rattle.dg_types.specs.declared.key.Key.{Key}
use Rattle.dg_types.specs.Equality.{same_key}
use Rattle.dg_decl.specs.declared.binding.BindRef.{BindRef}
use Rattle.dg_decl.specs.declared.binding.Owned.{Owned}
use Rattle.dg_decl.specs.Lookup.{owned}

-- ---- keys and numbers

-- what stands under a key
abbrev pub under : {K V : Type 0} → (K → K → Bool) → K → List (K × List V) → List V
under same k rows = unwrap_or (lookup (same k) rows) []

-- one more stands under this key, behind the others
pub record Adds {K V : Type 0} (same : K → K → Bool) (key : K) (value : V) (old new : List (K × List V)) : Type 0 where
  pub each : (k : K) → under same k new ≡ under same k old ++ (if same k key then value ∷ [] else [])

-- bindings under their keys
abbrev pub Rows : Type 0
Rows = List (Key × List Owned)

abbrev pub of_key : Key → Rows → List Owned
of_key k rows = under same_key k rows

-- numbers under numbers
abbrev pub Numbers : Type 0
Numbers = List (ℕ × List ℕ)

abbrev pub of_number : ℕ → Numbers → List ℕ
of_number m rows = under nat_eq m rows

-- this number stands under each of those, behind the others
pub record AddsUnder (keys : List ℕ) (value : ℕ) (old new : Numbers) : Type 0 where
  pub each : (m : ℕ) → of_number m new
      ≡ of_number m old ++ flat_map (λ k. if m == k then value ∷ [] else []) keys

-- ---- a table for each component class

-- what stands under a key in the table of a class
abbrev pub of_class : ℕ → Key → List Rows → List Owned
of_class c k tables = of_key k (unwrap_or (slice_get tables c) [])

-- Behind what stood under a key in the table of a class these stand now too.
pub record Grows (more : ℕ → Key → List Owned) (old new : List Rows) : Type 0 where
  pub count : length new ≡ length old
  pub each : (c : ℕ) (k : Key) → c < length old → of_class c k new ≡ of_class c k old ++ more c k

-- a binding of a class under a key
abbrev pub row : ℕ → Key → Owned → ℕ → Key → List Owned
row class key o c k = if (c == class) && same_key k key then o ∷ [] else []

-- the same binding under a key in each of some classes, which own it
abbrev pub row_of_each : List ℕ → Key → BindRef → ℕ → Key → List Owned
row_of_each classes key b c k = flat_map (λ x. row x key (owned x b) c k) classes

-- these are the tables of so many classes
pub record Holds (count : ℕ) (all : ℕ → Key → List Owned) (tables : List Rows) : Type 0 where
  pub size : length tables ≡ count
  pub each : (c : ℕ) (k : Key) → c < count → of_class c k tables ≡ all c k
