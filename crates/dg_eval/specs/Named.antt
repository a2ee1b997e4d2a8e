-- What a value names: the cells that it holds, the Lazies in it, and the slots that it leads to.
use Rattle.std.specs.Prelude.{ℕ, List, [], ◌∷◌, ◌++◌, Some, None}
use Rattle.dg_types.specs.declared.key.MapKeyVal.{MapKeyVal}
use Rattle.dg_value.specs.declared.place.Place.{Place}
use Rattle.dg_value.specs.declared.value.Kept.{Kept, fold-Kept}
use Rattle.dg_value.specs.declared.value.Kept.TheOpen.{Kept-F, Value-F}
use Rattle.dg_value.specs.declared.value.Value.{Value, fold-Value}

-- a cell and a Provider by their instance and slot, a Lazy also by the place at which it was made
pub data Named : Type 0 where
  held_cell : ℕ → ℕ → Named
  made_lazy : ℕ → ℕ → Place → Named
  way_to : ℕ → ℕ → Named

-- what parts name, together
abbrev pub joined : List (List Named) → List Named
joined [] = []
joined (x ∷ xs) = x ++ joined xs

-- what the values of entries name, together
abbrev pub entries_joined : List (MapKeyVal × List Named) → List Named
entries_joined [] = []
entries_joined (x ∷ xs) = x.1 ++ entries_joined xs

-- what a value names, where this is what its parts name
abbrev pub value_names : Value-F (List Named) (List Named) → List Named
value_names (Value-F.Text t) = []
value_names (Value-F.Int n) = []
value_names (Value-F.Object class ident fields) = joined fields
value_names (Value-F.Held i k) = held_cell i k ∷ []
value_names (Value-F.Set vs) = joined vs
value_names (Value-F.Map es) = entries_joined es
value_names (Value-F.Provider i k) = way_to i k ∷ []
value_names (Value-F.ProviderLazy i k) = way_to i k ∷ []
value_names (Value-F.Lazy i k p) = made_lazy i k p ∷ []
value_names (Value-F.Opt None) = []
value_names (Value-F.Opt (Some v)) = v
value_names (Value-F.Outcome k) = k

abbrev pub kept_names : Kept-F (List Named) (List Named) → List Named
kept_names (Kept-F.Value v) = v
kept_names (Kept-F.Failed f) = []

-- all that a value names, in order, in its fields, elements, entries, inside and outcome; the content
-- of a held cell isn't looked into
unfoldable pub names_in : Value → List Named
names_in = fold-Value (List Named) (List Named) kept_names value_names

unfoldable pub names_in_kept : Kept → List Named
names_in_kept = fold-Kept (List Named) (List Named) kept_names value_names
