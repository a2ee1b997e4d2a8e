-- The chains of component classes, by their rows.
use Rattle.std.specs.Prelude.{ℕ, List, ◌∷◌, length, reverse, Option, None, slice_get}
use Rattle.std.specs.Option.{option_and_then}
use Rattle.dg_decl.specs.declared.component.Class.{Class}
use Rattle.dg_decl.specs.Components.{walk}

abbrev pub parent_at : List Class → ℕ → Option ℕ
parent_at classes c = option_and_then (λ x. x.parent) (slice_get classes c)

-- a class and its ancestors, the root first
unfoldable pub root_first_in : List Class → ℕ → List ℕ
root_first_in classes c =
    reverse (c ∷ walk (parent_at classes) (length classes) (parent_at classes c))
