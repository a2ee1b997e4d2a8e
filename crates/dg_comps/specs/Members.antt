-- What the members of a class's block bind and depend on, by the indices of their items.
use Rattle.std.specs.Prelude.{ℕ, Option, option_and_then}
use Rattle.dg_decl.specs.declared.document.Doc.{Doc}
use Rattle.dg_decl.specs.declared.component.Bound.{Bound}
use Rattle.dg_decl.specs.Names.{item_at}
use Rattle.dg_decl.specs.Components.{bound_in, class_named, dependency_in}

-- what the item of this index binds, where it is a `bindsInstance` line
abbrev pub bound_at : Doc → ℕ → Option Bound
bound_at doc index = option_and_then bound_in (item_at doc index)

-- the class that the item of this index names, where it is a `dependsOn` line
abbrev pub dep_at : Doc → ℕ → Option ℕ
dep_at doc index =
    option_and_then (class_named doc) (option_and_then dependency_in (item_at doc index))
