-- What some classes expose to a class that depends on them.
use Rattle.std.specs.Prelude.{ℕ, List}
use Rattle.std.specs.List.{filter_map, flat_map, enumerate_from}
use Rattle.dg_decl.specs.declared.document.Doc.{Doc}
use Rattle.dg_decl.specs.declared.component.Exposed.{Exposed}
use Rattle.dg_decl.specs.Components.{exposed_as, entries_of}

-- what the class at an index among the dependencies exposes
abbrev pub exposed_by : Doc → ℕ × ℕ → List Exposed
exposed_by doc d = filter_map (exposed_as doc d.0) (entries_of doc d.1)

-- what the classes of these numbers expose, where the first of them has this index
abbrev pub exposed_from : Doc → ℕ → List ℕ → List Exposed
exposed_from doc index deps = flat_map (exposed_by doc) (enumerate_from index deps)
