-- The slots of entries, in any list of nodes.
use Rattle.std.specs.Prelude.{ℕ, List, [], filter_map, slice_get, Option}
use Rattle.std.specs.Option.{option_map_or}
use Rattle.dg_decl.specs.declared.component.Class.{Class}
use Rattle.dg_decl.specs.declared.graph.Node.{Node}
use Rattle.dg_decl.specs.declared.graph.NodeKind.TheVariants as node
use Rattle.dg_decl.specs.Graph.{node_of, number_of}

abbrev pub slot_of_entry : List Node → ℕ → ℕ → Option ℕ
slot_of_entry ns class i = number_of ns (node_of class (node.EntryOf i))

-- the slots of the entries of the class of this number
abbrev pub entries_in : List Node → List Class → ℕ → List ℕ
entries_in ns classes class =
    filter_map (slot_of_entry ns class)
    (option_map_or (λ c. c.entries) (slice_get classes class) [])
