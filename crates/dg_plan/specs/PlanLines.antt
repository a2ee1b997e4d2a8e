-- How a plan is written: a line for each slot, in order.
use Rattle.std.specs.Prelude.{ℕ, suc, List, [], ◌∷◌, ◌++◌, flat_map, codes, decimal, option_map}
use Rattle.std.specs.List.{filter_map, enumerate_from}
use Rattle.std.specs.Option.{option_map_or}
use Rattle.dg_lex.specs.Bytes.{Bytes, line_end}
use Rattle.dg_types.specs.declared.key.Mode.{Mode}
use Rattle.dg_types.specs.declared.key.Mode.TheVariants as mode
use Rattle.dg_decl.specs.declared.document.Doc.{Doc}
use Rattle.dg_decl.specs.declared.graph.Node.{Node}
use Rattle.dg_decl.specs.declared.graph.NodeKind.{NodeKind}
use Rattle.dg_decl.specs.declared.graph.NodeKind.TheVariants as node
use Rattle.dg_decl.specs.Graph.{Dependency, deps, nodes, site_of_node}
use Rattle.dg_slots.specs.declared.plan.CellKind.{CellKind}
use Rattle.dg_slots.specs.declared.plan.CellKind.TheVariants as cell
use Rattle.dg_slots.specs.declared.plan.Input.{Input}
use Rattle.dg_slots.specs.Plans.{cell_of, input_of}

-- the letter of a mode
abbrev pub letter_of : Mode → Bytes
letter_of mode.Instance = codes "i"
letter_of mode.Provider = codes "p"
letter_of mode.Lazy = codes "l"
letter_of mode.ProviderLazy = codes "q"
letter_of mode.Produced = codes "d"
letter_of mode.Producer = codes "a"

-- how an input is named: by its parameter; of a set or map by the number of its contribution; of
-- an entry point, an exposed entry and an optional not at all
abbrev pub input_name : NodeKind → ℕ → Dependency → Bytes
input_name (node.Multi key) number d = decimal number
input_name other number d = option_map_or (λ p. p) d.param []

abbrev pub input_text : NodeKind → ℕ → Dependency → Input → Bytes
input_text kind number d i =
    codes " " ++ (input_name kind number d ++ (codes "=" ++ (letter_of i.mode
    ++ (codes ":" ++ decimal i.slot))))

abbrev pub input_texts : Doc → Node → List Bytes
input_texts doc n =
    filter_map (λ p. option_map (input_text n.kind (suc p.0) p.1) (input_of doc n p.1))
    (enumerate_from 0 (deps doc n))

abbrev pub cell_text : CellKind → Bytes
cell_text cell.Plain = []
cell_text other = codes " cell"

-- the number of the slot, its site, whether it has a cell, and its inputs
unfoldable pub plan_line : Doc → ℕ → Node → Bytes
plan_line doc k n =
    decimal k ++ (codes " " ++ (site_of_node doc n ++ (cell_text (cell_of doc n)
    ++ (flat_map (λ t. t) (input_texts doc n) ++ line_end ∷ []))))

unfoldable pub plan_lines : Doc → Bytes
plan_lines doc = flat_map (λ p. plan_line doc p.0 p.1) (enumerate_from 0 (nodes doc))
