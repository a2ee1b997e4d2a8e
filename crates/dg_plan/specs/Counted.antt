-- The texts of the members of a list with their places, and those of inputs.
use Rattle.std.specs.Prelude.{ℕ, suc, List, [], ◌++◌, flat_map, codes, decimal}
use Rattle.std.specs.List.{enumerate_from}
use Rattle.std.specs.Option.{option_map_or}
use Rattle.dg_lex.specs.Bytes.{Bytes}
use Rattle.dg_decl.specs.declared.document.Doc.{Doc}
use Rattle.dg_decl.specs.declared.graph.Node.{Node}
use Rattle.dg_decl.specs.Graph.{Dependency, site_of_node}
use Rattle.dg_slots.specs.declared.plan.CellKind.{CellKind}
use Rattle.dg_slots.specs.Plans.{input_of}
use Rattle.dg_plan.specs.PlanLines.{input_text, cell_text}

-- the texts of the members of a list, the first of which has this place
unfoldable pub texts_from : {A : Type 0} → (ℕ → A → Bytes) → ℕ → List A → Bytes
texts_from text k xs = flat_map (λ p. text p.0 p.1) (enumerate_from k xs)

-- the text of the input for a dependency of a place, where the slot has one
abbrev pub text_of_need : Doc → Node → ℕ → Dependency → Bytes
text_of_need doc n k d = option_map_or (input_text n.kind (suc k) d) (input_of doc n d) []

-- the number of a slot, its site, and whether it has a cell
abbrev pub head_text : Doc → ℕ → Node → CellKind → Bytes
head_text doc k n cell =
    decimal k ++ (codes " " ++ (site_of_node doc n ++ cell_text cell))
