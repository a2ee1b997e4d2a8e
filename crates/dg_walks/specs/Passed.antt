-- Over which edges a production is passed on, by numbers.
use Rattle.std.specs.Prelude.{◌||◌, ℕ, Bool, true, false, not, if◌then◌else◌, List, [], ◌∷◌, ◌++◌}
use Rattle.std.specs.Option.{option_map_or}
use Rattle.dg_decl.specs.declared.document.Doc.{Doc}
use Rattle.dg_decl.specs.declared.binding.BindRef.{BindRef}
use Rattle.dg_decl.specs.declared.binding.BindRef.TheVariants as binding
use Rattle.dg_decl.specs.declared.graph.Edge.{Edge}
use Rattle.dg_decl.specs.declared.graph.Node.{Node}
use Rattle.dg_decl.specs.declared.graph.NodeKind.{NodeKind}
use Rattle.dg_decl.specs.declared.graph.NodeKind.TheVariants as node
use Rattle.dg_decl.specs.Graph.{inner_of}
use Rattle.dg_decl.specs.Sizes.{item_of_node, is_unscoped_binds, is_provider_form}
use Rattle.dg_walks.specs.declared.rows.Follow.TheVariants as follow
use Rattle.dg_walks.specs.Rows.{row_of}

abbrev pub is_exposed : BindRef → Bool
is_exposed (binding.Exposed dep entry) = true
is_exposed other = false

-- a node is a production where one of its targets is: an exposed entry, an unscoped `binds`, and a
-- set or map, except a map of Providers
abbrev pub passes_on : Doc → Node → Bool
passes_on doc n = of_kind n.kind
  where
    of_kind : NodeKind → Bool
    of_kind (node.Bound b) =
        is_exposed b || option_map_or is_unscoped_binds (item_of_node doc n) false
    of_kind (node.Multi k) = not (is_provider_form (inner_of k.core))
    of_kind other = false

-- the numbers of the nodes from which a node is passed on what they are
abbrev pub passed_row : Doc → Node → List Edge → List ℕ
passed_row doc n es = if passes_on doc n then row_of follow.Asked es else []

-- the same of each node
abbrev pub passed_rows : Doc → List Node → List (List Edge) → List (List ℕ)
passed_rows doc [] lists = []
passed_rows doc (n ∷ ns) [] = []
passed_rows doc (n ∷ ns) (es ∷ lists) = passed_row doc n es ∷ passed_rows doc ns lists

-- the numbers so far, and one more where it is marked
abbrev pub with_marked : List ℕ → Bool → ℕ → List ℕ
with_marked found mark number = if mark then found ++ number ∷ [] else found
