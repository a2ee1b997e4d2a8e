-- Which of what a node needs leads to a production, by the numbered edges of the node.
use Rattle.std.specs.Prelude.{◌≡◌, ℕ, Bool, true, false, List, map, slice_get, slice_index_or, Contains}
use Rattle.std.specs.Option.{option_map_or}
use Rattle.dg_decl.specs.declared.document.Doc.{Doc}
use Rattle.dg_decl.specs.declared.binding.Found.{Found}
use Rattle.dg_decl.specs.declared.binding.Found.TheVariants as found
use Rattle.dg_decl.specs.declared.graph.Edge.{Edge}
use Rattle.dg_decl.specs.declared.graph.Node.{Node}
use Rattle.dg_decl.specs.Graph.{Dependency, deps, nodes, numbered_edges}
use Rattle.dg_decl.specs.Sizes.{is_production}

-- what is found leads to a node
abbrev pub leads : Found → Bool
leads (found.One owner b) = true
leads (found.SetOf os) = true
leads (found.MapOf os) = true
leads found.OptionalOf = true
leads other = false

-- what is told of the node to which an edge leads
abbrev pub told_of_edge : List Bool → Edge → Bool
told_of_edge told e = slice_index_or told e.to false

-- the same of the edge at a place
abbrev pub told_at : List Bool → List Edge → ℕ → Bool
told_at told edges place = option_map_or (told_of_edge told) (slice_get edges place) false

-- what is known of a node of a document: what it needs, its edges by number, and which nodes are
-- productions
pub record AreOf (doc : Doc) (n : Node) (needed : List Dependency) (edges : List Edge)
    (productions : List Bool) : Type 0 where
  pub among : Contains (nodes doc) n
  pub needs : needed ≡ deps doc n
  pub numbered : edges ≡ numbered_edges doc n
  pub produced : productions ≡ map (is_production doc) (nodes doc)
