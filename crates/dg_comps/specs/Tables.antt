-- What the tables know that are made before the stage is judged.
use Rattle.std.specs.Prelude.{◌≡◌, ◌<◌, ℕ, Bool, nat_eq, List, map, length, slice_index, slice_index_or, Option, None, false, [], ◌∷◌, if◌then◌else◌}
use Rattle.std.specs.List.{list_any, range_with_len}
use Rattle.dg_decl.specs.declared.document.Doc.{Doc}
use Rattle.dg_decl.specs.Components.{class_count, parent_of, walk, ancestors, is_own_ancestor, is_replaced, included, is_reached}
use Rattle.dg_num.specs.declared.graph.Graph.{Graph}
use Rattle.dg_num.specs.Graph.{node_count, successors}
use Rattle.dg_comps.specs.ClassSets.{has, IsSetOf}

-- ---- parents

-- the parent of each class
abbrev pub parents_by_class : Doc → List (Option ℕ)
parents_by_class doc = map (parent_of doc) (range_with_len 0 (class_count doc))

-- the parent of a class by a table
abbrev pub parent_at : List (Option ℕ) → ℕ → Option ℕ
parent_at parents class = slice_index_or parents class None

-- a walk of parents by a table leads from a class to another
abbrev pub is_above : List (Option ℕ) → ℕ → ℕ → Bool
is_above parents class other =
    list_any (nat_eq other) (walk (parent_at parents) (length parents) (parent_at parents class))

abbrev pub is_ancestor : Doc → ℕ → ℕ → Bool
is_ancestor doc class other = list_any (nat_eq other) (ancestors doc class)

-- for each class the set of its ancestors
pub record KnowsAncestors (doc : Doc) (above : List ℕ) : Type 0 where
  pub len : length above ≡ class_count doc
  pub each : (class : ℕ) → class < class_count doc
      → IsSetOf (is_ancestor doc class) (slice_index above class)

-- the set of the classes that are their own ancestors
abbrev pub KnowsCyclic : Doc → ℕ → Type 0
KnowsCyclic doc cyclic =
    (class : ℕ) → class < class_count doc → has cyclic class ≡ is_own_ancestor doc class

-- ---- modules

-- for each item whether it is a module that is replaced
pub record KnowsReplaced (doc : Doc) (marks : List Bool) : Type 0 where
  pub len : length marks ≡ length doc.items
  pub each : (m : ℕ) → slice_index_or marks m false ≡ is_replaced doc m

-- a module, unless it is replaced
abbrev pub kept_module : Doc → ℕ → List ℕ
kept_module doc m = if is_replaced doc m then [] else m ∷ []

-- a graph whose nodes are the items, with an edge for each module that an item includes
pub record IsIncludes (doc : Doc) (graph : Graph) : Type 0 where
  pub nodes : node_count graph ≡ length doc.items
  pub edges : (m : ℕ) → successors graph m ≡ included doc m

-- the set of the classes from which the module of this index is reached
abbrev pub IsReachedSet : Doc → ℕ → ℕ → Type 0
IsReachedSet doc m set =
    (class : ℕ) → class < class_count doc → has set class ≡ is_reached doc class m

-- for each item the set of the classes from which it is reached
pub record KnowsReached (doc : Doc) (sets : List ℕ) : Type 0 where
  pub len : length sets ≡ length doc.items
  pub each : (m : ℕ) → m < length doc.items → IsReachedSet doc m (slice_index sets m)
