-- The stage of sizes: how deep and how heavy each node of the graph may be. These rules are this
-- project's own.
use Rattle.std.specs.Prelude.{ℕ, nat_lt, not, ◌&&◌, List, ◌++◌, flat_map, None}
use Rattle.dg_decl.specs.declared.document.Doc.{Doc}
use Rattle.dg_decl.specs.declared.graph.Node.{Node}
use Rattle.dg_decl.specs.declared.violation.Rule.TheVariants as rule
use Rattle.dg_decl.specs.declared.violation.Violation.{Violation}
use Rattle.dg_decl.specs.Graph.{nodes}
use Rattle.dg_decl.specs.Sizes.{is_entry, depth, weight}
use Rattle.dg_decl.specs.Stages.Bindings.{at_node, where_true}

-- the most nodes on a walk of direct and called edges
abbrev pub depth_limit : ℕ
depth_limit = 128

-- the most that one evaluation may weigh
abbrev pub weight_limit : ℕ
weight_limit = 4096

-- a walk of too many nodes begins at the node
unfoldable pub too_deep : Doc → Node → List Violation
too_deep doc n =
    where_true (not (is_entry n) && nat_lt depth_limit (depth doc n))
    (at_node rule.TooDeep None doc n)

-- the evaluation of the node goes through too much
unfoldable pub too_heavy : Doc → Node → List Violation
too_heavy doc n =
    where_true (not (is_entry n) && nat_lt weight_limit (weight doc n))
    (at_node rule.TooHeavy None doc n)

-- the stage, by node and then by rule
unfoldable pub sizes_stage : Doc → List Violation
sizes_stage doc = flat_map (λ n. too_deep doc n ++ too_heavy doc n) (nodes doc)
