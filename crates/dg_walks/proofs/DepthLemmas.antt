-- Ranks are depths, and no graph of a document that the stages accept has a cycle.
use Rattle.std.proofs.Common.{◌≡◌, ℕ, ◌<◌, ◌||◌, List, [], get_or, map, ◌∙◌, arith}
use Rattle.std.proofs.lemmas.Option.{slice_get_within}
use Rattle.dg_num.specs.declared.graph.Graph.{Graph}
use Rattle.dg_num.specs.Graph.{node_count, successors}
use Rattle.dg_num.specs.Walks.{IsAcyclic, RanksExactly}
use Rattle.dg_num.proofs.Rows.{node_from_edge}
use Rattle.dg_num.proofs.WalkLaws.{first_on_cycle, off_cycle_from_rank}
use Rattle.dg_decl.specs.declared.document.Doc.{Doc}
use Rattle.dg_decl.specs.declared.graph.Edge.{Edge}
use Rattle.dg_decl.specs.Graph.{nodes, edge_lists, is_direct, is_called, needed_targets}
use Rattle.dg_decl.specs.Sizes.{depth}
use Rattle.dg_decl.specs.Stages.Bindings.{bindings_stage}
use Rattle.dg_decl.proofs.MemberLemmas.{in_got}
use Rattle.dg_decl.proofs.AcceptedGraph.{stages_leave_no_cycle}
use Rattle.dg_decl.proofs.SizeLemmas.{depths_are_longest_walks}
use Rattle.dg_walks.specs.declared.rows.Follow.TheVariants as follow
use Rattle.dg_walks.specs.Rows.{row_of, rows_of, IsGraphOf}
use Rattle.dg_walks.proofs.NumberLemmas.{node_at, rank_down, rank_up, one_rank, same_list}
use Rattle.dg_walks.proofs.RowLemmas.{needed_agree, is_graph}

pub needed_graph : (doc : Doc) (graph : Graph) (lists : List (List Edge))
    → lists ≡ edge_lists doc → rows_of graph ≡ map (row_of follow.Needed) lists
    → IsGraphOf (nodes doc) (needed_targets doc) graph
needed_graph doc graph lists are is =
    is_graph doc follow.Needed (λ e. is_direct e || is_called e) needed_agree graph lists are is

pub is_acyclic : (doc : Doc) (graph : Graph) → bindings_stage doc ≡ []
    → IsGraphOf (nodes doc) (needed_targets doc) graph → IsAcyclic (successors graph)
is_acyclic doc graph accepted g k cycle =
    let first = first_on_cycle graph k cycle in
    let lt : k < node_count graph = node_from_edge graph k first.0 first.1 in
    let n = node_at (nodes doc) k (omega (arith, g.counted)) in
    let none = stages_leave_no_cycle doc accepted in
    let r = depths_are_longest_walks doc none n.0 (in_got (nodes doc) k n.0 n.1) in
    off_cycle_from_rank graph k (depth doc n.0)
    (rank_up (nodes doc) (needed_targets doc) graph g k n.0 (depth doc n.0) n.1 r) cycle

pub told_depths : (doc : Doc) (graph : Graph) (ranks : List ℕ) → bindings_stage doc ≡ []
    → IsGraphOf (nodes doc) (needed_targets doc) graph → RanksExactly graph ranks
    → ranks ≡ map (depth doc) (nodes doc)
told_depths doc graph ranks accepted g tells =
    same_list (nodes doc) (depth doc) ranks 0 (tells.for_each_node ∙ g.counted)
    (λ k n at. let lt : k < node_count graph =
    omega (arith, slice_get_within (nodes doc) k n at, g.counted) in
    one_rank (needed_targets doc) n (get_or ranks k 0) (depth doc n)
    (rank_down (nodes doc) (needed_targets doc) graph g k n (get_or ranks k 0) at
    (tells.exact k lt))
    (depths_are_longest_walks doc (stages_leave_no_cycle doc accepted) n
    (in_got (nodes doc) k n at)))
