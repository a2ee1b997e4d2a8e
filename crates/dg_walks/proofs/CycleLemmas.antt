-- Closed walks over nodes are cycles of the graph by numbers.
use Rattle.std.proofs.Common.{◌≡◌, zero, suc, ◌<◌, ◌^◌, Bool, List, length, map, ap, arith}
use Rattle.dg_num.specs.declared.graph.Graph.{Graph}
use Rattle.dg_num.specs.Graph.{successors, IsSound}
use Rattle.dg_num.specs.Walks.{IsOnCycle, TellsExactly}
use Rattle.dg_decl.specs.declared.document.Doc.{Doc}
use Rattle.dg_decl.specs.declared.graph.Node.{Node}
use Rattle.dg_decl.specs.declared.graph.Edge.{Edge}
use Rattle.dg_decl.specs.Walks as walks
use Rattle.dg_decl.specs.Graph.{nodes, edge_lists, is_direct, direct_targets, is_on_cycle}
use Rattle.dg_decl.proofs.MemberLemmas.{in_got}
use Rattle.dg_decl.proofs.NodesOnce.{once_nodes}
use Rattle.dg_decl.proofs.GraphLemmas.{cycles_by_short_walks}
use Rattle.dg_walks.specs.declared.rows.Follow.TheVariants as follow
use Rattle.dg_walks.specs.Rows.{row_of, rows_of, IsGraphOf}
use Rattle.dg_walks.proofs.NumberLemmas.{sound, cycle_down, cycle_up, started, rooted, told}
use Rattle.dg_walks.proofs.RowLemmas.{direct_agree, is_graph}

pub sound_graph : (doc : Doc) (targets : Node → List Node) (graph : Graph) (ns : List Node)
    → ns ≡ nodes doc → length ns < 2 ^ 32 → IsGraphOf (nodes doc) targets graph → IsSound graph
sound_graph doc targets graph ns are few g =
    sound (nodes doc) targets graph g (omega (arith, ap length are, few))

pub direct_graph : (doc : Doc) (graph : Graph) (lists : List (List Edge))
    → lists ≡ edge_lists doc → rows_of graph ≡ map (row_of follow.Direct) lists
    → IsGraphOf (nodes doc) (direct_targets doc) graph
direct_graph doc graph lists are is = is_graph doc follow.Direct is_direct direct_agree graph lists
    are is

from_closed : {N : Type 0} (targets : N → List N) (n : N)
    → walks.IsReached targets (targets n) n → IsOnCycle targets n
from_closed targets n w =
    let r = started targets (targets n) n w in (suc r.2.0, omega arith, (r.0, r.1, r.2.1))

to_closed : {N : Type 0} (targets : N → List N) (n : N) → IsOnCycle targets n
    → walks.IsReached targets (targets n) n
to_closed targets n (zero, le, w) = absurd (omega arith)
to_closed targets n (suc edges, le, w) = rooted targets (targets n) n (w.0, w.1, (edges, w.2))

pub told_on_cycle : (doc : Doc) (graph : Graph) (marks : List Bool)
    → IsGraphOf (nodes doc) (direct_targets doc) graph
    → TellsExactly graph (IsOnCycle (successors graph)) marks
    → marks ≡ map (is_on_cycle doc) (nodes doc)
told_on_cycle doc graph marks g tells =
    told (nodes doc) graph (IsOnCycle (successors graph)) (is_on_cycle doc) marks g.counted tells
    (λ k n at. let law = (cycles_by_short_walks doc n (in_got (nodes doc) k n at)).0 in (
      λ on. law.1 (to_closed (direct_targets doc) n
          (cycle_down (nodes doc) (direct_targets doc) graph g k n at on)),
      λ t. cycle_up (nodes doc) (direct_targets doc) graph g (once_nodes doc) k n at
          (from_closed (direct_targets doc) n (law.0 t)),
    ))
