-- The laws of the graph of a document.
use Rattle.std.specs.Prelude.{◌≡◌, ◌↔◌, ℕ, IsTrue, Bool, [], filter, map, slice_get, Option, Some, Contains}
use Rattle.dg_decl.specs.declared.document.Doc.{Doc}
use Rattle.dg_decl.specs.declared.graph.Edge.{Edge}
use Rattle.dg_decl.specs.declared.graph.EdgeKind.{EdgeKind}
use Rattle.dg_decl.specs.declared.graph.Node.{Node}
use Rattle.dg_decl.specs.Stages.Bindings.{bindings_stage}
use Rattle.dg_decl.specs.Graph.{targets, entry_nodes, candidates, nodes, AreNodes, OnCycle, is_on_cycle, OnCall, is_on_call, needed_targets, EdgeTo, edges, numbered_edges}
use Rattle.dg_decl.specs.Sizes.{IsProduction, is_production, IsDepth, depth, size, is_shared, weight}
use Rattle.dg_num.specs.Weights.{AddsUp}

-- an entry point is a candidate, and what a candidate needs is one
abbrev pub TargetsAreCandidates : Type 0
TargetsAreCandidates =
    (doc : Doc) → ((n : Node) → Contains (entry_nodes doc) n → Contains (candidates doc) n)
    × ((m n : Node) → Contains (candidates doc) m → Contains (targets doc m) n
    → Contains (candidates doc) n)

-- the nodes of a document are those that are reached from its entry points, each once
abbrev pub NodesAreTheReachableOnes : Type 0
NodesAreTheReachableOnes = (doc : Doc) → AreNodes doc (nodes doc)

-- no other list of candidates, in their order, is that of the reachable nodes
abbrev pub OneListOfNodes : Type 0
OneListOfNodes =
    (doc : Doc) → (is_kept : Node → Bool)
    → AreNodes doc (filter is_kept (candidates doc)) → filter is_kept (candidates doc) ≡ nodes doc

-- of a node, no walk of direct or called edges is too long to be found
abbrev pub CyclesByShortWalks : Type 0
CyclesByShortWalks =
    (doc : Doc) → (n : Node) → Contains (nodes doc) n
    → (IsTrue (is_on_cycle doc n) ↔ OnCycle doc n) × (IsTrue (is_on_call doc n) ↔ OnCall doc n)

-- and none over which a production is passed on
abbrev pub ProductionsByShortWalks : Type 0
ProductionsByShortWalks =
    (doc : Doc) → (n : Node) → Contains (nodes doc) n
    → IsTrue (is_production doc n) ↔ IsProduction doc n

-- no node lies on a closed walk of direct edges, nor on one of direct and called edges with a
-- called one
abbrev pub HasNoCycle : Doc → Type 0
HasNoCycle doc = (n : Node) → Contains (nodes doc) n → (OnCycle doc n → ⊥) × (OnCall doc n → ⊥)

-- where the stage of bindings finds nothing, there is no cycle
abbrev pub StagesLeaveNoCycle : Type 0
StagesLeaveNoCycle = (doc : Doc) → bindings_stage doc ≡ [] → HasNoCycle doc

-- without cycles the depth of a node is the number of nodes on its longest walk
abbrev pub DepthsAreLongestWalks : Type 0
DepthsAreLongestWalks =
    (doc : Doc) → HasNoCycle doc → (n : Node) → Contains (nodes doc) n
    → IsDepth doc n (depth doc n)

-- each weight is the size of the node and what its edges add, and no other numbers are
pub record AreWeights (doc : Doc) (weights : Node → ℕ) : Type 0 where
  pub add_up : AddsUp (Contains (nodes doc)) (needed_targets doc) (size doc) (is_shared doc) weights
  pub only : (other : Node → ℕ) → AddsUp (Contains (nodes doc)) (needed_targets doc) (size doc)
      (is_shared doc) other
      → (n : Node) → Contains (nodes doc) n → other n ≡ weights n

-- without cycles the weights add up
abbrev pub WeightsAddUp : Type 0
WeightsAddUp = (doc : Doc) → HasNoCycle doc → AreWeights doc (weight doc)

-- where an edge leads, with its kind and its parameter
pub record Led : Type 0 where
  pub kind : EdgeKind
  pub param : ℕ
  pub to : Option Node

abbrev pub edge_led : EdgeTo → Led
edge_led e = record { kind = e.kind; param = e.param; to = Some e.to }

abbrev pub numbered_led : Doc → Edge → Led
numbered_led doc e = record { kind = e.kind; param = e.param; to = slice_get (nodes doc) e.to }

-- the edges of a node by numbers are its edges, each at the number of the node to which it leads
abbrev pub EdgesAreNumbered : Type 0
EdgesAreNumbered =
    (doc : Doc) → (n : Node) → Contains (nodes doc) n
    → map (numbered_led doc) (numbered_edges doc n) ≡ map edge_led (edges doc n)
