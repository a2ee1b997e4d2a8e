-- A cycle that a call in a body closes. A body's calls are known by an equation alone, so the walks
-- are followed with the calls of each node given beside the document.
use Rattle.std.proofs.Common.{◌≡◌, refl, ap}
use Rattle.std.specs.Prelude.{ℕ, zero, suc, Bool, true, false, ◌&&◌, ◌||◌, List, [], ◌∷◌, ◌++◌, length, map, filter, filter_map, codes}
use Rattle.std.specs.List.{list_any}
use Rattle.dg_lex.specs.Bytes.{Bytes}
use Rattle.dg_decl.specs.declared.binding.BindRef.TheVariants as binding
use Rattle.dg_decl.specs.declared.graph.Node.{Node}
use Rattle.dg_decl.specs.declared.graph.NodeKind.{NodeKind}
use Rattle.dg_decl.specs.declared.graph.NodeKind.TheVariants as node
use Rattle.dg_decl.specs.Walks.{is_within}
use Rattle.dg_decl.specs.Graph.{EdgeTo, node_of, same_node, deps, candidates, needed_edges, called_edge, calls_of, is_direct, is_called, is_on_call}
use Rattle.dg_decl.proofs.JudgeWords.{judges}
use Rattle.dg_decl.proofs.FoldEquations.{folds}
use Rattle.dg_decl.proofs.ExamplesStages.{closing}

-- the parameters that the body of each node calls
abbrev Calls : Type 0
Calls = Node → List Bytes

abbrev edges_by : Calls → Node → List EdgeTo
edges_by calls n =
    needed_edges (deps closing n) ++ filter_map (called_edge (deps closing n)) (calls n)

abbrev needed_by : Calls → Node → List Node
needed_by calls n = map (λ e. e.to) (filter (λ e. is_direct e || is_called e) (edges_by calls n))

abbrev called_by : Calls → Node → List Node
called_by calls n = map (λ e. e.to) (filter is_called (edges_by calls n))

abbrev leads_by : Calls → List Node → Node → Bool
leads_by calls = is_within same_node (needed_by calls) (length (candidates closing))

abbrev on_call_by : Calls → Node → Bool
on_call_by calls n =
    list_any
    (λ m. leads_by calls (n ∷ []) m
    && list_any (λ t. leads_by calls (t ∷ []) n) (called_by calls m))
    (candidates closing)

-- the member with the index 2 calls its parameter, and no other node calls one
abbrev calls_at : NodeKind → List Bytes
calls_at (node.Bound (binding.Member (suc (suc zero)))) = codes "p" ∷ []
calls_at other = []

calls_are : (k : NodeKind) (c : ℕ) → calls_of closing (node_of c k) ≡ calls_at k
unfolding judges
calls_are (node.Bound (binding.Member zero)) c = refl
calls_are (node.Bound (binding.Member (suc zero))) c = refl
calls_are (node.Bound (binding.Member (suc (suc zero)))) c = simp folds refl
calls_are (node.Bound (binding.Member (suc (suc (suc zero))))) c = refl
calls_are (node.Bound (binding.Member (suc (suc (suc (suc zero)))))) c = refl
calls_are (node.Bound (binding.Member (suc (suc (suc (suc (suc zero))))))) c = refl
calls_are (node.Bound (binding.Member (suc (suc (suc (suc (suc (suc zero)))))))) c = refl
calls_are (node.Bound (binding.Member (suc (suc (suc (suc (suc (suc (suc i))))))))) c = refl
calls_are (node.Bound (binding.ClassItem i)) c = refl
calls_are (node.Bound (binding.Arg i)) c = refl
calls_are (node.Bound binding.Default) c = refl
calls_are (node.Bound (binding.Exposed d e)) c = refl
calls_are (node.Multi k) c = refl
calls_are (node.Opt k) c = refl
calls_are (node.EntryOf i) c = refl

calls_of_each : calls_of closing ≡ (λ n. calls_at n.kind)
calls_of_each = λ i n. calls_are n.kind n.class i

pub a_class_on_a_called_cycle :
    is_on_call closing (node_of 8 (node.Bound (binding.ClassItem 0))) ≡ true
unfolding judges
a_class_on_a_called_cycle =
    ap (λ calls. on_call_by calls (node_of 8 (node.Bound (binding.ClassItem 0)))) calls_of_each

pub a_member_on_a_called_cycle :
    is_on_call closing (node_of 8 (node.Bound (binding.Member 2))) ≡ true
unfolding judges
a_member_on_a_called_cycle =
    ap (λ calls. on_call_by calls (node_of 8 (node.Bound (binding.Member 2)))) calls_of_each

pub an_entry_before_a_called_cycle :
    is_on_call closing (node_of 8 (node.EntryOf 5)) ≡ false
unfolding judges
an_entry_before_a_called_cycle =
    ap (λ calls. on_call_by calls (node_of 8 (node.EntryOf 5))) calls_of_each
