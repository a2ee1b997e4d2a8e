-- The nodes of a document, and what is told of them by their numbers.
use Rattle.std.proofs.Common.{◌≡◌, ℕ, zero, suc, ◌<◌, List, [], ◌∷◌, length, get_or, map, slice_get, Contains, sym, ap, ◌∙◌, arith}
use Rattle.std.specs.List.{range_with_len}
use Rattle.std.specs.Option.{option_map_or}
use Rattle.dg_decl.specs.declared.document.Doc.{Doc}
use Rattle.dg_decl.specs.declared.graph.Edge.{Edge}
use Rattle.dg_decl.specs.declared.graph.Node.{Node}
use Rattle.dg_decl.specs.Components.{class_count}
use Rattle.dg_decl.specs.Graph.{candidates, edge_lists, kinds_of, node_of, nodes, numbered_edges}
use Rattle.dg_decl.proofs.GraphLemmas.{node_is_candidate}
use Rattle.dg_decl.proofs.MemberLemmas.{out_flat_map, out_map, out_range}

small : (doc : Doc) (n : Node) → Contains (candidates doc) n → n.class < class_count doc
unfolding candidates
small doc n h =
    let c = out_flat_map (λ c. map (node_of c) (kinds_of doc c)) (range_with_len 0 (class_count
    doc)) n h in
    let k = out_map (node_of c.0) (kinds_of doc c.0) n c.2 in
    let lt : c.0 < class_count doc = out_range (class_count doc) c.0 c.1 in
    let same : c.0 ≡ n.class = ap (λ (m : Node). m.class) k.2 in
    omega arith

pub class_small : (doc : Doc) (n : Node) → Contains (nodes doc) n → n.class < class_count doc
class_small doc n c = small doc n (node_is_candidate doc n c)

edges_there : (f : Node → List Edge) (ns : List Node) (i : ℕ) (n : Node) → i < length ns
    → get_or ns i n ≡ n → option_map_or (λ es. es) (slice_get (map f ns) i) [] ≡ f n
edges_there f [] i n lt e = absurd (omega arith)
edges_there f (m ∷ ms) zero n lt e = ap f e
edges_there f (m ∷ ms) (suc i) n lt e = edges_there f ms i n (omega arith) e

pub edges_of : (doc : Doc) (ns : List Node) (all : List (List Edge)) (i : ℕ) (n : Node)
    → ns ≡ nodes doc → all ≡ edge_lists doc → i < length ns → get_or ns i n ≡ n
    → option_map_or (λ es. es) (slice_get all i) [] ≡ numbered_edges doc n
unfolding edge_lists
edges_of doc ns all i n are lists lt at =
    ap (λ (es : List (List Edge)). option_map_or (λ e. e) (slice_get es i) []) lists
    ∙ edges_there (numbered_edges doc) (nodes doc) i n (omega (arith, ap length are))
    (ap (λ (ms : List Node). get_or ms i n) (sym are) ∙ at)
