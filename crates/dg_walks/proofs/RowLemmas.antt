-- The graph of the edges that are followed is a graph of the nodes to which they lead.
use Rattle.std.proofs.Common.{◌≡◌, ℕ, Bool, true, false, cond, ◌||◌, List, [], ◌∷◌, length, get_or}
use Rattle.std.proofs.Common.{map, filter, slice_get, Contains, Option, Some, None, option_map}
use Rattle.std.proofs.Common.{refl, sym, ap, ◌∙◌}
use Rattle.std.specs.List.{cons_option}
use Rattle.std.proofs.lemmas.List.{length-map}
use Rattle.std.proofs.lemmas.List.Elements.{filter_agree}
use Rattle.std.proofs.lemmas.Option.{slice_get-map, get_or_from_slice_get}
use Rattle.dg_num.specs.declared.graph.Graph.{Graph}
use Rattle.dg_num.specs.Graph.{node_count, row_at, successors}
use Rattle.dg_decl.specs.declared.document.Doc.{Doc}
use Rattle.dg_decl.specs.declared.graph.Node.{Node}
use Rattle.dg_decl.specs.declared.graph.Edge.{Edge}
use Rattle.dg_decl.specs.declared.graph.EdgeKind.{EdgeKind}
use Rattle.dg_decl.specs.declared.graph.EdgeKind.TheVariants as edge
use Rattle.dg_decl.specs.Graph.{nodes, EdgeTo, edges, numbered_edges, edge_lists, is_direct}
use Rattle.dg_decl.specs.Graph.{is_called, targets_by}
use Rattle.dg_decl.specs.GraphLaws.{Led, edge_led, numbered_led}
use Rattle.dg_decl.proofs.MemberLemmas.{in_got}
use Rattle.dg_decl.proofs.EdgeNumbers.{edges_are_numbered}
use Rattle.dg_walks.specs.declared.rows.Follow.{Follow}
use Rattle.dg_walks.specs.declared.rows.Follow.TheVariants as follow
use Rattle.dg_walks.specs.Rows.{follows, row_of, rows_of, IsGraphOf}

-- ---- rows of one node

-- the nodes to which edges lead that are followed
abbrev led_row : Follow → List Led → List (Option Node)
led_row f [] = []
led_row f (l ∷ ls) = cond (follows f l.kind) (l.to ∷ led_row f ls) (led_row f ls)

one_number : (doc : Doc) (b : Bool) (k : ℕ) (row : List ℕ) (ls : List (Option Node))
    → map (slice_get (nodes doc)) row ≡ ls
    → map (slice_get (nodes doc)) (cons_option (cond b (Some k) None) row)
    ≡ cond b (slice_get (nodes doc) k ∷ ls) ls
one_number doc true k row ls e = ap (λ xs. slice_get (nodes doc) k ∷ xs) e
one_number doc false k row ls e = e

numbered_row : (doc : Doc) (f : Follow) (es : List Edge)
    → map (slice_get (nodes doc)) (row_of f es) ≡ led_row f (map (numbered_led doc) es)
numbered_row doc f [] = refl
numbered_row doc f (e ∷ es) =
    one_number doc (follows f e.kind) e.to (row_of f es) (led_row f (map (numbered_led doc) es))
    (numbered_row doc f es)

abbrev pub target_of : EdgeTo → Node
target_of e = e.to

abbrev pub is_followed : Follow → EdgeTo → Bool
is_followed f e = follows f e.kind

one_target : (b : Bool) (e : EdgeTo) (es : List EdgeTo) (ls : List (Option Node))
    → ls ≡ map Some (map target_of es)
    → cond b (Some e.to ∷ ls) ls ≡ map Some (map target_of (cond b (e ∷ es) es))
one_target true e es ls is = ap (λ xs. Some e.to ∷ xs) is
one_target false e es ls is = is

edge_row : (f : Follow) (es : List EdgeTo)
    → led_row f (map edge_led es) ≡ map Some (map target_of (filter (is_followed f) es))
edge_row f [] = refl
edge_row f (e ∷ es) =
    one_target (follows f e.kind) e (filter (is_followed f) es) (led_row f (map edge_led es))
    (edge_row f es)

pub row_leads : (doc : Doc) (f : Follow) (n : Node) → Contains (nodes doc) n
    → map (slice_get (nodes doc)) (row_of f (numbered_edges doc n))
    ≡ map Some (targets_by (is_followed f) doc n)
row_leads doc f n is =
    numbered_row doc f (numbered_edges doc n) ∙ ap (led_row f) (edges_are_numbered doc n is)
    ∙ edge_row f (edges doc n)

-- ---- which edges are followed

direct_kind : (k : EdgeKind) (p : ℕ) (n : Node)
    → follows follow.Direct k ≡ is_direct (record { kind = k; param = p; to = n })
direct_kind edge.Direct p n = refl
direct_kind edge.Called p n = refl
direct_kind edge.Deferred p n = refl

called_kind : (k : EdgeKind) (p : ℕ) (n : Node)
    → follows follow.Called k ≡ is_called (record { kind = k; param = p; to = n })
called_kind edge.Direct p n = refl
called_kind edge.Called p n = refl
called_kind edge.Deferred p n = refl

abbrev is_needed : EdgeTo → Bool
is_needed e = is_direct e || is_called e

needed_kind : (k : EdgeKind) (p : ℕ) (n : Node)
    → follows follow.Needed k ≡ is_needed (record { kind = k; param = p; to = n })
needed_kind edge.Direct p n = refl
needed_kind edge.Called p n = refl
needed_kind edge.Deferred p n = refl

pub direct_agree : (e : EdgeTo) → is_followed follow.Direct e ≡ is_direct e
direct_agree e = direct_kind e.kind e.param e.to

pub called_agree : (e : EdgeTo) → is_followed follow.Called e ≡ is_called e
called_agree e = called_kind e.kind e.param e.to

pub needed_agree : (e : EdgeTo) → is_followed follow.Needed e ≡ (is_direct e || is_called e)
needed_agree e = needed_kind e.kind e.param e.to

-- ---- the graph

pub row_got : (graph : Graph) (xss : List (List ℕ)) (k : ℕ) (row : List ℕ)
    → rows_of graph ≡ xss → slice_get xss k ≡ Some row → successors graph k ≡ row
unfolding row_at
row_got graph xss k row is got =
    ap (λ (rows : List (List ℕ)). get_or rows k []) is ∙ get_or_from_slice_get xss k row [] got

pub counted : (graph : Graph) (xss : List (List ℕ)) → rows_of graph ≡ xss
    → node_count graph ≡ length xss
counted graph xss is = sym (length-map graph.next.items (λ row. row.items)) ∙ ap length is

pub is_graph : (doc : Doc) (f : Follow) (by : EdgeTo → Bool)
    → ((e : EdgeTo) → is_followed f e ≡ by e) → (graph : Graph) (lists : List (List Edge))
    → lists ≡ edge_lists doc → rows_of graph ≡ map (row_of f) lists
    → IsGraphOf (nodes doc) (targets_by by doc) graph
unfolding edge_lists
is_graph doc f by agree graph lists are is =
    let all : rows_of graph ≡ map (row_of f) (map (numbered_edges doc) (nodes doc)) =
    is ∙ ap (map (row_of f)) are in
    record {
      counted = counted graph (map (row_of f) (map (numbered_edges doc) (nodes doc))) all
          ∙ length-map (map (numbered_edges doc) (nodes doc)) (row_of f)
          ∙ length-map (nodes doc) (numbered_edges doc);
      rows = λ k n at.
          (let row : successors graph k ≡ row_of f (numbered_edges doc n) =
          row_got graph (map (row_of f) (map (numbered_edges doc) (nodes doc))) k
          (row_of f (numbered_edges doc n)) all
          (slice_get-map (row_of f) (map (numbered_edges doc) (nodes doc)) k
          ∙ ap (option_map (row_of f)) (slice_get-map (numbered_edges doc) (nodes doc) k
          ∙ ap (option_map (numbered_edges doc)) at)) in
          ap (map (slice_get (nodes doc))) row ∙ row_leads doc f n (in_got (nodes doc) k n at)
          ∙ ap (map Some) (ap (map target_of) (filter_agree (is_followed f) by agree
          (edges doc n))));
    }
