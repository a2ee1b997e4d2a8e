-- Productions are what producers are reached from, against the edges over which they are passed on.
use Rattle.std.proofs.Common.{◌≡◌, ◌↔◌, inl, inr, ℕ, suc, ◌+◌, ◌<◌, ◌≤◌, Bool, true, false, cond}
use Rattle.std.proofs.Common.{not, List, [], ◌∷◌, ◌++◌, length, get_or, map, filter, filter_map}
use Rattle.std.proofs.Common.{position, slice_get, Contains, Option, Some, None, option_map, refl}
use Rattle.std.proofs.Common.{sym, ap, subst, ◌∙◌, arith}
use Rattle.std.specs.List.{cons_option, enumerate_from}
use Rattle.std.proofs.lemmas.Bool.{cases_lt, false≢true}
use Rattle.std.proofs.lemmas.List.{length-map}
use Rattle.std.proofs.lemmas.List.Elements.{Contains-push, Contains-push_cases}
use Rattle.std.proofs.lemmas.List.Elements.{Contains-append_left, Contains-get_or, filter-append}
use Rattle.std.proofs.lemmas.Option.{none-some, slice_get-map, get_or_from_slice_get}
use Rattle.dg_types.specs.declared.key.Mode.{Mode}
use Rattle.dg_types.specs.declared.key.Mode.TheVariants as mode
use Rattle.dg_num.specs.declared.graph.Graph.{Graph}
use Rattle.dg_num.specs.Counts.{IsReversed}
use Rattle.dg_num.specs.Graph.{node_count, successors}
use Rattle.dg_num.specs.Walks.{Walk, IsReached, IsTrueAt, TellsExactly}
use Rattle.dg_num.proofs.Marks.{marked_within}
use Rattle.dg_num.proofs.Rows.{HasEdge-reversed, HasEdge-back}
use Rattle.dg_num.proofs.WalkLaws.{Walk-reversed}
use Rattle.dg_decl.specs.declared.document.Doc.{Doc}
use Rattle.dg_decl.specs.declared.binding.BindRef.{BindRef}
use Rattle.dg_decl.specs.declared.binding.BindRef.TheVariants as binding
use Rattle.dg_decl.specs.declared.graph.Node.{Node}
use Rattle.dg_decl.specs.declared.graph.NodeKind.{NodeKind}
use Rattle.dg_decl.specs.declared.graph.NodeKind.TheVariants as node
use Rattle.dg_decl.specs.declared.graph.Edge.{Edge}
use Rattle.dg_decl.specs.declared.graph.EdgeKind.TheVariants as edge
use Rattle.dg_decl.specs.Graph.{node_of, Dependency, deps, target, targets, nodes, EdgeTo}
use Rattle.dg_decl.specs.Graph.{edge_kind, edge_to, needed_edges, is_param, is_called_mode}
use Rattle.dg_decl.specs.Graph.{called_at, called_edge, calls_of, edges, numbered_edges, edge_lists}
use Rattle.dg_decl.specs.Graph.{inner_of, targets_by}
use Rattle.dg_decl.specs.Sizes.{is_producer, is_provider_form, passed_on, IsProduction}
use Rattle.dg_decl.specs.Sizes.{is_production}
use Rattle.dg_decl.proofs.MemberLemmas.{in_got, in_front, the_one, out_option_map, out_and_then}
use Rattle.dg_decl.proofs.GraphLemmas.{productions_by_short_walks}
use Rattle.dg_walks.specs.declared.rows.Follow.TheVariants as follow
use Rattle.dg_walks.specs.Rows.{row_of, rows_of, IsGraphOf}
use Rattle.dg_walks.specs.Passed.{passes_on, passed_row, passed_rows, with_marked}
use Rattle.dg_walks.proofs.NumberLemmas.{walk_down, walk_up, started, rooted, told}
use Rattle.dg_walks.proofs.RowLemmas.{target_of, is_followed, row_leads, row_got, counted}

-- ---- the numbers that are marked

abbrev pub Marked : List Bool → ℕ → List ℕ → Type 0
Marked marks i found = (k : ℕ) → Contains found k ↔ ((k < i) × IsTrueAt marks k)

pub none_marked : (marks : List Bool) (found : List ℕ) → found ≡ [] → Marked marks 0 found
none_marked marks found is k = (
  λ c. absurd (let lt : c.0 < length found = c.1 in omega (arith, ap length is)),
  λ m. absurd (let lt : k < 0 = m.0 in omega arith),
)

pub marked_more : (marks : List Bool) (i : ℕ) (found : List ℕ) (b : Bool)
    → get_or marks i false ≡ b → Marked marks i found
    → Marked marks (i + 1) (with_marked found b i)
marked_more marks i found true at m k = (
  λ c. elim (Contains-push_cases found i k c) [
    | inl old ↦ (let h = (m k).0 old in let lt : k < i = h.0 in (omega arith, h.1))
    | inr e ↦ (let P : ℕ → Type 0 = λ x. get_or marks x false ≡ true in (omega arith, subst P e at))
  ],
  λ h. (let lt : k < i + 1 = h.0 in elim (cases_lt k i) [
    | inl before ↦ Contains-append_left found (i ∷ []) k ((m k).1 (before, h.1))
    | inr after ↦ (let P : ℕ → Type 0 = Contains (found ++ i ∷ []) in
        let same : i ≡ k = omega arith in subst P same (Contains-push found i))
  ]),
)
marked_more marks i found false at m k = (
  λ c. (let h = (m k).0 c in let lt : k < i = h.0 in (omega arith, h.1)),
  λ h. (let lt : k < i + 1 = h.0 in elim (cases_lt k i) [
    | inl before ↦ (m k).1 (before, h.1)
    | inr after ↦ (let same : i ≡ k = omega arith in
        absurd (false≢true (sym at ∙ ap (λ x. get_or marks x false) same ∙ h.1)))
  ]),
)

pub all_marked : (marks : List Bool) (i : ℕ) (found : List ℕ) → length marks ≤ i
    → Marked marks i found → (k : ℕ) → Contains found k ↔ IsTrueAt marks k
all_marked marks i found le m k = (
  λ c. ((m k).0 c).1,
  λ t. (m k).1 (let lt = marked_within marks k t in omega arith, t),
)

-- ---- over which edges a production is passed on

unless : (b : Bool) (xs : List Node) → cond b [] xs ≡ cond (not b) xs []
unless true xs = refl
unless false xs = refl

passed_kind : (doc : Doc) (class : ℕ) (k : NodeKind)
    → passed_on doc (node_of class k)
    ≡ cond (passes_on doc (node_of class k)) (targets doc (node_of class k)) []
unfolding passed_on
passed_kind doc class (node.Bound b) = passed_bound b
  where
    passed_bound : (b : BindRef) → passed_on doc (node_of class (node.Bound b))
        ≡ cond (passes_on doc (node_of class (node.Bound b)))
        (targets doc (node_of class (node.Bound b))) []
    passed_bound (binding.Exposed dep entry) = refl
    passed_bound other = refl
passed_kind doc class (node.Multi k) =
    unless (is_provider_form (inner_of k.core)) (targets doc (node_of class (node.Multi k)))
passed_kind doc class (node.Opt k) = refl
passed_kind doc class (node.EntryOf i) = refl

passed : (doc : Doc) (n : Node)
    → passed_on doc n ≡ cond (passes_on doc n) (targets doc n) []
passed doc n = passed_kind doc n.class n.kind

-- ---- the edges of dependencies lead to the targets

abbrev is_asked : EdgeTo → Bool
is_asked = is_followed follow.Asked

one_asked : (m : Mode) (number : ℕ) (o : Option Node) (es : List EdgeTo) (ns : List Node)
    → map target_of (filter is_asked es) ≡ ns
    → map target_of (filter is_asked (cons_option (option_map
    (λ x. record { kind = edge_kind m; param = number; to = x }) o) es)) ≡ cons_option o ns
one_asked m number None es ns e = e
one_asked mode.Instance number (Some x) es ns e = ap (λ xs. x ∷ xs) e
one_asked mode.Provider number (Some x) es ns e = ap (λ xs. x ∷ xs) e
one_asked mode.Lazy number (Some x) es ns e = ap (λ xs. x ∷ xs) e
one_asked mode.ProviderLazy number (Some x) es ns e = ap (λ xs. x ∷ xs) e
one_asked mode.Produced number (Some x) es ns e = ap (λ xs. x ∷ xs) e
one_asked mode.Producer number (Some x) es ns e = ap (λ xs. x ∷ xs) e

abbrev needed_from : ℕ → List Dependency → List EdgeTo
needed_from k ds =
    filter_map (λ p. edge_to (edge_kind p.1.mode) (suc p.0) p.1) (enumerate_from k ds)

all_asked : (k : ℕ) (ds : List Dependency)
    → map target_of (filter is_asked (needed_from k ds)) ≡ filter_map target ds
all_asked k [] = refl
all_asked k (d ∷ ds) =
    one_asked d.mode (suc k) (target d) (needed_from (k + 1) ds) (filter_map target ds)
    (all_asked (k + 1) ds)

if_some : {A : Type 0} (b : Bool) (o : Option A) (x : A) → cond b o None ≡ Some x → o ≡ Some x
if_some true o x e = e
if_some false o x e = absurd (none-some x e)

called_kind : (ds : List Dependency) (name : List ℕ) (e : EdgeTo) → called_edge ds name ≡ Some e
    → is_asked e ≡ false
called_kind ds name e is =
    let place = out_and_then (called_at ds) (position (is_param name) ds) e is in
    let d = out_and_then (λ (d : Dependency). cond (is_called_mode d.mode)
    (edge_to edge.Called (suc place.0) d) None) (slice_get ds place.0) e place.2 in
    let to = if_some (is_called_mode d.0.mode) (edge_to edge.Called (suc place.0) d.0) e d.2 in
    let o = out_option_map _ (target d.0) e to in
    ap (λ (x : EdgeTo). is_asked x) (sym o.2)

none_asked : (o : Option EdgeTo) (es : List EdgeTo)
    → ((e : EdgeTo) → o ≡ Some e → is_asked e ≡ false) → filter is_asked es ≡ []
    → filter is_asked (cons_option o es) ≡ []
none_asked None es unasked rest = rest
none_asked (Some e) es unasked rest = rw (unasked e refl) rest

no_called : (ds : List Dependency) (names : List (List ℕ))
    → filter is_asked (filter_map (called_edge ds) names) ≡ []
no_called ds [] = refl
no_called ds (name ∷ names) =
    none_asked (called_edge ds name) (filter_map (called_edge ds) names)
    (λ e is. called_kind ds name e is) (no_called ds names)

append_none : {A : Type 0} (xs ys : List A) → ys ≡ [] → xs ++ ys ≡ xs
append_none [] ys e = e
append_none (x ∷ xs) ys e = ap (λ zs. x ∷ zs) (append_none xs ys e)

asked_targets : (doc : Doc) (n : Node) → targets_by is_asked doc n ≡ targets doc n
unfolding edges
asked_targets doc n =
    let called = filter_map (called_edge (deps doc n)) (calls_of doc n) in
    ap (map target_of) (filter-append is_asked (needed_edges (deps doc n))
    (filter_map (called_edge (deps doc n)) (calls_of doc n))
    ∙ append_none (filter is_asked (needed_edges (deps doc n)))
    (filter is_asked (filter_map (called_edge (deps doc n)) (calls_of doc n)))
    (no_called (deps doc n) (calls_of doc n)))
    ∙ all_asked 0 (deps doc n)

-- ---- the graph

map_cond : (doc : Doc) (b : Bool) (row : List ℕ) (ns : List Node)
    → map (slice_get (nodes doc)) row ≡ map Some ns
    → map (slice_get (nodes doc)) (cond b row []) ≡ map Some (cond b ns [])
map_cond doc true row ns e = e
map_cond doc false row ns e = refl

passed_leads : (doc : Doc) (n : Node) → Contains (nodes doc) n
    → map (slice_get (nodes doc)) (passed_row doc n (numbered_edges doc n))
    ≡ map Some (passed_on doc n)
passed_leads doc n is =
    map_cond doc (passes_on doc n) (row_of follow.Asked (numbered_edges doc n)) (targets doc n)
    (row_leads doc follow.Asked n is ∙ ap (map Some) (asked_targets doc n))
    ∙ ap (map Some) (sym (passed doc n))

abbrev numbered_row : Doc → Node → List ℕ
numbered_row doc n = passed_row doc n (numbered_edges doc n)

zipped : (doc : Doc) (ns : List Node)
    → passed_rows doc ns (map (numbered_edges doc) ns) ≡ map (numbered_row doc) ns
zipped doc [] = refl
zipped doc (n ∷ ns) = ap (λ rows. numbered_row doc n ∷ rows) (zipped doc ns)

pub passed_graph : (doc : Doc) (graph : Graph) (ns : List Node) (lists : List (List Edge))
    → ns ≡ nodes doc → lists ≡ edge_lists doc → rows_of graph ≡ passed_rows doc ns lists
    → IsGraphOf (nodes doc) (passed_on doc) graph
unfolding edge_lists
passed_graph doc graph ns lists ns-are are is =
    let all : rows_of graph ≡ map (numbered_row doc) (nodes doc) =
    is ∙ (λ i. passed_rows doc (ns-are i) (are i)) ∙ zipped doc (nodes doc) in
    record {
      counted = counted graph (map (numbered_row doc) (nodes doc)) all
          ∙ length-map (nodes doc) (numbered_row doc);
      rows = λ k n at.
          (let row : successors graph k ≡ numbered_row doc n =
          row_got graph (map (numbered_row doc) (nodes doc)) k (numbered_row doc n) all
          (slice_get-map (numbered_row doc) (nodes doc) k ∙ ap (option_map (numbered_row doc)) at)
          in
          ap (map (slice_get (nodes doc))) row ∙ passed_leads doc n (in_got (nodes doc) k n at));
    }

pub lists_counted : (doc : Doc) (ns : List Node) (lists : List (List Edge))
    → ns ≡ nodes doc → lists ≡ edge_lists doc → length lists ≡ length ns
unfolding edge_lists
lists_counted doc ns lists ns-are are =
    ap length are ∙ length-map (nodes doc) (numbered_edges doc) ∙ sym (ap length ns-are)

-- ---- the answer

mark_at : (doc : Doc) (k : ℕ) (n : Node) → slice_get (nodes doc) k ≡ Some n
    → get_or (map (is_producer doc) (nodes doc)) k false ≡ is_producer doc n
mark_at doc k n at =
    get_or_from_slice_get (map (is_producer doc) (nodes doc)) k (is_producer doc n) false
    (slice_get-map (is_producer doc) (nodes doc) k ∙ ap (option_map (is_producer doc)) at)

-- the numbers of the `produces` lines
abbrev pub AreProducers : Doc → List ℕ → Type 0
AreProducers doc found =
    (k : ℕ) → Contains found k ↔ IsTrueAt (map (is_producer doc) (nodes doc)) k

pub are_producers : (doc : Doc) (from found : List ℕ) (marks : List Bool) → from ≡ found
    → marks ≡ map (is_producer doc) (nodes doc)
    → ((k : ℕ) → Contains found k ↔ IsTrueAt marks k) → AreProducers doc from
are_producers doc from found marks same are each =
    let P : List Bool → Type 0 = λ ms. (k : ℕ) → Contains found k ↔ IsTrueAt ms k in
    subst (AreProducers doc) (sym same) (subst P are each)

pub producers_below : (doc : Doc) (graph turned : Graph) (from : List ℕ)
    → IsGraphOf (nodes doc) (passed_on doc) graph → IsReversed graph turned
    → AreProducers doc from → (k d : ℕ) → k < length from → get_or from k d < node_count turned
producers_below doc graph turned from g rev are k d lt =
    let marks = map (is_producer doc) (nodes doc) in
    let t = (are (get_or from k d)).0 (Contains-get_or from k d lt) in
    omega (
      arith,
      marked_within (map (is_producer doc) (nodes doc)) (get_or from k d) t,
      length-map (nodes doc) (is_producer doc),
      g.counted,
      rev.same_nodes,
    )

to_producer : (doc : Doc) (graph turned : Graph) (found : List ℕ)
    → IsGraphOf (nodes doc) (passed_on doc) graph → IsReversed graph turned
    → AreProducers doc found → (k : ℕ) (n : Node) → slice_get (nodes doc) k ≡ Some n
    → IsReached (successors turned) found k → IsProduction doc n
to_producer doc graph turned found g rev are k n at r =
    let back = Walk-reversed turned graph (λ a b e. HasEdge-back graph turned rev b a e)
    r.2.0 r.0 k r.2.1 in
    let d = walk_down (nodes doc) (passed_on doc) graph g r.2.0 k r.0 n at back in (
      d.0,
      rooted (passed_on doc) (n ∷ []) d.0 (n, in_front n [], (r.2.0, d.2)),
      sym (mark_at doc r.0 d.0 d.1) ∙ (are r.0).0 r.1,
    )

from_producer : (doc : Doc) (graph turned : Graph) (found : List ℕ)
    → IsGraphOf (nodes doc) (passed_on doc) graph → IsReversed graph turned
    → AreProducers doc found → (k : ℕ) (n : Node) → slice_get (nodes doc) k ≡ Some n
    → IsProduction doc n → IsReached (successors turned) found k
from_producer doc graph turned found g rev are k n at p =
    let s = started (passed_on doc) (n ∷ []) p.0 p.1 in
    let P : Node → Type 0 = λ x. Walk (passed_on doc) s.2.0 x p.0 in
    let w = subst P (sym (the_one s.0 n s.1)) s.2.1 in
    let u = walk_up (nodes doc) (passed_on doc) graph g s.2.0 k n p.0 at w in (
      u.0,
      (are u.0).1 (mark_at doc u.0 p.0 u.1 ∙ p.2),
      (
        s.2.0,
        Walk-reversed graph turned (HasEdge-reversed graph turned rev) s.2.0 k u.0 u.2,
      ),
    )

pub told_productions : (doc : Doc) (graph turned : Graph) (found : List ℕ) (marks : List Bool)
    → IsGraphOf (nodes doc) (passed_on doc) graph → IsReversed graph turned
    → AreProducers doc found → TellsExactly turned (IsReached (successors turned) found) marks
    → marks ≡ map (is_production doc) (nodes doc)
told_productions doc graph turned found marks g rev are tells =
    told (nodes doc) turned (IsReached (successors turned) found) (is_production doc) marks
    (rev.same_nodes ∙ g.counted) tells
    (λ k n at. let law = productions_by_short_walks doc n (in_got (nodes doc) k n at) in (
      λ r. law.1 (to_producer doc graph turned found g rev are k n at r),
      λ t. from_producer doc graph turned found g rev are k n at (law.0 t),
    ))
