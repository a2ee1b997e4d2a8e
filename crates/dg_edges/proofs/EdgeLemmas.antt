-- The edges of a node by numbers: those of its dependencies, and those of its calls.
use Rattle.std.proofs.Common.{◌≡◌, ℕ, zero, suc, ◌+◌, ◌<◌, ◌≤◌, List, [], ◌∷◌, ◌++◌, length, get_or, map, take, filter_map, Contains, Option, Some, None, option_and_then, option_to_list, append_assoc, refl, sym, ap, subst, ◌∙◌, arith}
use Rattle.std.specs.List.{cons_option, range_with_len, enumerate_from, IsDistinct}
use Rattle.std.proofs.lemmas.List.{append-nil, take_more, map-append}
use Rattle.std.proofs.lemmas.List.Elements.{filter_map-append}
use Rattle.dg_decl.specs.declared.document.Doc.{Doc}
use Rattle.dg_decl.specs.declared.graph.Node.{Node}
use Rattle.dg_decl.specs.declared.graph.Edge.{Edge}
use Rattle.dg_decl.specs.Components.{class_count}
use Rattle.dg_decl.specs.Graph.{same_node, Dependency, node_of, kinds_of, candidates, nodes, deps, edge_kind, edge_to, needed_edges, called_edge, calls_of, edges, numbered_edges, edge_lists}
use Rattle.dg_decl.proofs.GraphLemmas.{node_is_candidate}
use Rattle.dg_decl.proofs.MemberLemmas.{out_flat_map, out_map, out_range}
use Rattle.dg_decl.proofs.NodesOnce.{nodes_are_the_reachable_ones}
use Rattle.dg_edges.specs.Numbered.{numbered, edge_of, needed_from, called_by}

-- ---- one dependency more

cons_is : {A : Type 0} (o : Option A) (xs : List A) → cons_option o xs ≡ option_to_list o ++ xs
cons_is None xs = refl
cons_is (Some x) xs = refl

cons_more : {A : Type 0} (o : Option A) (xs ys : List A)
    → cons_option o (xs ++ ys) ≡ cons_option o xs ++ ys
cons_more None xs ys = refl
cons_more (Some x) xs ys = refl

needed_push : (ns : List Node) (k : ℕ) (ds : List Dependency) (d : Dependency)
    → needed_from ns k (ds ++ d ∷ [])
    ≡ needed_from ns k ds
    ++ option_to_list (edge_of ns (edge_kind d.mode) (suc (k + length ds)) d)
unfolding needed_from
needed_push ns k [] d =
    cons_is (edge_of ns (edge_kind d.mode) (suc k) d) []
    ∙ append-nil (option_to_list (edge_of ns (edge_kind d.mode) (suc k) d))
    ∙ ap (λ (n : ℕ). option_to_list (edge_of ns (edge_kind d.mode) (suc n) d)) (omega arith)
needed_push ns k (e ∷ es) d =
    let more : ℕ → List Edge =
    λ (n : ℕ). option_to_list (edge_of ns (edge_kind d.mode) (suc n) d) in
    let place : k + 1 + length es ≡ k + suc (length es) = omega arith in
    ap (λ (rest : List Edge). cons_option (edge_of ns (edge_kind e.mode) (suc k) e) rest)
    (needed_push ns (k + 1) es d)
    ∙ cons_more (edge_of ns (edge_kind e.mode) (suc k) e) (needed_from ns (k + 1) es)
    (more (k + 1 + length es))
    ∙ ap (λ (n : ℕ). needed_from ns k (e ∷ es) ++ more n) place

pub needed_none : (ns : List Node) (old : List Edge) → old ≡ old ++ needed_from ns 0 []
unfolding needed_from
needed_none ns old = sym (append-nil old)

length_take : {A : Type 0} (xs : List A) (i : ℕ) → i < length xs → length (take i xs) ≡ i
length_take [] i lt = absurd (omega arith)
length_take (x ∷ xs) zero lt = refl
length_take (x ∷ xs) (suc i) lt = ap suc (length_take xs i (omega arith))

-- the edge of one dependency more
pub needed_more : (ns : List Node) (ds : List Dependency) (i : ℕ) (d : Dependency)
    (old mid new : List Edge) (edge : Option Edge) → i < length ds → d ≡ get_or ds i d
    → mid ≡ old ++ needed_from ns 0 (take i ds)
    → edge ≡ edge_of ns (edge_kind d.mode) (suc i) d → new ≡ mid ++ option_to_list edge
    → new ≡ old ++ needed_from ns 0 (take (i + 1) ds)
needed_more ns ds i d old mid new edge lt is before one e =
    let more : ℕ → List Edge =
    λ (n : ℕ). option_to_list (edge_of ns (edge_kind d.mode) (suc n) d) in
    let whole : take (i + 1) ds ≡ take i ds ++ d ∷ [] =
    take_more ds i d lt ∙ ap (λ (x : Dependency). take i ds ++ x ∷ []) (sym is) in
    let place : i ≡ 0 + length (take i ds) = omega (arith, length_take ds i lt) in
    e ∙ ap (λ (es : List Edge). es ++ option_to_list edge) before
    ∙ append_assoc old (needed_from ns 0 (take i ds)) (option_to_list edge)
    ∙ ap (λ (o : Option Edge). old ++ (needed_from ns 0 (take i ds) ++ option_to_list o)) one
    ∙ ap (λ (n : ℕ). old ++ (needed_from ns 0 (take i ds) ++ more n)) place
    ∙ ap (λ (es : List Edge). old ++ es) (sym (needed_push ns 0 (take i ds) d))
    ∙ ap (λ (xs : List Dependency). old ++ needed_from ns 0 xs) (sym whole)

-- ---- all of a node

twice : {A B C : Type 0} (f : A → Option B) (g : B → Option C) (xs : List A)
    → filter_map g (filter_map f xs) ≡ filter_map (λ x. option_and_then g (f x)) xs
twice f g [] = refl
twice f g (x ∷ xs) = by f g xs (f x) (twice f g xs)
  where
    by : {A B C : Type 0} (f : A → Option B) (g : B → Option C) (xs : List A) (o : Option B)
        → filter_map g (filter_map f xs) ≡ filter_map (λ x. option_and_then g (f x)) xs
        → filter_map g (cons_option o (filter_map f xs))
        ≡ cons_option (option_and_then g o) (filter_map (λ x. option_and_then g (f x)) xs)
    by f g xs None rest = rest
    by f g xs (Some y) rest = ap (cons_option (g y)) rest

-- those of its dependencies, and then those of its calls
pub edges_are : (doc : Doc) (n : Node) (ns : List Node) (ds : List Dependency)
    (first whole : List Edge) → ns ≡ nodes doc → ds ≡ deps doc n
    → first ≡ [] ++ needed_from ns 0 ds → whole ≡ first ++ called_by ns ds (calls_of doc n)
    → whole ≡ numbered_edges doc n
unfolding needed_from called_by edges numbered_edges
edges_are doc n ns ds first whole here is e f =
    f ∙ ap (λ (es : List Edge). es ++ called_by ns ds (calls_of doc n)) e
    ∙ ap (λ (xs : List Dependency). needed_from ns 0 xs ++ called_by ns xs (calls_of doc n)) is
    ∙ ap (λ (ms : List Node). needed_from ms 0 (deps doc n)
    ++ called_by ms (deps doc n) (calls_of doc n)) here
    ∙ ap (λ (es : List Edge). es ++ called_by (nodes doc) (deps doc n) (calls_of doc n))
    (sym (twice (λ (p : ℕ × Dependency). edge_to (edge_kind p.1.mode) (suc p.0) p.1)
    (numbered (nodes doc)) (enumerate_from 0 (deps doc n))))
    ∙ ap (λ (es : List Edge). filter_map (numbered (nodes doc)) (needed_edges (deps doc n)) ++ es)
    (sym (twice (called_edge (deps doc n)) (numbered (nodes doc)) (calls_of doc n)))
    ∙ sym (filter_map-append (numbered (nodes doc)) (needed_edges (deps doc n))
    (filter_map (called_edge (deps doc n)) (calls_of doc n)))

-- one node more
pub lists_more : (doc : Doc) (ns : List Node) (i : ℕ) (n : Node) (old new : List (List Edge))
    (edges : List Edge) → i < length ns → n ≡ get_or ns i n
    → old ≡ map (numbered_edges doc) (take i ns) → edges ≡ numbered_edges doc n
    → new ≡ old ++ edges ∷ [] → new ≡ map (numbered_edges doc) (take (i + 1) ns)
lists_more doc ns i n old new edges lt is before one e =
    e ∙ ap (λ (ls : List (List Edge)). ls ++ edges ∷ []) before
    ∙ ap (λ (es : List Edge). map (numbered_edges doc) (take i ns) ++ es ∷ []) one
    ∙ sym (map-append (numbered_edges doc) (take i ns) (n ∷ []))
    ∙ ap (λ (x : Node). map (numbered_edges doc) (take i ns ++ x ∷ [])) is
    ∙ ap (map (numbered_edges doc)) (sym (take_more ns i n lt))

-- a reachable node stands in a class that there is
class_small : (doc : Doc) (n : Node) → Contains (nodes doc) n → n.class < class_count doc
unfolding candidates
class_small doc n among =
    let c = out_flat_map (λ (c : ℕ). map (node_of c) (kinds_of doc c))
    (range_with_len 0 (class_count doc)) n (node_is_candidate doc n among) in
    let k = out_map (node_of c.0) (kinds_of doc c.0) n c.2 in
    let lt : c.0 < class_count doc = out_range (class_count doc) c.0 c.1 in
    let same : c.0 ≡ n.class = ap (λ (m : Node). m.class) k.2 in
    omega arith

pub node_small : (doc : Doc) (ns : List Node) (i : ℕ) (n : Node) → ns ≡ nodes doc
    → i < length ns → n ≡ get_or ns i n → n.class < class_count doc
node_small doc ns i n e lt is =
    class_small doc n (subst (λ (xs : List Node). Contains xs n) e (i, lt, sym is))

take_past : {A : Type 0} (xs : List A) (i : ℕ) → length xs ≤ i → take i xs ≡ xs
take_past [] zero le = refl
take_past [] (suc i) le = refl
take_past (x ∷ xs) zero le = absurd (omega arith)
take_past (x ∷ xs) (suc i) le = ap (λ (ys : List _). x ∷ ys) (take_past xs i (omega arith))

pub lists_end : (doc : Doc) (ns : List Node) (i : ℕ) (lists : List (List Edge)) → ns ≡ nodes doc
    → length ns ≤ i → lists ≡ map (numbered_edges doc) (take i ns) → lists ≡ edge_lists doc
unfolding edge_lists
lists_end doc ns i lists e past is =
    is ∙ ap (map (numbered_edges doc)) (take_past ns i past ∙ e)

pub all_differ : (doc : Doc) (ns : List Node) → ns ≡ nodes doc → IsDistinct same_node ns
all_differ doc ns e =
    subst (IsDistinct same_node) (sym e) ((nodes_are_the_reachable_ones doc).once)
