-- Walks over the graph of component classes are walks of parents and dependencies.
use Rattle.std.proofs.Common.{◌≡◌, inl, inr, ℕ, zero, suc, ◌+◌, ◌<◌, ◌≤◌, Bool, true, false, List, [], ◌∷◌, ◌++◌, length, get_or, map, slice_get, Vec, Contains, Some, None, option_map, option_to_list, IsTrue, unwrap_or, refl, sym, ap, subst, ◌∙◌, arith, length-append}
use Rattle.std.specs.Prelude.{slice_index_or}
use Rattle.std.specs.Global.{Global}
use Rattle.std.proofs.lemmas.Bool.{cases_lt}
use Rattle.std.proofs.lemmas.List.{length-map, map-append}
use Rattle.std.proofs.lemmas.Option.{slice_get-map, get_or_from_slice_get, unwrap_or-slice_get}
use Rattle.dg_num.specs.declared.graph.Graph.{Graph}
use Rattle.dg_num.specs.Graph.{node_count, successors, row_at, IsSound}
use Rattle.dg_num.specs.Walks.{Walk, IsReached, TellsExactly}
use Rattle.dg_decl.specs.declared.document.Doc.{Doc}
use Rattle.dg_decl.specs.Walks as walks
use Rattle.dg_decl.specs.Walks.{root, step}
use Rattle.dg_decl.specs.Components.{class_count, class_named, class_of_number, component_classes, dependency_in, deps_of, own_members, parent_of}
use Rattle.dg_decl.specs.Stages.Dependencies.{stands_on, is_below, BelowByShortWalks}
use Rattle.dg_decl.proofs.NumberBounds.{below_of_each, each_append, each_option, each_filter_map, below_and_then}
use Rattle.dg_decl.proofs.ComponentLemmas.{class_below, parent_below}
use Rattle.dg_decl.proofs.MemberLemmas.{the_one, in_front}
use Rattle.dg_slots.proofs.ClassLemmas.{class_at, classes_counted}
use Rattle.dg_compdep.specs.Below.{stood_on, IsGraphOf, TellsBelow, TellFirst, TellsAllBelow, row_in}

abbrev tests_of : Vec Bool Global → List Bool
tests_of row = row.items

abbrev numbers_of : Vec ℕ Global → List ℕ
numbers_of row = row.items

pub edges_at : (doc : Doc) (graph : Graph) → IsGraphOf (component_classes doc) graph → (c : ℕ)
    → c < class_count doc → successors graph c ≡ stands_on doc c
unfolding row_at stands_on
edges_at doc graph g c lt =
    ap (λ (rows : List (List ℕ)). get_or rows c []) g
    ∙ get_or_from_slice_get (map stood_on (component_classes doc)) c (stood_on (class_of_number
    doc c)) []
    (slice_get-map stood_on (component_classes doc) c
    ∙ ap (option_map stood_on) (class_at doc c lt))

past_end : {A : Type 0} (xs : List A) (i : ℕ) (d : A) → length xs ≤ i → get_or xs i d ≡ d
past_end [] i d le = refl
past_end (x ∷ xs) zero d le = absurd (omega arith)
past_end (x ∷ xs) (suc i) d le = past_end xs i d (omega arith)

pub nodes_are : (doc : Doc) (graph : Graph) → IsGraphOf (component_classes doc) graph
    → node_count graph ≡ class_count doc
nodes_are doc graph g =
    sym (length-map graph.next.items numbers_of) ∙ ap length g
    ∙ length-map (component_classes doc) stood_on ∙ classes_counted doc

no_edges : (doc : Doc) (graph : Graph) → IsGraphOf (component_classes doc) graph → (c : ℕ)
    → class_count doc ≤ c → successors graph c ≡ []
unfolding row_at
no_edges doc graph g c le =
    past_end (map numbers_of graph.next.items) c []
    (omega (arith, nodes_are doc graph g, length-map graph.next.items numbers_of))

pub stands_small : (doc : Doc) (c n : ℕ) → Contains (stands_on doc c) n → n < class_count doc
unfolding stands_on deps_of
stands_small doc c n among =
    below_of_each (class_count doc) _ n
    (each_append (class_count doc) (option_to_list (parent_of doc c)) _
    (each_option (class_count doc) (parent_of doc c) (λ p e. parent_below doc c p e))
    (each_filter_map (class_count doc) _ (own_members doc c)
    (λ s k e. below_and_then (class_count doc) (class_named doc) (dependency_in s.item)
    (λ name is j. class_below doc name j) k e)))
    among

none_there : (n : ℕ) → Contains [] n → ⊥
none_there n c = (let lt : c.0 < 0 = c.1 in omega arith)

edge_small : (doc : Doc) (graph : Graph) → IsGraphOf (component_classes doc) graph → (a b : ℕ)
    → Contains (successors graph a) b → b < class_count doc
edge_small doc graph g a b c =
    elim (cases_lt a (class_count doc)) [
      | inl lt ↦ stands_small doc a b (subst (λ (xs : List ℕ). Contains xs b) (edges_at doc graph
          g a lt) c)
      | inr le ↦ absurd (none_there b (subst (λ (xs : List ℕ). Contains xs b) (no_edges doc graph
          g a le) c))
    ]

pub is_sound : (doc : Doc) (graph : Graph) → IsGraphOf (component_classes doc) graph
    → class_count doc ≤ 128 → IsSound graph
is_sound doc graph g few = record {
  in_range = λ a b c. (let small : b < class_count doc = edge_small doc graph g a b c in
      omega (arith, nodes_are doc graph g));
  small = omega (arith, nodes_are doc graph g);
}

-- ---- walks

abbrev Stands : Doc → ℕ → ℕ → Type 0
Stands doc from n = walks.IsReached (stands_on doc) (from ∷ []) n

to_reached : (doc : Doc) (graph : Graph) → IsGraphOf (component_classes doc) graph
    → (from edges a b : ℕ)
    → a < class_count doc → Stands doc from a → Walk (successors graph) edges a b
    → Stands doc from b
to_reached doc graph g from zero a b lt r w = subst (Stands doc from) w r
to_reached doc graph g from (suc e) a b lt r w =
    let next = subst (λ (xs : List ℕ). Contains xs w.0) (edges_at doc graph g a lt) w.1 in
    to_reached doc graph g from e w.0 b (stands_small doc a w.0 next) (step a w.0 r next) w.2

walk_more : (targets : ℕ → List ℕ) (edges a m n : ℕ) → Walk targets edges a m
    → Contains (targets m) n
    → Walk targets (suc edges) a n
walk_more targets zero a m n w c = (n, subst (λ x. Contains (targets x) n) (sym w) c, refl)
walk_more targets (suc e) a m n w c = (w.0, w.1, walk_more targets e w.0 m n w.2 c)

record Walked (doc : Doc) (graph : Graph) (from n : ℕ) : Type 0 where
  small : n < class_count doc
  edges : ℕ
  walk : Walk (successors graph) edges from n

from_reached : (doc : Doc) (graph : Graph) → IsGraphOf (component_classes doc) graph → (from : ℕ)
    → from < class_count doc → (n : ℕ) → Stands doc from n → Walked doc graph from n
from_reached doc graph g from lt n (root m c) =
    let same : from ≡ m = the_one m from c in
    record { small = omega arith; edges = 0; walk = same }
from_reached doc graph g from lt n (step m o r c) =
    let before = from_reached doc graph g from lt m r in
    record {
      small = stands_small doc m o c;
      edges = suc before.edges;
      walk = walk_more (successors graph) before.edges from m o before.walk
          (subst (λ (xs : List ℕ). Contains xs o) (sym (edges_at doc graph g m before.small)) c);
    }

same_test : (a b : Bool) → (IsTrue a → IsTrue b) → (IsTrue b → IsTrue a) → a ≡ b
same_test true true to from = refl
same_test false false to from = refl
same_test true false to from = sym (to refl)
same_test false true to from = from refl

pub tells_below : (doc : Doc) (graph : Graph) (from : ℕ) (marks : List Bool)
    → IsGraphOf (component_classes doc) graph → from < class_count doc → BelowByShortWalks
    → TellsExactly graph (IsReached (successors graph) (from ∷ [])) marks
    → TellsBelow doc from marks
tells_below doc graph from marks g lt short tells to small =
    let in_graph : to < node_count graph = omega (arith, nodes_are doc graph g) in
    let marked = tells.exact to in_graph in
    let below = short doc from to in
    same_test (slice_index_or marks to false) (is_below doc from to)
    (λ t. below.1 (walked_there (marked.0 t)))
    (λ t. marked.1 (let w = from_reached doc graph g from lt to (below.0 t) in
    (from, in_front from [], (w.edges, w.walk))))
  where
    walked_there : IsReached (successors graph) (from ∷ []) to → Stands doc from to
    walked_there r =
        let start : from ≡ r.0 = the_one r.0 from r.1 in
        let w = subst (λ x. Walk (successors graph) r.2.0 x to) (sym start) r.2.1 in
        to_reached doc graph g from r.2.0 from to lt (root from (in_front from [])) w

-- ---- a row for each class

front_of : {A : Type 0} (xs : List A) (y : A) (k : ℕ) (d : A) → k < length xs
    → get_or (xs ++ y ∷ []) k d ≡ get_or xs k d
front_of [] y k d lt = absurd (omega arith)
front_of (x ∷ xs) y zero d lt = refl
front_of (x ∷ xs) y (suc k) d lt = front_of xs y k d (omega arith)

last_of : {A : Type 0} (xs : List A) (y : A) (d : A) → get_or (xs ++ y ∷ []) (length xs) d ≡ y
last_of [] y d = refl
last_of (x ∷ xs) y d = last_of xs y d

pub tell_more : (doc : Doc) (n : ℕ) (old new : List (Vec Bool Global)) (row : Vec Bool Global)
    → TellFirst doc n old → new ≡ old ++ row ∷ [] → TellsBelow doc n row.items
    → TellFirst doc (n + 1) new
unfolding row_in
tell_more doc n old new row tells is more =
    record {
      counted = omega (arith, tells.counted, ap length is, length-append old (row ∷ []));
      each = λ from to lt small. elim (cases_lt from n) [
        | inl before ↦ ap (λ (rows : List (Vec Bool Global)). get_or (get_or (map tests_of rows)
            from []) to false) is
            ∙ ap (λ (rows : List (List Bool)). get_or (get_or rows from []) to false) (map-append
            tests_of old (row ∷ []))
            ∙ ap (λ (r : List Bool). get_or r to false) (front_of (map tests_of old) row.items
            from []
            (omega (arith, tells.counted, length-map old tests_of)))
            ∙ tells.each from to before small
        | inr after ↦
            (let here : from ≡ length (map tests_of old) = omega (
              arith,
              tells.counted,
              length-map
                  old tests_of,
            ) in
            let last : from ≡ n = omega arith in
            ap (λ (rows : List (Vec Bool Global)). get_or (get_or (map tests_of rows) from []) to
            false) is
            ∙ ap (λ (rows : List (List Bool)). get_or (get_or rows from []) to false) (map-append
            tests_of old (row ∷ []))
            ∙ ap (λ k. get_or (get_or (map tests_of old ++ row.items ∷ []) k []) to false) here
            ∙ ap (λ (r : List Bool). get_or r to false) (last_of (map tests_of old) row.items [])
            ∙ more to small ∙ ap (λ k. is_below doc k to) (sym last))
      ];
    }

pub none_told : (doc : Doc) (rows : List (Vec Bool Global)) → rows ≡ [] → TellFirst doc 0 rows
none_told doc rows is = record {
  counted = ap length is;
  each = λ from to lt small. absurd (omega arith);
}

pub all_told : (doc : Doc) (n : ℕ) (rows : List (Vec Bool Global)) → n ≡ class_count doc
    → TellFirst doc n rows
    → TellsAllBelow doc rows
all_told doc n rows e tells = subst (λ k. TellFirst doc k rows) e tells

-- ---- rows read at numbers

pub none_read : {A : Type 0} (xs : List A) (i : ℕ) (d : A) → None ≡ slice_get xs i
    → d ≡ get_or xs i d
none_read xs i d e = ap (λ o. unwrap_or o d) e ∙ unwrap_or-slice_get xs i d

pub row_read : (rows : List (Vec Bool Global)) (i : ℕ) (row : Vec Bool Global)
    → Some row ≡ slice_get rows i
    → row.items ≡ row_in rows i
unfolding row_in
row_read rows i row e =
    sym (get_or_from_slice_get (map tests_of rows) i row.items []
    (slice_get-map tests_of rows i ∙ ap (option_map tests_of) (sym e)))

pub no_row_read : (rows : List (Vec Bool Global)) (i : ℕ) → None ≡ slice_get rows i
    → [] ≡ row_in rows i
unfolding row_in
no_row_read rows i e =
    none_read (map tests_of rows) i [] (ap (option_map tests_of) e
    ∙ sym (slice_get-map tests_of rows i))
