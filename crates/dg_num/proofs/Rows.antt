use Rattle.std.proofs.Common.{◌≡◌, ◌≢◌, ◌<◌, ◌≤◌, ◌++◌, ◌∷◌, [], ℕ, zero, suc, List, Vec, Global}
use Rattle.std.proofs.Common.{length, get_or, set, map, refl, sym, ap, ◌∙◌, ⊎_elim, arith}
use Rattle.std.proofs.lemmas.Bool.{cases_lt}
use Rattle.std.proofs.lemmas.List.{get_or-map, get_or-set_same, get_or-set_other, get_or_past}
use Rattle.std.proofs.lemmas.List.{length-map, map-set, map_push}
use Rattle.dg_num.specs.declared.graph.Graph.{Graph}
use Rattle.dg_num.specs.Counts.{IsReversed}
use Rattle.dg_num.specs.Graph.{node_count, row_at, successors, HasEdge, IsSound}
use Rattle.dg_num.proofs.Counts.{count_of_contained, contained_from_count_of}

-- the row as it was read
pub row_at_read : (rows : List (Vec ℕ Global)) (i : ℕ) (row : Vec ℕ Global) → i < length rows
    → row ≡ get_or rows i row → row_at rows i ≡ row.items
unfolding row_at
row_at_read rows i row lt e = get_or-map (λ r. r.items) rows i row [] lt ∙ ap (λ r. r.items) (sym e)

pub row_at_past : (rows : List (Vec ℕ Global)) (i : ℕ) → length rows ≤ i → row_at rows i ≡ []
unfolding row_at
row_at_past rows i past = get_or_past (map (λ r. r.items) rows) i []
    (omega (arith, length-map rows (λ r. r.items)))

pub row_at-set_same : (rows : List (Vec ℕ Global)) (i : ℕ) (row : Vec ℕ Global) → i < length rows
    → row_at (set rows i row) i ≡ row.items
unfolding row_at
row_at-set_same rows i row lt = ap (λ xs. get_or xs i []) (map-set (λ r. r.items) rows i row)
    ∙ get_or-set_same (map (λ r. r.items) rows) i row.items []
    (omega (arith, length-map rows (λ r. r.items)))

pub row_at-set_other : (rows : List (Vec ℕ Global)) (i j : ℕ) (row : Vec ℕ Global) → j ≢ i
    → row_at (set rows i row) j ≡ row_at rows j
unfolding row_at
row_at-set_other rows i j row ne = ap (λ xs. get_or xs j []) (map-set (λ r. r.items) rows i row)
    ∙ get_or-set_other (map (λ r. r.items) rows) i j row.items [] ne

-- rows with nothing in them, and one more
pub row_at-push_empty : (rows : List (Vec ℕ Global)) (row : Vec ℕ Global) → row.items ≡ []
    → ((i : ℕ) → row_at rows i ≡ []) → (i : ℕ) → row_at (rows ++ row ∷ []) i ≡ []
unfolding row_at
row_at-push_empty rows row empty all i =
    ap (λ xs. get_or xs i []) (map_push (λ r. r.items) rows row
    ∙ ap (λ x. map (λ r. r.items) rows ++ x ∷ []) empty)
    ∙ push_nil (map (λ r. r.items) rows) i (all i)
  where
    push_nil : (xss : List (List ℕ)) (i : ℕ) → get_or xss i [] ≡ []
        → get_or (xss ++ [] ∷ []) i [] ≡ []
    push_nil [] zero e = refl
    push_nil [] (suc i) e = refl
    push_nil (xs ∷ xss) zero e = e
    push_nil (xs ∷ xss) (suc i) e = push_nil xss i e

-- only nodes have edges
pub node_from_edge : (graph : Graph) (a b : ℕ) → HasEdge graph a b → a < node_count graph
node_from_edge graph a b edge =
    ⊎_elim
    (λ (lt : a < node_count graph). lt)
    (λ (past : node_count graph ≤ a). let none : length (successors graph a) ≡ 0 =
    ap length (row_at_past graph.next.items a past) in absurd (omega (arith, none, edge.1)))
    (cases_lt a (node_count graph))

pub HasEdge-reversed : (graph turned : Graph) → IsReversed graph turned → (a b : ℕ)
    → HasEdge graph a b → HasEdge turned b a
HasEdge-reversed graph turned r a b edge =
    contained_from_count_of (successors turned b) a
    (omega (arith, r.same_edges b a, count_of_contained (successors graph a) b edge))

pub HasEdge-back : (graph turned : Graph) → IsReversed graph turned → (a b : ℕ) → HasEdge turned b a
    → HasEdge graph a b
HasEdge-back graph turned r a b edge = contained_from_count_of (successors graph a) b
    (omega (arith, r.same_edges b a, count_of_contained (successors turned b) a edge))

pub IsSound-reversed : (graph turned : Graph) → IsSound graph → IsReversed graph turned
    → IsSound turned
IsSound-reversed graph turned sound r = record {
  in_range = λ a b edge. omega (
    arith,
    node_from_edge graph b a
        (HasEdge-back graph turned r b a edge),
    r.same_nodes,
  );
  small = omega (arith, sound.small, r.same_nodes);
}

pub IsReversed-back : (graph turned : Graph) → IsReversed graph turned → IsReversed turned graph
IsReversed-back graph turned r = record {
  same_nodes = sym r.same_nodes;
  same_edges =
      λ a b. sym (r.same_edges b a);
}
