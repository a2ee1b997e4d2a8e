use Rattle.std.proofs.Common.{◌≡◌, ◌+◌, ◌-◌, ◌<◌, ◌≤◌, ◌⊎◌, ◌++◌, ◌∷◌, [], ℕ, Bool, true, false}
use Rattle.std.proofs.Common.{eqb, List, length, get_or, set, take, All, Contains, refl, sym, ap}
use Rattle.std.proofs.Common.{◌∙◌, subst, inl, inr, ⊎_elim, arith}
use Rattle.std.proofs.lemmas.Bool.{cases_eq, cases_lt, cases_Bool}
use Rattle.std.proofs.lemmas.List.{get_or_append_left, get_or_push, get_or-set_same}
use Rattle.std.proofs.lemmas.List.{get_or-set_other, length-set, length_push, take-append-le}
use Rattle.std.proofs.lemmas.List.{take_all}
use Rattle.std.proofs.lemmas.List.Elements.{All-from_get_or, Contains-append_left, Contains-get_or}
use Rattle.std.proofs.lemmas.List.Elements.{Contains-push_cases}
use Rattle.std.proofs.lemmas.List.Sums.{count_by-le-length}
use Rattle.dg_num.specs.declared.graph.Graph.{Graph}
use Rattle.dg_num.specs.Counts.{count_of}
use Rattle.dg_num.specs.Graph.{node_count, successors, HasEdge}
use Rattle.dg_num.specs.Walks.{Leads, IsTrueAt}
use Rattle.dg_num.proofs.Counts.{one_if, count_of-push_same, count_of-push_other}
use Rattle.dg_num.proofs.Counts.{count_of_contained, contained_from_count_of, place_of}
use Rattle.dg_num.proofs.Marks.{IsTrueAt-set, marked_within}
use Rattle.dg_num.proofs.WalkLaws.{Leads-trans, Leads-edge}

-- a search in depth: the nodes of the path lead to one another in turn, and those of the order are
-- done
pub record Visiting (graph : Graph) (seen : List Bool) (left path order : List ℕ) : Type 0 where
  pub for_seen : length seen ≡ node_count graph
  pub for_left : length left ≡ node_count graph
  pub bounded : (v : ℕ) → get_or left v 0 ≤ length (successors graph v)
  pub looked : (v k : ℕ) → get_or left v 0 ≤ k → k < length (successors graph v)
      → IsTrueAt seen (get_or (successors graph v) k 0)
  pub counts : (v : ℕ) → count_of order v + count_of path v ≡ one_if (get_or seen v false)
  pub done : (v : ℕ) → Contains order v → get_or left v 0 ≡ 0
  pub joined : (i j : ℕ) → i ≤ j → j < length path
      → Leads (successors graph) (get_or path i 0) (get_or path j 0)
  pub edges : (i k after : ℕ) → i ≤ k → k < length order → HasEdge graph (get_or order i 0) after
      → Contains (take (k + 1) order) after ⊎ Leads (successors graph) after (get_or order k 0)

pub Visiting-start : (graph : Graph) (seen : List Bool) (left path order : List ℕ)
    → length seen ≡ node_count graph → length left ≡ node_count graph
    → ((v : ℕ) → get_or left v 0 ≡ length (successors graph v))
    → ((v : ℕ) → get_or seen v false ≡ false) → path ≡ [] → order ≡ []
    → Visiting graph seen left path order
Visiting-start graph seen left path order n-seen n-left full none no-path no-order = record {
  for_seen = n-seen;
  for_left = n-left;
  bounded = λ v. omega (arith, full v);
  looked = λ v k le lt. absurd (omega (arith, full v, le, lt));
  counts = λ v. omega (
    arith,
    ap (λ xs. count_of xs v) no-path,
    ap (λ xs. count_of xs v) no-order,
    ap one_if (none v),
  );
  done = λ v has. absurd (omega (arith, has.1, ap length no-order));
  joined = λ i j le lt. absurd (omega (arith, lt, ap length no-path));
  edges = λ i k after le lt edge. absurd (omega (arith, lt, ap length no-order));
}

-- what is on the way or done is a node
pub Visiting-node : (graph : Graph) (seen : List Bool) (left path order : List ℕ)
    → Visiting graph seen left path order → (v : ℕ) → 1 ≤ count_of order v + count_of path v
    → v < node_count graph
Visiting-node graph seen left path order s v some =
    ⊎_elim
    (λ (yes : get_or seen v false ≡ true). omega (arith, marked_within seen v yes, s.for_seen))
    (λ (none : get_or seen v false ≡ false).
    absurd (omega (arith, some, s.counts v, ap one_if none)))
    (cases_Bool (get_or seen v false))

visiting_push : (graph : Graph) (seen : List Bool) (left path order : List ℕ) (node : ℕ)
    → Visiting graph seen left path order → node < node_count graph
    → ((i : ℕ) → i < length path → Leads (successors graph) (get_or path i 0) node)
    → get_or seen node false ≡ false → Visiting graph (set seen node true) left
    (path ++ node ∷ []) order
visiting_push graph seen left path order node s in-graph leads none =
    let lt : node < length seen = omega (arith, in-graph, s.for_seen) in
    let front : (i : ℕ) → i < length path
    → get_or (path ++ node ∷ []) i 0 ≡ get_or path i 0 =
    λ i h. get_or_append_left path (node ∷ []) 0 i h in
    let last : get_or (path ++ node ∷ []) (length path) 0 ≡ node =
    get_or_push path node 0 (length path) refl in
    record {
      for_seen = length-set seen node true ∙ s.for_seen;
      for_left = s.for_left;
      bounded = s.bounded;
      looked = λ v k le h. IsTrueAt-set seen node (get_or (successors graph v) k 0) lt
          (s.looked v k le h);
      counts = λ v.
          ⊎_elim
          (λ (e : node ≡ v). let P : ℕ → Type 0 =
          λ x. count_of order x + count_of (path ++ node ∷ []) x
          ≡ one_if (get_or (set seen node true) x false) in
          subst P e (omega (
            arith,
            s.counts node,
            ap one_if none,
            count_of-push_same path node node refl,
            ap one_if (get_or-set_same seen node true false lt),
          )))
          (λ (ne : node ≡ v → ⊥). omega (
            arith,
            s.counts v,
            count_of-push_other path node v ne,
            ap one_if (get_or-set_other seen node v true false (λ e. ne (sym e))),
          ))
          (cases_eq node v);
      done = s.done;
      joined = λ i j le h.
          ⊎_elim
          (λ (jl : j < length path).
          let P : ℕ → ℕ → Type 0 = λ a b. Leads (successors graph) a b in
          subst (λ a. P a (get_or (path ++ node ∷ []) j 0)) (sym (front i (omega arith)))
          (subst (λ b. P (get_or path i 0) b) (sym (front j jl)) (s.joined i j le jl)))
          (λ (jg : length path ≤ j).
          let ej : length path ≡ j = omega (arith, h, jg, length_push path node) in
          let at-j : get_or (path ++ node ∷ []) j 0 ≡ node =
          ap (λ x. get_or (path ++ node ∷ []) x 0) (sym ej) ∙ last in
          let P : ℕ → ℕ → Type 0 = λ a b. Leads (successors graph) a b in
          ⊎_elim
          (λ (il : i < length path). subst (λ a. P a (get_or (path ++ node ∷ []) j 0))
          (sym (front i il)) (subst (λ b. P (get_or path i 0) b) (sym at-j) (leads i il)))
          (λ (ig : length path ≤ i). let same : i ≡ j = omega (arith, le, ig, ej) in
          (0, ap (λ x. get_or (path ++ node ∷ []) x 0) same))
          (cases_lt i (length path)))
          (cases_lt j (length path));
      edges = s.edges;
    }

-- a node is put at the end of the path, if it wasn't seen before
pub Visiting-enter : (graph : Graph) (seen seen' : List Bool) (left path path' order : List ℕ)
    (node : ℕ) → Visiting graph seen left path order → node < node_count graph
    → ((i : ℕ) → i < length path → Leads (successors graph) (get_or path i 0) node)
    → ((get_or seen node false ≡ true) × (seen' ≡ seen) × (path' ≡ path))
    ⊎ ((get_or seen node false ≡ false) × (seen' ≡ set seen node true)
    × (path' ≡ path ++ node ∷ [])) → Visiting graph seen' left path' order × IsTrueAt seen' node
    × ((v : ℕ) → IsTrueAt seen v → IsTrueAt seen' v) × (length path' ≤ length path + 1)
Visiting-enter graph seen seen' left path path' order node s in-graph leads cases =
    let lt : node < length seen = omega (arith, in-graph, s.for_seen) in
    let P : List Bool → List ℕ → Type 0 =
    λ ss ps. Visiting graph ss left ps order × IsTrueAt ss node
    × ((v : ℕ) → IsTrueAt seen v → IsTrueAt ss v) × (length ps ≤ length path + 1) in
    ⊎_elim
    (λ (old : (get_or seen node false ≡ true) × (seen' ≡ seen) × (path' ≡ path)).
    subst (λ ss. P ss path') (sym old.1) (subst (λ ps. P seen ps) (sym old.2)
    (s, old.0, λ v h. h, omega arith)))
    (λ (new : (get_or seen node false ≡ false) × (seen' ≡ set seen node true)
    × (path' ≡ path ++ node ∷ [])). subst (λ ss. P ss path') (sym new.1)
    (subst (λ ps. P (set seen node true) ps) (sym new.2) (
      visiting_push graph seen left path order node s in-graph leads new.0,
      get_or-set_same seen node true false lt,
      λ v h. IsTrueAt-set seen node v lt h,
      omega (arith, length_push path node),
    )))
    cases

-- the last edge that was left of a node has been looked at
pub Visiting-look : (graph : Graph) (seen : List Bool) (left left' path order : List ℕ) (node : ℕ)
    → Visiting graph seen left path order → node < node_count graph → 1 ≤ get_or left node 0
    → left' ≡ set left node (get_or left node 0 - 1)
    → IsTrueAt seen (get_or (successors graph node) (get_or left node 0 - 1) 0)
    → Visiting graph seen left' path order
Visiting-look graph seen left left' path order node s in-graph some is marked =
    let l = get_or left node 0 in
    let lt : node < length left = omega (arith, in-graph, s.for_left) in
    let here : get_or (set left node (l - 1)) node 0 ≡ l - 1 =
    get_or-set_same left node (l - 1) 0 lt in
    let other : (v : ℕ) → (node ≡ v → ⊥)
    → get_or (set left node (l - 1)) v 0 ≡ get_or left v 0 =
    λ v ne. get_or-set_other left node v (l - 1) 0 (λ e. ne (sym e)) in
    let at : (v : ℕ) → node ≡ v → get_or (set left node (l - 1)) v 0 ≡ l - 1 =
    λ v e. ap (λ x. get_or (set left node (l - 1)) x 0) (sym e) ∙ here in
    let P : List ℕ → Type 0 = λ ls. Visiting graph seen ls path order in
    let made : P (set left node (l - 1)) = record {
      for_seen = s.for_seen;
      for_left = length-set left node (l - 1) ∙ s.for_left;
      bounded = λ v. ⊎_elim (λ (e : node ≡ v).
          omega (arith, at v e, s.bounded v, ap (λ x. get_or left x 0) e))
          (λ (ne : node ≡ v → ⊥). omega (arith, other v ne, s.bounded v)) (cases_eq node v);
      looked = λ v k le h.
          ⊎_elim
          (λ (e : node ≡ v).
          let same : l ≡ get_or left v 0 = ap (λ x. get_or left x 0) e in
          ⊎_elim
          (λ (less : k < l).
          let ek : l - 1 ≡ k = omega (arith, less, le, at v e, some) in
          let Q : ℕ → Type 0 = λ x. IsTrueAt seen x in
          subst Q (ap (λ x. get_or (successors graph x) (l - 1) 0) e
          ∙ ap (λ x. get_or (successors graph v) x 0) ek) marked)
          (λ (more : l ≤ k). s.looked v k (omega (arith, same, more)) h)
          (cases_lt k l))
          (λ (ne : node ≡ v → ⊥). s.looked v k (omega (arith, other v ne, le)) h)
          (cases_eq node v);
      counts = s.counts;
      done = λ v has. ⊎_elim (λ (e : node ≡ v).
          absurd (omega (arith, s.done v has, ap (λ x. get_or left x 0) e, some)))
          (λ (ne : node ≡ v → ⊥). other v ne ∙ s.done v has) (cases_eq node v);
      joined = s.joined;
      edges = s.edges;
    } in
    subst P (sym is) made

-- a node none of whose edges is left is done
pub Visiting-finish : (graph : Graph) (seen : List Bool) (left path rest order order' : List ℕ)
    (node : ℕ) → Visiting graph seen left path order → path ≡ rest ++ node ∷ []
    → get_or left node 0 ≡ 0 → order' ≡ order ++ node ∷ [] → Visiting graph seen left rest order'
Visiting-finish graph seen left path rest order order' node s path-is none order-is =
    let n = length order in
    let lens : length path ≡ length rest + 1 = ap length path-is ∙ length_push rest node in
    let front : (i : ℕ) → i < length rest
    → get_or path i 0 ≡ get_or rest i 0 =
    λ i h. ap (λ xs. get_or xs i 0) path-is ∙ get_or_append_left rest (node ∷ []) 0 i h in
    let top : get_or path (length rest) 0 ≡ node =
    ap (λ xs. get_or xs (length rest) 0) path-is ∙ get_or_push rest node 0 (length rest) refl in
    let whole = order ++ node ∷ [] in
    let long : length whole ≡ n + 1 = length_push order node in
    let old : (i : ℕ) → i < n → get_or whole i 0 ≡ get_or order i 0 =
    λ i h. get_or_append_left order (node ∷ []) 0 i h in
    let new : get_or whole n 0 ≡ node = get_or_push order node 0 n refl in
    let done : (v : ℕ) → Contains whole v
    → get_or left v 0 ≡ 0 = λ v has.
    ⊎_elim (s.done v) (λ (e : node ≡ v). ap (λ x. get_or left x 0) (sym e) ∙ none)
    (Contains-push_cases order node v has) in
    let P : List ℕ → Type 0 = λ os. Visiting graph seen left rest os in
    let made : P whole = record {
      for_seen = s.for_seen;
      for_left = s.for_left;
      bounded = s.bounded;
      looked = s.looked;
      counts = λ v.
          let on-path = ap (λ xs. count_of xs v) path-is in
          ⊎_elim
          (λ (e : node ≡ v). omega (
            arith,
            s.counts v,
            on-path,
            count_of-push_same rest node v e,
            count_of-push_same order node v e,
          ))
          (λ (ne : node ≡ v → ⊥). omega (
            arith,
            s.counts v,
            on-path,
            count_of-push_other rest node v ne,
            count_of-push_other order node v ne,
          ))
          (cases_eq node v);
      done = done;
      joined = λ i j le h.
          let Q : ℕ → ℕ → Type 0 = λ a b. Leads (successors graph) a b in
          subst (λ a. Q a (get_or rest j 0)) (front i (omega arith))
          (subst (λ b. Q (get_or path i 0) b) (front j h)
          (s.joined i j le (omega (arith, h, lens))));
      edges = λ i k after le h edge.
          ⊎_elim
          (λ (before : k < n).
          let E : ℕ → Type 0 = λ x. HasEdge graph x after in
          let T : List ℕ → Type 0 = λ xs. Contains xs after in
          let L : ℕ → Type 0 = λ x. Leads (successors graph) after x in
          ⊎_elim
          (λ (c : Contains (take (k + 1) order) after).
          inl (subst T (sym (take-append-le (k + 1) order (node ∷ []) (omega arith))) c))
          (λ (l : Leads (successors graph) after (get_or order k 0)).
          inr (subst L (sym (old k before)) l))
          (s.edges i k after le before (subst E (old i (omega arith)) edge)))
          (λ (at : n ≤ k).
          let ek : n ≡ k = omega (arith, at, h, long) in
          let u = get_or whole i 0 in
          let place = place_of (successors graph u) after edge in
          let zero' = done u (Contains-get_or whole i 0 (omega (arith, le, h))) in
          let M : ℕ → Type 0 = λ x. IsTrueAt seen x in
          let marked : IsTrueAt seen after =
          subst M place.2 (s.looked u place.0 (omega (arith, zero')) place.1) in
          let T : List ℕ → Type 0 = λ xs. Contains xs after in
          ⊎_elim
          (λ (ordered : 0 < count_of order after).
          inl (subst T (sym (take_all (k + 1) whole (omega (arith, ek, long))))
          (Contains-append_left order (node ∷ []) after
          (contained_from_count_of order after (omega arith)))))
          (λ (not-yet : count_of order after ≤ 0).
          let on-path = place_of path after (contained_from_count_of path after
          (omega (arith, s.counts after, ap one_if marked, not-yet))) in
          let leads = s.joined on-path.0 (length rest) (omega (arith, on-path.1, lens))
          (omega (arith, lens)) in
          let at-k : node ≡ get_or whole k 0 = sym new ∙ ap (λ x. get_or whole x 0) ek in
          let Q : ℕ → ℕ → Type 0 = λ a b. Leads (successors graph) a b in
          inr (subst (λ b. Q after b) (top ∙ at-k)
          (subst (λ a. Q a (get_or path (length rest) 0)) on-path.2 leads)))
          (cases_lt 0 (count_of order after)))
          (cases_lt k n);
    } in
    subst P (sym order-is) made

-- once the path is empty and all nodes are seen, each node is done once
pub Visiting-each : (graph : Graph) (seen : List Bool) (left path order : List ℕ)
    → Visiting graph seen left path order → length path ≡ 0
    → ((v : ℕ) → v < node_count graph → IsTrueAt seen v) → (v : ℕ) → v < node_count graph
    → count_of order v ≡ 1
Visiting-each graph seen left path order s empty all v lt =
    omega (
      arith,
      s.counts v,
      ap one_if (all v lt),
      count_by-le-length (λ other. eqb other v) path,
      empty,
    )

pub Visiting-nodes : (graph : Graph) (seen : List Bool) (left path order : List ℕ)
    → Visiting graph seen left path order → All (λ node. node < node_count graph) order
Visiting-nodes graph seen left path order s =
    All-from_get_or (λ node. node < node_count graph) order 0
    (λ i lt. Visiting-node graph seen left path order s (get_or order i 0)
    (omega (arith, count_of_contained order (get_or order i 0) (Contains-get_or order i 0 lt))))

pub Visiting-top : (graph : Graph) (seen : List Bool) (left path rest order : List ℕ) (node : ℕ)
    → Visiting graph seen left path order → path ≡ rest ++ node ∷ [] → node < node_count graph
Visiting-top graph seen left path rest order node s is =
    Visiting-node graph seen left path order s node
    (omega (arith, ap (λ xs. count_of xs node) is, count_of-push_same rest node node refl))

-- all nodes of the path lead to where an edge of the last one leads
pub Visiting-leads : (graph : Graph) (seen : List Bool) (left path rest order : List ℕ)
    (node after : ℕ) → Visiting graph seen left path order → path ≡ rest ++ node ∷ []
    → HasEdge graph node after → (i : ℕ) → i < length path
    → Leads (successors graph) (get_or path i 0) after
Visiting-leads graph seen left path rest order node after s is edge i lt =
    let lens : length path ≡ length rest + 1 = ap length is ∙ length_push rest node in
    let top : get_or path (length rest) 0 ≡ node =
    ap (λ xs. get_or xs (length rest) 0) is ∙ get_or_push rest node 0 (length rest) refl in
    let L : ℕ → Type 0 = λ x. Leads (successors graph) (get_or path i 0) x in
    Leads-trans graph (get_or path i 0) node after
    (subst L top (s.joined i (length rest) (omega (arith, lt, lens)) (omega (arith, lens))))
    (Leads-edge graph node after edge)
