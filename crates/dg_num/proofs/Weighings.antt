use Rattle.std.proofs.Common.{◌≡◌, ◌+◌, ◌<◌, ◌≤◌, ◌⊎◌, ◌∷◌, [], ℕ, zero, suc, Bool, true, false}
use Rattle.std.proofs.Common.{List, length, get_or, set, take, replicate, min, if◌then◌else◌}
use Rattle.std.proofs.Common.{sum_by, Contains, refl, sym, ap, ◌∙◌, subst, ⊎_elim, arith}
use Rattle.std.proofs.lemmas.Bool.{cases_eq, cases_lt}
use Rattle.std.proofs.lemmas.List.{get_or_default, get_or_past, get_or-replicate, get_or-set_same}
use Rattle.std.proofs.lemmas.List.{get_or-set_other, length-replicate, length-set, length-take}
use Rattle.std.proofs.lemmas.List.Elements.{Contains-append_right}
use Rattle.std.proofs.lemmas.List.Sums.{sum_by-cons}
use Rattle.dg_num.specs.declared.graph.Graph.{Graph}
use Rattle.dg_num.specs.Graph.{node_count, successors, HasEdge, IsSound}
use Rattle.dg_num.specs.Walks.{Walk, Leads, IsOnCycle, IsAcyclic}
use Rattle.dg_num.specs.Weights.{added, AddsUp, weight_within, weight_of, HasOneWeight, OneWeight}
use Rattle.dg_num.proofs.Counts.{place_in_front, contained_in_front}
use Rattle.dg_num.proofs.Repeats.{two_with_one_value}
use Rattle.dg_num.proofs.WalkLaws.{IsOnCycle-from_leads}

-- equal terms have an equal sum
pub sum_by-same : {N : Type 0} (f g : N → ℕ) (xs : List N) → ((x : N) → Contains xs x → f x ≡ g x)
    → sum_by f xs ≡ sum_by g xs
sum_by-same f g [] same = refl
sum_by-same f g (x ∷ xs) same =
    let here : f x ≡ g x = same x (0, omega arith, refl) in
    let rest = sum_by-same f g xs (λ y has. same y (Contains-append_right (x ∷ []) xs y has)) in
    omega (arith, sum_by-cons f x xs, sum_by-cons g x xs, here, rest)

-- terms that are equal up to a bound have a sum that is equal up to it
pub sum_by-same_to : {N : Type 0} (f g : N → ℕ) (xs : List N) (n most : ℕ)
    → ((x : N) → Contains xs x → min (f x) most ≡ min (g x) most)
    → min (n + sum_by f xs) most ≡ min (n + sum_by g xs) most
sum_by-same_to f g [] n most same = refl
sum_by-same_to f g (x ∷ xs) n most same =
    let here : min (f x) most ≡ min (g x) most = same x (0, omega arith, refl) in
    let rest = sum_by-same_to f g xs n most (λ y has.
    same y (Contains-append_right (x ∷ []) xs y has)) in
    omega (arith, sum_by-cons f x xs, sum_by-cons g x xs, here, rest)

-- nodes that edges don't leave, each with a place of its own below `count`
pub record Placed {N : Type 0} (targets : N → List N) (IsNode : N → Type 0)
    (count : ℕ) : Type 0 where
  pub place : (a : N) → IsNode a → ℕ
  pub within : (a : N) (is : IsNode a) → place a is < count
  pub apart : (a b : N) (is : IsNode a) (is' : IsNode b) → place a is ≡ place b is' → a ≡ b
  pub on : (a b : N) → IsNode a → Contains (targets a) b → IsNode b

-- the node that a walk comes to after this many edges
node_after : {N : Type 0} (targets : N → List N) (IsNode : N → Type 0) (count : ℕ)
    → Placed targets IsNode count → (edges : ℕ) (a b : N) → Walk targets edges a b → IsNode a → ℕ
    → (c : N) × IsNode c
node_after targets IsNode count p edges a b walk is zero = (a, is)
node_after targets IsNode count p zero a b walk is (suc k) = (a, is)
node_after targets IsNode count p (suc edges) a b walk is (suc k) =
    node_after targets IsNode count p edges walk.0 b walk.2 (p.on a walk.0 is walk.1) k

walk_to : {N : Type 0} (targets : N → List N) (IsNode : N → Type 0) (count : ℕ)
    (p : Placed targets IsNode count) (edges : ℕ) (a b : N) (walk : Walk targets edges a b)
    (is : IsNode a) (k : ℕ) → k ≤ edges → Walk targets k a
    (node_after targets IsNode count p edges a b walk is k).0
unfolding node_after
walk_to targets IsNode count p edges a b walk is zero le = refl
walk_to targets IsNode count p zero a b walk is (suc k) le = absurd (omega arith)
walk_to targets IsNode count p (suc edges) a b walk is (suc k) le = (
  walk.0,
  walk.1,
  walk_to targets IsNode count p edges walk.0 b walk.2
      (p.on a walk.0 is walk.1) k (omega arith),
)

walk_between : {N : Type 0} (targets : N → List N) (IsNode : N → Type 0) (count : ℕ)
    (p : Placed targets IsNode count) (edges : ℕ) (a b : N) (walk : Walk targets edges a b)
    (is : IsNode a) (i d j : ℕ) → j ≡ i + d → j ≤ edges
    → Walk targets d (node_after targets IsNode count p edges a b walk is i).0
    (node_after targets IsNode count p edges a b walk is j).0
unfolding node_after
walk_between {N} targets IsNode count p edges a b walk is zero d j e le =
    let same : j ≡ d = omega arith in
    let P : ℕ → Type 0 = λ k. Walk targets k a (node_after targets IsNode count p edges a b walk is
    j).0 in
    subst P same (walk_to targets IsNode count p edges a b walk is j le)
walk_between targets IsNode count p edges a b walk is (suc i) d zero e le = absurd (omega arith)
walk_between targets IsNode count p zero a b walk is (suc i) d (suc j) e le = absurd (omega arith)
walk_between targets IsNode count p (suc edges) a b walk is (suc i) d (suc j) e le =
    walk_between targets IsNode count p edges walk.0 b walk.2 (p.on a walk.0 is walk.1) i d j
    (omega arith) (omega arith)

-- a walk of as many edges as there are nodes comes to one of them twice
pub no_long_walk : {N : Type 0} (targets : N → List N) (IsNode : N → Type 0) (count : ℕ)
    → Placed targets IsNode count → ((a : N) → IsNode a → IsOnCycle targets a → ⊥) → (a b : N)
    → IsNode a → Walk targets count a b → ⊥
no_long_walk {N} targets IsNode count p acyclic a b is walk =
    let at : ℕ → (c : N) × IsNode c = λ k. node_after targets IsNode count p count a b walk is k in
    let found = two_with_one_value count (λ k. p.place (at k).0 (at k).1)
    (λ i le. p.within (at i).0 (at i).1) in
    let i = found.0 in
    let j = found.1 in
    let same : (at i).0 ≡ (at j).0 = p.apart (at i).0 (at j).0 (at i).1 (at j).1 found.4 in
    let gap : (d : ℕ) × (j ≡ i + d) × (1 ≤ d) = distance i j found.2 in
    let P : N → Type 0 = λ c. Walk targets gap.0 (at i).0 c in
    acyclic (at i).0 (at i).1 (
      gap.0,
      gap.2,
      subst P (sym same) (walk_between targets IsNode count p count a b walk is i gap.0 j gap.1
          found.3),
    )
  where
    distance : (i j : ℕ) → i < j → (d : ℕ) × (j ≡ i + d) × (1 ≤ d)
    distance zero j lt = (j, omega arith, omega arith)
    distance (suc i) zero lt = absurd (omega arith)
    distance (suc i) (suc j) lt = let rest = distance i j (omega arith) in
        (rest.0, omega (arith, rest.1), rest.2)

-- where no walk from the node has this many edges, longer ones change nothing
pub weight_within_more : {N : Type 0} (targets : N → List N) (own : N → ℕ) (flat : N → Bool)
    (nodes more : ℕ) (a : N) → ((b : N) → Walk targets nodes a b → ⊥) → nodes ≤ more
    → weight_within targets own flat nodes a ≡ weight_within targets own flat more a
weight_within_more targets own flat zero more a none le = absurd (none a refl)
weight_within_more targets own flat (suc nodes) zero a none le = absurd (omega arith)
weight_within_more targets own flat (suc nodes) (suc more) a none le =
    ap (λ s. own a + s) (sum_by-same (added flat (weight_within targets own flat nodes))
    (added flat (weight_within targets own flat more)) (targets a)
    (λ t has. ap (λ w. if flat t then 1 else w)
    (weight_within_more targets own flat nodes more t (λ b walk. none b (t, has, walk))
    (omega arith))))

weight_only : {N : Type 0} (targets : N → List N) (own : N → ℕ) (flat : N → Bool)
    (IsNode : N → Type 0) (count : ℕ) → Placed targets IsNode count → (other : N → ℕ)
    → AddsUp IsNode targets own flat other → (nodes : ℕ) (a : N) → IsNode a
    → ((b : N) → Walk targets nodes a b → ⊥) → other a ≡ weight_within targets own flat nodes a
weight_only targets own flat IsNode count p other adds zero a is none = absurd (none a refl)
weight_only targets own flat IsNode count p other adds (suc nodes) a is none =
    adds a is ∙ ap (λ s. own a + s) (sum_by-same (added flat other)
    (added flat (weight_within targets own flat nodes)) (targets a)
    (λ t has. ap (λ w. if flat t then 1 else w)
    (weight_only targets own flat IsNode count p other adds nodes t (p.on a t is has)
    (λ b walk. none b (t, has, walk)))))

-- nodes that have places and lie on no cycle have exactly one weight each
pub HasOneWeight-from_placed : {N : Type 0} (targets : N → List N) (own : N → ℕ) (flat : N → Bool)
    (IsNode : N → Type 0) (count : ℕ) → Placed targets IsNode count
    → ((a : N) → IsNode a → IsOnCycle targets a → ⊥) → HasOneWeight IsNode count targets own flat
HasOneWeight-from_placed targets own flat IsNode count p acyclic = record {
  adds_up = λ a is. weight_within_more targets own flat count (suc count) a
      (λ b walk. no_long_walk targets IsNode count p acyclic a b is walk) (omega arith);
  only = λ other adds a is. weight_only targets own flat IsNode count p other adds count a is
      (λ b walk. no_long_walk targets IsNode count p acyclic a b is walk);
  enough = λ nodes a le is. sym (weight_within_more targets own flat count nodes a
      (λ b walk. no_long_walk targets IsNode count p acyclic a b is walk) le);
}

-- the nodes of a list, where each target of one is one
pub Placed-list : {N : Type 0} (targets : N → List N) (nodes : List N)
    → ((a b : N) → Contains nodes a → Contains (targets a) b → Contains nodes b)
    → Placed targets (Contains nodes) (length nodes)
Placed-list targets nodes closed = record {
  place = λ a is. is.0;
  within = λ a is. is.1;
  apart = λ a b is is' e. sym is.2 ∙ get_or_default nodes is.0 a b is.1
      ∙ ap (λ k. get_or nodes k b) e ∙ is'.2;
  on = closed;
}

-- the nodes of a graph
pub Placed-graph : (graph : Graph) → IsSound graph
    → Placed (successors graph) (λ node. node < node_count graph) (node_count graph)
Placed-graph graph sound = record {
  place = λ a is. a;
  within = λ a is. is;
  apart = λ a b is is' e. e;
  on = λ a b is edge. sound.in_range a b edge;
}

pub one_weight : OneWeight
one_weight graph own flat sound acyclic =
    HasOneWeight-from_placed (successors graph) own flat (λ node. node < node_count graph)
    (node_count graph) (Placed-graph graph sound) (λ a is. acyclic a)

-- the first `i` nodes of the order have their weights, cut at `most`
pub record Weighed (graph : Graph) (own : ℕ → ℕ) (flat : ℕ → Bool) (most : ℕ)
    (order weights : List ℕ) (i : ℕ) : Type 0 where
  pub len : length weights ≡ node_count graph
  pub small : (node : ℕ) → get_or weights node 0 ≤ most
  pub exact : (node : ℕ) → Contains (take i order) node
      → get_or weights node 0 ≡ min (weight_of graph own flat node) most

pub Weighed-start : (graph : Graph) (own : ℕ → ℕ) (flat : ℕ → Bool) (most : ℕ)
    (order weights : List ℕ) (n : ℕ) → n ≡ node_count graph → weights ≡ replicate n 0
    → Weighed graph own flat most order weights 0
Weighed-start graph own flat most order weights n n-is is =
    let zero_at : (x : ℕ) → get_or weights x 0 ≡ 0 =
    λ x. ap (λ xs. get_or xs x 0) is ∙ ⊎_elim (λ (lt : x < n). get_or-replicate n x 0 0 lt)
    (λ (past : n ≤ x). get_or_past (replicate n 0) x 0
    (omega (arith, length-replicate {A = ℕ} n 0))) (cases_lt x n) in
    record {
      len = ap length is ∙ length-replicate {A = ℕ} n 0 ∙ n-is;
      small = λ node. omega (arith, zero_at node);
      exact = λ node has. absurd (omega (arith, has.1, length-take 0 order));
    }

-- each edge of a node in the order leads to a node before it
follows_before : (graph : Graph) (order : List ℕ) (i after : ℕ) → IsAcyclic (successors graph)
    → HasEdge graph (get_or order i 0) after
    → Contains (take (i + 1) order) after ⊎ Leads (successors graph) after (get_or order i 0)
    → Contains (take i order) after
follows_before graph order i after acyclic edge from =
    let node = get_or order i 0 in
    ⊎_elim
    (λ (has : Contains (take (i + 1) order) after).
    let found = place_in_front order (i + 1) after has in
    ⊎_elim
    (λ (before : found.0 < i). contained_in_front order i found.0 after before found.2 found.3)
    (λ (at : i ≤ found.0).
    let same : found.0 ≡ i = omega (arith, found.1) in
    let e : after ≡ node = sym found.3 ∙ ap (λ k. get_or order k 0) same in
    let P : ℕ → Type 0 = λ x. HasEdge graph node x in
    absurd (acyclic node (1, omega arith, (node, subst P e edge, refl))))
    (cases_lt found.0 i))
    (λ (back : Leads (successors graph) after node).
    absurd (acyclic node (IsOnCycle-from_leads graph node after edge back)))
    from

-- the sum over edges to nodes that have their weights is the node's weight, where both are cut
weighed_sum : (graph : Graph) (own : ℕ → ℕ) (flat : ℕ → Bool) (most : ℕ) (weights : List ℕ)
    (node : ℕ) → IsSound graph → IsAcyclic (successors graph) → node < node_count graph
    → ((t : ℕ) → HasEdge graph node t → get_or weights t 0 ≡ min (weight_of graph own flat t) most)
    → min (own node + sum_by (added flat (λ x. get_or weights x 0)) (successors graph node)) most
    ≡ min (weight_of graph own flat node) most
weighed_sum graph own flat most weights node sound acyclic lt known =
    let f : ℕ → ℕ = added flat (λ x. get_or weights x 0) in
    let g : ℕ → ℕ = added flat (weight_of graph own flat) in
    let row = successors graph node in
    let term : (t : ℕ) → Contains row t → min (f t) most ≡ min (g t) most = λ t edge.
    let weight = weight_of graph own flat t in
    cut_term (flat t) (get_or weights t 0) weight most (known t edge) in
    let adds = (one_weight graph own flat sound acyclic).adds_up node lt in
    sum_by-same_to f g row (own node) most term ∙ ap (λ x. min x most) (sym adds)
  where
    cut_term : (b : Bool) (x y most : ℕ) → x ≡ min y most
        → min (if b then 1 else x) most ≡ min (if b then 1 else y) most
    cut_term true x y most e = refl
    cut_term false x y most e = omega (arith, e)

pub Weighed-step : (graph : Graph) (own : ℕ → ℕ) (flat : ℕ → Bool) (most : ℕ)
    (order weights weights' : List ℕ) (i node weight : ℕ)
    → IsSound graph → IsAcyclic (successors graph)
    → ((after : ℕ) → HasEdge graph (get_or order i 0) after
    → Contains (take (i + 1) order) after ⊎ Leads (successors graph) after (get_or order i 0))
    → Weighed graph own flat most order weights i
    → get_or order i 0 ≡ node → node < node_count graph
    → weight ≡ min (own node
    + sum_by (added flat (λ x. get_or weights x 0)) (successors graph node)) most
    → weights' ≡ set weights node weight
    → Weighed graph own flat most order weights' (i + 1)
Weighed-step graph own flat most order weights weights' i node weight sound acyclic from w at lt is
    weights-is =
    let weight_is : ℕ → ℕ → Type 0 = λ x n. n ≡ min (weight_of graph own flat x) most in
    let same = get_or-set_same weights node weight 0 (omega (arith, lt, w.len)) in
    let other : (x : ℕ) → (node ≡ x → ⊥)
    → get_or (set weights node weight) x 0 ≡ get_or weights x 0 =
    λ x ne. get_or-set_other weights node x weight 0 (λ e. ne (sym e)) in
    let known : (t : ℕ) → HasEdge graph node t → weight_is t (get_or weights t 0) = λ t edge.
    let E : ℕ → Type 0 = λ x. HasEdge graph x t in
    let first = subst E (sym at) edge in
    w.exact t (follows_before graph order i t acyclic first (from t first)) in
    let here : weight_is node weight =
    is ∙ weighed_sum graph own flat most weights node sound acyclic lt known in
    let P : List ℕ → Type 0 = λ ws. Weighed graph own flat most order ws (i + 1) in
    let made : P (set weights node weight) = record {
      len = length-set weights node weight ∙ w.len;
      small = λ x.
          ⊎_elim
          (λ (e : node ≡ x).
          let moved = ap (λ y. get_or (set weights node weight) y 0) e in
          let small : weight ≤ most = omega (arith, is) in
          omega (arith, moved, same, small))
          (λ (ne : node ≡ x → ⊥). omega (arith, other x ne, w.small x))
          (cases_eq node x);
      exact = λ x has.
          ⊎_elim
          (λ (e : node ≡ x).
          let Q : ℕ → Type 0 = λ y. weight_is y (get_or (set weights node weight) y 0) in
          subst Q e (same ∙ here))
          (λ (ne : node ≡ x → ⊥).
          let found = place_in_front order (i + 1) x has in
          ⊎_elim
          (λ (before : found.0 < i).
          let seen = contained_in_front order i found.0 x before found.2 found.3 in
          other x ne ∙ w.exact x seen)
          (λ (last : i ≤ found.0).
          let last-is : found.0 ≡ i = omega (arith, found.1) in
          absurd (ne (sym at ∙ ap (λ k. get_or order k 0) (sym last-is) ∙ found.3)))
          (cases_lt found.0 i))
          (cases_eq node x);
    } in
    subst P (sym weights-is) made
