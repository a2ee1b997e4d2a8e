use Rattle.std.proofs.Common.{◌≡◌, ◌+◌, ◌-◌, ◌<◌, ◌≤◌, ◌⊎◌, ℕ, zero, suc, Bool, List, length}
use Rattle.std.proofs.Common.{get_or, cond, ltb, refl, sym, ap, ◌∙◌, subst, inl, inr, ⊎_elim, arith}
use Rattle.std.proofs.lemmas.Bool.{cases_eq, cases_lt, cond-true, cond-false, lt-ltb, le-ltb}
use Rattle.dg_num.specs.declared.graph.Graph.{Graph}
use Rattle.dg_num.specs.Graph.{node_count, successors, HasEdge, IsSound}
use Rattle.dg_num.specs.Walks.{Walk, IsOnCycle, IsAcyclic, IsTrueAt, TellsExactly, RanksExactly}
use Rattle.dg_num.proofs.Rows.{node_from_edge}
use Rattle.dg_num.proofs.WalkLaws.{off_cycle_from_rank}

-- some number below `m` has the value, or none has
found_below : (f : ℕ → ℕ) (value m : ℕ) → ((i : ℕ) × (i < m) × (f i ≡ value))
    ⊎ ((i : ℕ) → i < m → f i ≡ value → ⊥)
found_below f value zero = inr (λ i lt e. absurd (omega arith))
found_below f value (suc m) =
    ⊎_elim
    (λ (here : f m ≡ value). inl (m, omega arith, here))
    (λ (ne : f m ≡ value → ⊥).
    ⊎_elim
    (λ (some : (i : ℕ) × (i < m) × (f i ≡ value)). inl (some.0, omega (arith, some.1), some.2))
    (λ (none : (i : ℕ) → i < m → f i ≡ value → ⊥).
    inr (λ i lt e. ⊎_elim (λ (before : i < m). none i before e)
    (λ (at : m ≤ i). let same : i ≡ m = omega arith in ne (sym (ap f same) ∙ e))
    (cases_lt i m)))
    (found_below f value m))
    (cases_eq (f m) value)

-- the numbers other than `value`, with those above it moved down by one
down : ℕ → ℕ → ℕ
down value x = cond (ltb value x) (x - 1) x

down-above : (value x : ℕ) → value < x → down value x ≡ x - 1
unfolding down
down-above value x lt = cond-true {A = ℕ} (ltb value x) (x - 1) x (lt-ltb value x lt)

down-below : (value x : ℕ) → x ≤ value → down value x ≡ x
unfolding down
down-below value x le = cond-false {A = ℕ} (ltb value x) (x - 1) x (le-ltb value x le)

down-lt : (n value x : ℕ) → value < suc n → x < suc n → (x ≡ value → ⊥) → down value x < n
down-lt n value x value-lt lt ne =
    ⊎_elim
    (λ (above : value < x). omega (arith, down-above value x above))
    (λ (below : x ≤ value). ⊎_elim (λ (less : x < value). omega (arith, down-below value x below))
    (λ (same : value ≤ x). absurd (ne (omega arith))) (cases_lt x value))
    (cases_lt value x)

down-injective : (value x y : ℕ) → (x ≡ value → ⊥) → (y ≡ value → ⊥) → down value x ≡ down value y
    → x ≡ y
down-injective value x y nx ny e =
    ⊎_elim
    (λ (ax : value < x).
    ⊎_elim
    (λ (ay : value < y). omega (arith, down-above value x ax, down-above value y ay, e))
    (λ (by' : y ≤ value). absurd (ny (omega (
      arith,
      down-above value x ax,
      down-below value y by',
      e,
    ))))
    (cases_lt value y))
    (λ (bx : x ≤ value).
    ⊎_elim
    (λ (ay : value < y). absurd (nx (omega (
      arith,
      down-below value x bx,
      down-above value y ay,
      e,
    ))))
    (λ (by' : y ≤ value). omega (arith, down-below value x bx, down-below value y by', e))
    (cases_lt value y))
    (cases_lt value x)

-- more places than values: two places have one value
pub two_with_one_value : (n : ℕ) (f : ℕ → ℕ) → ((i : ℕ) → i ≤ n → f i < n)
    → (i : ℕ) × (j : ℕ) × (i < j) × (j ≤ n) × (f i ≡ f j)
two_with_one_value zero f within = absurd (omega (arith, within 0 (omega arith)))
two_with_one_value (suc n) f within =
    let last = f (suc n) in
    ⊎_elim
    (λ (some : (i : ℕ) × (i < suc n) × (f i ≡ last)). (some.0, suc n, some.1, omega arith, some.2))
    (λ (none : (i : ℕ) → i < suc n → f i ≡ last → ⊥).
    let found = two_with_one_value n (λ i. down last (f i))
    (λ i le. down-lt n last (f i) (within (suc n) (omega arith)) (within i (omega arith))
    (none i (omega arith))) in (
      found.0,
      found.1,
      found.2,
      omega (arith, found.3),
      down-injective last (f found.0) (f found.1) (none found.0 (omega (arith, found.2, found.3)))
          (none found.1 (omega (arith, found.3))) found.4,
    ))
    (found_below f last (suc n))

-- where each node of a kind leads on to one of the kind, one of them lies on a cycle
pub record LeadsOn (graph : Graph) (R : ℕ → Type 0) : Type 0 where
  pub within : (node : ℕ) → R node → node < node_count graph
  pub on : (node : ℕ) → R node → (after : ℕ) × HasEdge graph node after × R after

one_on : (graph : Graph) (R : ℕ → Type 0) → LeadsOn graph R → (node : ℕ) × R node
    → (node : ℕ) × R node
one_on graph R leads s = ((leads.on s.0 s.1).0, (leads.on s.0 s.1).2)

far_on : (graph : Graph) (R : ℕ → Type 0) → LeadsOn graph R → ((node : ℕ) × R node) → ℕ
    → (node : ℕ) × R node
far_on graph R leads s zero = s
far_on graph R leads s (suc k) = far_on graph R leads (one_on graph R leads s) k

walk_on : (graph : Graph) (R : ℕ → Type 0) (leads : LeadsOn graph R) (s : (node : ℕ) × R node)
    (k : ℕ) → Walk (successors graph) k s.0 (far_on graph R leads s k).0
unfolding one_on far_on
walk_on graph R leads s zero = refl
walk_on graph R leads s (suc k) = (
  (one_on graph R leads s).0,
  (leads.on s.0 s.1).1,
  walk_on graph R leads (one_on graph R leads s) k,
)

far_on-add : (graph : Graph) (R : ℕ → Type 0) (leads : LeadsOn graph R) (s : (node : ℕ) × R node)
    (i d k : ℕ) → k ≡ i + d → far_on graph R leads s k
    ≡ far_on graph R leads (far_on graph R leads s i) d
unfolding far_on
far_on-add graph R leads s zero d k e = let same : k ≡ d = omega arith in
    ap (λ x. far_on graph R leads s x) same
far_on-add graph R leads s (suc i) d zero e = absurd (omega arith)
far_on-add graph R leads s (suc i) d (suc k) e =
    far_on-add graph R leads (one_on graph R leads s) i d k (omega arith)

pub cycle_among : (graph : Graph) (R : ℕ → Type 0) → LeadsOn graph R → (node : ℕ) → R node
    → (other : ℕ) × IsOnCycle (successors graph) other
cycle_among graph R leads node r =
    let s : (node : ℕ) × R node = (node, r) in
    let f : ℕ → ℕ = λ k. (far_on graph R leads s k).0 in
    let found = two_with_one_value (node_count graph) f
    (λ i le. leads.within (f i) (far_on graph R leads s i).1) in
    let i = found.0 in
    let j = found.1 in
    let u = far_on graph R leads s i in
    let again : f j ≡ (far_on graph R leads u (j - i)).0 =
    ap (λ x. x.0) (far_on-add graph R leads s i (j - i) j (omega (arith, found.2))) in
    let P : ℕ → Type 0 = λ x. Walk (successors graph) (j - i) u.0 x in (
      u.0,
      (
        j - i,
        omega (arith, found.2),
        subst P (sym again ∙ sym found.4) (walk_on graph R leads u (j - i)),
      ),
    )

-- a node on a cycle is a node of the graph
pub node_on_cycle : (graph : Graph) (node : ℕ) → IsOnCycle (successors graph) node
    → node < node_count graph
node_on_cycle graph node (zero, le, walk) = absurd (omega arith)
node_on_cycle graph node (suc k, le, walk) = node_from_edge graph node walk.0 walk.1

-- where each node without a rank leads to one without a rank, some node lies on a cycle
pub cycle_from_zero : (graph : Graph) (ranks : List ℕ) → IsSound graph
    → ((node : ℕ) → node < node_count graph → get_or ranks node 0 ≡ 0
    → (after : ℕ) × HasEdge graph node after × (get_or ranks after 0 ≡ 0)) → (node : ℕ)
    → node < node_count graph → get_or ranks node 0 ≡ 0
    → (other : ℕ) × IsOnCycle (successors graph) other
cycle_from_zero graph ranks sound left node lt zero' =
    let R : ℕ → Type 0 = λ x. (x < node_count graph) × (get_or ranks x 0 ≡ 0) in
    let leads : LeadsOn graph R = record {
      within = λ x r. r.0;
      on = λ x r. let next = left x r.0 r.1 in
          (next.0, next.1, (sound.in_range x next.0 next.1, next.2));
    } in
    cycle_among graph R leads node (lt, zero')

-- where no node is marked as on a cycle, none is on one
pub IsAcyclic-from_marks : (graph : Graph) (marks : List Bool)
    → TellsExactly graph (IsOnCycle (successors graph)) marks
    → ((node : ℕ) × (node < length marks) × IsTrueAt marks node → ⊥)
    → IsAcyclic (successors graph)
IsAcyclic-from_marks graph marks tells none = λ node cycle.
    let within = node_on_cycle graph node cycle in
    let marked = (tells.exact node within).1 cycle in
    none (node, omega (arith, within, tells.for_each_node), marked)

-- where each node has a rank, none is on a cycle
pub IsAcyclic-from_ranks : (graph : Graph) (ranks : List ℕ) → RanksExactly graph ranks
    → IsAcyclic (successors graph)
IsAcyclic-from_ranks graph ranks r = λ node cycle.
    let rank = r.exact node (node_on_cycle graph node cycle) in
    off_cycle_from_rank graph node (get_or ranks node 0) rank cycle
