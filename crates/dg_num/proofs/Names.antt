use Rattle.std.proofs.Common.{◌≡◌, ◌<◌, ◌∷◌, [], ℕ, zero, suc, Bool, List, length, get_or, map}
use Rattle.std.proofs.Common.{if◌then◌else◌}
use Rattle.std.proofs.Common.{sum_by, All, Contains, refl, sym, ap, ◌∙◌, subst, arith}
use Rattle.std.proofs.lemmas.List.{get_or-map, get_or_default, length-map}
use Rattle.std.proofs.lemmas.List.Elements.{All-contains}
use Rattle.std.proofs.lemmas.List.Sums.{sum_by-cons}
use Rattle.dg_num.specs.declared.graph.Graph.{Graph}
use Rattle.dg_num.specs.Graph.{node_count, successors, IsSound}
use Rattle.dg_num.specs.Walks.{Walk, IsReached, IsOnCycle, IsRank}
use Rattle.dg_num.specs.Weights.{added, weight_within}
use Rattle.dg_num.proofs.Weighings.{sum_by-same}

-- each node of a graph stands for a node of another type that has the same edges in the same order
pub record Names {N : Type 0} (graph : Graph) (targets : N → List N) (name : ℕ → N) : Type 0 where
  pub sound : IsSound graph
  pub apart : (a b : ℕ) → a < node_count graph → b < node_count graph → name a ≡ name b → a ≡ b
  pub edges : (a : ℕ) → a < node_count graph → targets (name a) ≡ map name (successors graph a)

contained_map : {X Y : Type 0} (f : X → Y) (xs : List X) (x : X)
    → Contains xs x → Contains (map f xs) (f x)
contained_map f xs x has = (
  has.0,
  omega (arith, has.1, length-map xs f),
  get_or-map f xs has.0 x (f x) has.1 ∙ ap f has.2,
)

contained_from_map : {Y : Type 0} (f : ℕ → Y) (xs : List ℕ) (y : Y)
    → Contains (map f xs) y → (x : ℕ) × Contains xs x × (f x ≡ y)
contained_from_map f xs y has =
    let k = has.0 in
    let lt : k < length xs = omega (arith, has.1, length-map xs f) in
    let x = get_or xs k 0 in
    (x, (k, lt, get_or_default xs k x 0 lt), sym (get_or-map f xs k 0 y lt) ∙ has.2)

-- a walk of numbers is one of what they stand for
pub walk_named : {N : Type 0} (graph : Graph) (targets : N → List N) (name : ℕ → N)
    → Names graph targets name → (edges a b : ℕ) → a < node_count graph
    → Walk (successors graph) edges a b → Walk targets edges (name a) (name b)
walk_named graph targets name n zero a b lt walk = ap name walk
walk_named {N} graph targets name n (suc edges) a b lt walk =
    let P : List N → Type 0 = λ xs. Contains xs (name walk.0) in
    let edge = contained_map name (successors graph a) walk.0 walk.1 in
    let within = n.sound.in_range a walk.0 walk.1 in (
      name walk.0,
      subst P (sym (n.edges a lt)) edge,
      walk_named graph targets name n edges walk.0 b within walk.2,
    )

-- a walk from what a number stands for is one of numbers
pub walk_numbered : {N : Type 0} (graph : Graph) (targets : N → List N) (name : ℕ → N)
    → Names graph targets name → (edges a : ℕ) (y : N) → a < node_count graph
    → Walk targets edges (name a) y
    → (b : ℕ) × (b < node_count graph) × (name b ≡ y) × Walk (successors graph) edges a b
walk_numbered graph targets name n zero a y lt walk = (a, lt, walk, refl)
walk_numbered {N} graph targets name n (suc edges) a y lt walk =
    let P : List N → Type 0 = λ xs. Contains xs walk.0 in
    let edge = contained_from_map name (successors graph a) walk.0
    (subst P (n.edges a lt) walk.1) in
    let Q : N → Type 0 = λ z. Walk targets edges z y in
    let within = n.sound.in_range a edge.0 edge.1 in
    let rest = walk_numbered graph targets name n edges edge.0 y within
    (subst Q (sym edge.2) walk.2) in
    (rest.0, rest.1, rest.2, (edge.0, edge.1, rest.3))

pub IsOnCycle-named : {N : Type 0} (graph : Graph) (targets : N → List N) (name : ℕ → N)
    → Names graph targets name → (a : ℕ) → a < node_count graph
    → (IsOnCycle (successors graph) a → IsOnCycle targets (name a))
    × (IsOnCycle targets (name a) → IsOnCycle (successors graph) a)
IsOnCycle-named graph targets name n a lt = (
  λ cycle. (cycle.0, cycle.1, walk_named graph targets name n cycle.0 a a lt cycle.2),
  λ cycle.
      let back = walk_numbered graph targets name n cycle.0 a (name a) lt cycle.2 in
      let P : ℕ → Type 0 = λ x. Walk (successors graph) cycle.0 a x in
      (cycle.0, cycle.1, subst P (n.apart back.0 a back.1 lt back.2) back.3),
)

pub IsReached-named : {N : Type 0} (graph : Graph) (targets : N → List N) (name : ℕ → N)
    → Names graph targets name → (from : List ℕ) → All (λ x. x < node_count graph) from
    → (a : ℕ) → a < node_count graph
    → (IsReached (successors graph) from a → IsReached targets (map name from) (name a))
    × (IsReached targets (map name from) (name a) → IsReached (successors graph) from a)
IsReached-named {N} graph targets name n from within a lt = (
  λ reached.
      let start = reached.0 in
      let in-range = All-contains (λ x. x < node_count graph) from start within reached.1 in
      let walk = walk_named graph targets name n reached.2.0 start a in-range reached.2.1 in
      (name start, contained_map name from start reached.1, (reached.2.0, walk)),
  λ reached.
      let start = contained_from_map name from reached.0 reached.1 in
      let in-range = All-contains (λ x. x < node_count graph) from start.0 within start.1 in
      let Q : N → Type 0 = λ z. Walk targets reached.2.0 z (name a) in
      let walk = subst Q (sym start.2) reached.2.1 in
      let back = walk_numbered graph targets name n reached.2.0 start.0
      (name a) in-range walk in
      let P : ℕ → Type 0 = λ x. Walk (successors graph) reached.2.0 start.0 x in
      (start.0, start.1, (reached.2.0, subst P (n.apart back.0 a back.1 lt back.2) back.3)),
)

pub IsRank-named : {N : Type 0} (graph : Graph) (targets : N → List N) (name : ℕ → N)
    → Names graph targets name → (a rank : ℕ) → a < node_count graph
    → IsRank (successors graph) a rank → IsRank targets (name a) rank
IsRank-named graph targets name n a rank lt r = record {
  walk = (
    r.walk.0,
    name r.walk.1,
    walk_named graph targets name n r.walk.0 a r.walk.1 lt r.walk.2,
    r.walk.3,
  );
  longest = λ edges last walk.
      let back = walk_numbered graph targets name n edges a last lt walk in
      r.longest edges back.0 back.3;
}

sum_by-map : {X Y : Type 0} (f : Y → ℕ) (g : X → Y) (xs : List X)
    → sum_by f (map g xs) ≡ sum_by (λ x. f (g x)) xs
sum_by-map f g [] = refl
sum_by-map f g (x ∷ xs) =
    omega (
      arith,
      sum_by-cons f (g x) (map g xs),
      sum_by-cons (λ y. f (g y)) x xs,
      sum_by-map f g xs,
    )

-- a number weighs what that weighs for which it stands
pub weight_named : {N : Type 0} (graph : Graph) (targets : N → List N) (name : ℕ → N)
    → Names graph targets name → (own : N → ℕ) (flat : N → Bool) (own' : ℕ → ℕ) (flat' : ℕ → Bool)
    → ((x : ℕ) → x < node_count graph → (own (name x) ≡ own' x) × (flat (name x) ≡ flat' x))
    → (nodes a : ℕ) → a < node_count graph
    → weight_within targets own flat nodes (name a)
    ≡ weight_within (successors graph) own' flat' nodes a
weight_named graph targets name n own flat own' flat' same zero a lt = refl
weight_named {N} graph targets name n own flat own' flat' same (suc nodes) a lt =
    let f : N → ℕ = added flat (weight_within targets own flat nodes) in
    let g : ℕ → ℕ = added flat' (weight_within (successors graph) own' flat' nodes) in
    let row = successors graph a in
    let term : (x : ℕ) → Contains row x → f (name x) ≡ g x = λ x edge.
    let within = n.sound.in_range a x edge in
    ap (λ b. if b then 1 else weight_within targets own flat nodes (name x)) (same x within).1
    ∙ ap (λ w. if flat' x then 1 else w)
    (weight_named graph targets name n own flat own' flat' same nodes x within) in
    let sums : sum_by f (targets (name a)) ≡ sum_by g row =
    ap (λ xs. sum_by f xs) (n.edges a lt) ∙ sum_by-map f name row
    ∙ sum_by-same (λ x. f (name x)) g row term in
    omega (arith, (same a lt).0, sums)
