-- Without cycles, walks come to an end: depths are those of longest walks, and weights add up.
use Rattle.std.proofs.Common.{◌≡◌, ◌⊎◌, inl, inr, ℕ, zero, suc, ◌+◌, ◌<◌, ◌≤◌, max, Bool, true, false, cond, ◌||◌, List, [], ◌∷◌, length, map, filter, fold, Contains, refl, sym, subst, ◌∙◌, arith}
use Rattle.std.proofs.lemmas.Bool.{or_cases, cases_lt}
use Rattle.dg_num.specs.Walks.{Walk, IsOnCycle, IsRank}
use Rattle.dg_num.proofs.Weighings.{Placed, Placed-list, no_long_walk, HasOneWeight-from_placed}
use Rattle.dg_decl.specs.declared.document.Doc.{Doc}
use Rattle.dg_decl.specs.declared.graph.Node.{Node}
use Rattle.dg_decl.specs.Walks.{IsReached, root, step}
use Rattle.dg_decl.specs.Graph.{EdgeTo, edges, candidates, is_reachable, nodes, targets_by, is_direct, is_called, direct_targets, called_targets, needed_targets, OnCycle}
use Rattle.dg_decl.specs.Sizes.{depth_within, depth, size, is_shared, weight}
use Rattle.dg_decl.specs.GraphLaws.{HasNoCycle, DepthsAreLongestWalks, WeightsAddUp}
use Rattle.dg_decl.proofs.NodeWalks.{in_rest, reached_beyond}
use Rattle.dg_decl.proofs.MemberLemmas.{none_in, in_front, first_or_rest, the_one, in_map, out_map, in_filter, out_filter}
use Rattle.dg_decl.proofs.GraphLemmas.{target_is_node, leads_by}

-- ---- walks by their edges are walks from a root

wider : {N : Type 0} (next : N → List N) (roots more : List N) (n : N)
    → ((m : N) → Contains roots m → Contains more m) → IsReached next roots n
    → IsReached next more n
wider next roots more n among (root m c) = root m (among m c)
wider next roots more n among (step m o w c) = step m o (wider next roots more m among w) c

one_among : {N : Type 0} (x : N) (xs : List N) → Contains xs x → (m : N) → Contains (x ∷ []) m
    → Contains xs m
one_among {N} x xs c m h = let P : N → Type 0 = Contains xs in subst P (the_one m x h) c

walk_reaches : {N : Type 0} (next : N → List N) (edges : ℕ) (a b : N) → Walk next edges a b
    → IsReached next (a ∷ []) b
walk_reaches {N} next zero a b w = let P : N → Type 0 = IsReached next (a ∷ []) in subst P w
    (root a (in_front a []))
walk_reaches next (suc edges) a b w =
    reached_beyond next (a ∷ []) a b (in_front a [])
    (wider next (w.0 ∷ []) (next a) b (one_among w.0 (next a) w.1) (walk_reaches next edges w.0 b
    w.2))

-- one edge before a walk
after_one : {N : Type 0} (next : N → List N) (a c b : N) → Contains (next a) c
    → IsReached next (c ∷ []) b → IsReached next (a ∷ []) b
after_one next a c b h w = reached_beyond next (a ∷ []) a b (in_front a []) (wider next (c ∷ [])
    (next a) b (one_among c (next a) h) w)

-- ---- a closed walk is all direct, or has a call

-- a walk with a called edge
abbrev Calls : Doc → Node → Node → Type 0
Calls doc a b =
    (m t : Node) × IsReached (needed_targets doc) (a ∷ []) m × Contains (called_targets doc m) t
    × IsReached (needed_targets doc) (t ∷ []) b

targeted : (doc : Doc) (by : EdgeTo → Bool) (a : Node) (e : EdgeTo) (c : Node)
    → Contains (edges doc a) e → by e ≡ true → e.to ≡ c → Contains (targets_by by doc a) c
targeted doc by a e c among so to =
    let P : Node → Type 0 = Contains (targets_by by doc a) in
    subst P to (in_map (λ (e : EdgeTo). e.to) (filter by (edges doc a)) e (in_filter by (edges doc
    a) e among so))

direct_or_called : (doc : Doc) (a c : Node) → Contains (needed_targets doc a) c
    → Contains (direct_targets doc a) c ⊎ Contains (called_targets doc a) c
direct_or_called doc a c h =
    let o = out_map (λ (e : EdgeTo). e.to) (filter (λ e. is_direct e || is_called e) (edges doc a))
    c h in
    let f = out_filter (λ e. is_direct e || is_called e) (edges doc a) o.0 o.1 in
    elim (or_cases (is_direct o.0) (is_called o.0) f.1) [
      | inl d ↦ inl (targeted doc is_direct a o.0 c f.0 d o.2)
      | inr k ↦ inr (targeted doc is_called a o.0 c f.0 k o.2)
    ]

all_direct_or_calls : (doc : Doc) (edges : ℕ) (a b : Node) → Walk (needed_targets doc) edges a b
    → Walk (direct_targets doc) edges a b ⊎ Calls doc a b
all_direct_or_calls doc zero a b w = inl w
all_direct_or_calls doc (suc edges) a b w =
    elim (direct_or_called doc a w.0 w.1) [
      | inl d ↦ elim (all_direct_or_calls doc edges w.0 b w.2) [
        | inl rest ↦ inl (w.0, d, rest)
        | inr call ↦ inr (
          call.0,
          call.1,
          after_one (needed_targets doc) a w.0 call.0 w.1 call.2,
          call.3,
          call.4,
        )
      ]
      | inr k ↦ inr (
        a,
        w.0,
        root a (in_front a []),
        k,
        walk_reaches (needed_targets doc) edges w.0
            b w.2,
      )
    ]

direct_cycle : (doc : Doc) (edges : ℕ) (a : Node) → 1 ≤ edges
    → Walk (direct_targets doc) edges a a → OnCycle doc a
direct_cycle doc zero a le w = absurd (omega arith)
direct_cycle doc (suc edges) a le w =
    wider (direct_targets doc) (w.0 ∷ []) (direct_targets doc a) a (one_among w.0 (direct_targets
    doc a) w.1)
    (walk_reaches (direct_targets doc) edges w.0 a w.2)

no_closed_walk : (doc : Doc) → HasNoCycle doc → (a : Node) → Contains (nodes doc) a
    → IsOnCycle (needed_targets doc) a → ⊥
no_closed_walk doc none a is w =
    elim (all_direct_or_calls doc w.0 a a w.2) [
      | inl d ↦ (none a is).0 (direct_cycle doc w.0 a w.1 d)
      | inr c ↦ (none a is).1 c
    ]

-- ---- no walk has as many edges as there are candidates

shorter : (b : Bool) (x : Node) (xs : List Node) (n : ℕ) → length xs ≤ n
    → length (cond b (x ∷ xs) xs) ≤ suc n
shorter true x xs n le = omega arith
shorter false x xs n le = omega arith

kept_length : (p : Node → Bool) (xs : List Node) → length (filter p xs) ≤ length xs
kept_length p [] = omega arith
kept_length p (x ∷ xs) = shorter (p x) x (filter p xs) (length xs) (kept_length p xs)

few_nodes : (doc : Doc) → length (nodes doc) ≤ length (candidates doc)
unfolding nodes
few_nodes doc = kept_length (is_reachable doc) (candidates doc)

needed_is_node : (doc : Doc) → (a b : Node) → Contains (nodes doc) a
    → Contains (needed_targets doc a) b → Contains (nodes doc) b
needed_is_node doc a b is h = target_is_node doc a b is (leads_by doc _ a b h)

more_places : {N : Type 0} (next : N → List N) (IsNode : N → Type 0) (few many : ℕ) → few ≤ many
    → Placed next IsNode few → Placed next IsNode many
more_places next IsNode few many le p = record {
  place = p.place;
  within = λ a is. (let lt : p.place a is < few = p.within a is in omega arith);
  apart = p.apart;
  on = p.on;
}

placed : (doc : Doc) → Placed (needed_targets doc) (Contains (nodes doc)) (length (candidates doc))
placed doc =
    more_places (needed_targets doc) (Contains (nodes doc)) (length (nodes doc)) (length
    (candidates doc)) (few_nodes doc)
    (Placed-list (needed_targets doc) (nodes doc) (λ a b is h. needed_is_node doc a b is h))

no_long : (doc : Doc) → HasNoCycle doc → (a b : Node)
    → Contains (nodes doc) a → Walk (needed_targets doc) (length (candidates doc)) a b → ⊥
no_long doc none a b is w =
    no_long_walk (needed_targets doc) (Contains (nodes doc)) (length (candidates doc)) (placed doc)
    (λ a is c. no_closed_walk doc none a is c) a b is w

-- ---- the greatest of a list

at_least_start : (a : ℕ) (xs : List ℕ) → a ≤ fold max a xs
at_least_start a [] = omega arith
at_least_start a (x ∷ xs) = (let rest : max a x ≤ fold max (max a x) xs = at_least_start (max a x)
    xs in omega arith)

at_least_each : (a : ℕ) (xs : List ℕ) (x : ℕ) → Contains xs x → x ≤ fold max a xs
at_least_each a [] x c = absurd (none_in x c)
at_least_each a (y ∷ ys) x c =
    elim (first_or_rest x y ys c) [
      | inl e ↦ (let rest : max a y ≤ fold max (max a y) ys = at_least_start (max a y) ys in let
          same : y ≡ x = e in omega arith)
      | inr r ↦ at_least_each (max a y) ys x r
    ]

greatest_of_two : (a x : ℕ) → (max a x ≡ a) ⊎ (max a x ≡ x)
greatest_of_two a x =
    elim (cases_lt a x) [
      | inl lt ↦ inr (omega arith)
      | inr le ↦ inl (omega arith)
    ]

is_start_or_one : (a : ℕ) (xs : List ℕ) → (fold max a xs ≡ a) ⊎ Contains xs (fold max a xs)
is_start_or_one a [] = inl refl
is_start_or_one a (x ∷ xs) =
    elim (is_start_or_one (max a x) xs) [
      | inl e ↦ elim (greatest_of_two a x) [
        | inl first ↦ inl (e ∙ first)
        | inr second ↦ inr (0, omega arith, sym (e ∙ second))
      ]
      | inr c ↦ inr (in_rest (fold max (max a x) xs) x xs c)
    ]

-- ---- depths

ranked : (doc : Doc) (most : ℕ) (n : Node) → ((b : Node) → Walk (needed_targets doc) most n b → ⊥)
    → IsRank (needed_targets doc) n (depth_within doc most n)
ranked doc zero n none = absurd (none n refl)
ranked doc (suc most) n none =
    let D : Node → ℕ = depth_within doc most in
    let ts : List Node = needed_targets doc n in
    let below : (t : Node) → Contains (needed_targets doc n) t → IsRank (needed_targets doc) t
    (depth_within doc most t) =
    λ t h. ranked doc most t (λ b w. none b (t, h, w)) in
    record {
      walk = elim (is_start_or_one 0 (map (depth_within doc most) (needed_targets doc n))) [
        | inl e ↦ (0, n, refl, omega (arith, e))
        | inr c ↦ (let o = out_map (depth_within doc most) (needed_targets doc n) (fold max 0
            (map (depth_within doc most) (needed_targets doc n))) c in
            let w = (below o.0 o.1).walk in
            (suc w.0, w.1, (o.0, o.1, w.2), omega (arith, o.2, w.3)))
      ];
      longest = λ edges last w. longest_at edges last w below;
    }
  where
    longest_at : (edges : ℕ) (last : Node) → Walk (needed_targets doc) edges n last → ((t : Node) →
        Contains (needed_targets doc n) t → IsRank (needed_targets doc) t (depth_within doc most
        t)) → edges + 1 ≤ suc (fold max 0 (map (depth_within doc most) (needed_targets doc n)))
    longest_at zero last w below = omega arith
    longest_at (suc edges) last w below =
        let one : edges + 1 ≤ depth_within doc most w.0 = (below w.0 w.1).longest edges last w.2 in
        let all : depth_within doc most w.0 ≤ fold max 0 (map (depth_within doc most)
        (needed_targets doc n)) =
        at_least_each 0 (map (depth_within doc most) (needed_targets doc n)) (depth_within doc most
        w.0) (in_map (depth_within doc most) (needed_targets doc n) w.0 w.1) in
        omega arith

pub depths_are_longest_walks : DepthsAreLongestWalks
unfolding depth
depths_are_longest_walks doc none n is =
    ranked doc (length (candidates doc)) n (λ b w. no_long doc none n b is w)

-- ---- weights

pub weights_add_up : WeightsAddUp
unfolding weight
weights_add_up doc none =
    let one = HasOneWeight-from_placed (needed_targets doc) (size doc) (is_shared doc) (Contains
    (nodes doc)) (length (candidates doc)) (placed doc)
    (λ a is c. no_closed_walk doc none a is c) in
    record { add_up = λ n is. one.adds_up n is; only = λ other adds n is. one.only other adds n is }
