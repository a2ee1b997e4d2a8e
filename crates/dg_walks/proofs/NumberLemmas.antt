-- Walks over the numbers of nodes are walks over the nodes.
use Rattle.std.proofs.Common.{◌≡◌, ◌↔◌, ℕ, zero, suc, ◌<◌, ◌^◌, Bool, true, false, List, [], ◌∷◌}
use Rattle.std.proofs.Common.{length, get_or, map, slice_get, Contains, IsTrue, Option, Some, refl}
use Rattle.std.proofs.Common.{sym, ap, subst, ◌∙◌, arith}
use Rattle.std.proofs.lemmas.Option.{none-some, same_Some, slice_get_within, slice_get-get_or}
use Rattle.dg_num.specs.declared.graph.Graph.{Graph}
use Rattle.dg_num.specs.Graph.{node_count, successors, HasEdge, IsSound}
use Rattle.dg_num.specs.Walks.{Walk, Leads, IsReached, IsOnCycle, IsRank, TellsExactly}
use Rattle.dg_num.proofs.Rows.{node_from_edge}
use Rattle.dg_decl.specs.Walks as walks
use Rattle.dg_decl.specs.Walks.{root, step}
use Rattle.dg_decl.proofs.MemberLemmas.{in_map, out_map, in_got}
use Rattle.dg_decl.proofs.OnceLemmas.{Once}
use Rattle.dg_walks.specs.Rows.{IsGraphOf}

-- ---- numbers and nodes

pub node_at : {N : Type 0} (nodes : List N) (k : ℕ) → k < length nodes
    → (n : N) × (slice_get nodes k ≡ Some n)
node_at [] k lt = absurd (omega arith)
node_at (x ∷ xs) zero lt = (x, refl)
node_at (x ∷ xs) (suc k) lt = node_at xs k (omega arith)

pub number_at : {N : Type 0} (nodes : List N) (n : N) → Contains nodes n
    → (k : ℕ) × (slice_get nodes k ≡ Some n)
number_at nodes n c = (c.0, slice_get-get_or nodes c.0 n c.1 ∙ ap Some c.2)

pub one_node : {N : Type 0} (nodes : List N) (k : ℕ) (m n : N) → slice_get nodes k ≡ Some m
    → slice_get nodes k ≡ Some n → m ≡ n
one_node nodes k m n a b = same_Some m n (sym a ∙ b)

pub one_number : {N : Type 0} (nodes : List N) → Once nodes → (i j : ℕ) (n : N)
    → slice_get nodes i ≡ Some n → slice_get nodes j ≡ Some n → i ≡ j
one_number [] once i j n a b = absurd (none-some n a)
one_number (x ∷ xs) once zero zero n a b = refl
one_number {N} (x ∷ xs) once zero (suc j) n a b =
    let P : N → Type 0 = Contains xs in
    absurd (once.0 (subst P (sym (same_Some x n a)) (in_got xs j n b)))
one_number {N} (x ∷ xs) once (suc i) zero n a b =
    let P : N → Type 0 = Contains xs in
    absurd (once.0 (subst P (sym (same_Some x n b)) (in_got xs i n a)))
one_number (x ∷ xs) once (suc i) (suc j) n a b = ap suc (one_number xs once.1 i j n a b)

-- ---- edges

pub edge_down : {N : Type 0} (nodes : List N) (targets : N → List N) (graph : Graph)
    → IsGraphOf nodes targets graph → (j k : ℕ) (m : N) → slice_get nodes j ≡ Some m
    → HasEdge graph j k → (n : N) × (slice_get nodes k ≡ Some n) × Contains (targets m) n
edge_down {N} nodes targets graph g j k m at edge =
    let P : List (Option N) → Type 0 = λ xs. Contains xs (slice_get nodes k) in
    let got = in_map (slice_get nodes) (successors graph j) k edge in
    let o = out_map Some (targets m) (slice_get nodes k) (subst P (g.rows j m at) got) in
    (o.0, sym o.2, o.1)

pub edge_up : {N : Type 0} (nodes : List N) (targets : N → List N) (graph : Graph)
    → IsGraphOf nodes targets graph → (j : ℕ) (m n : N) → slice_get nodes j ≡ Some m
    → Contains (targets m) n → (k : ℕ) × (slice_get nodes k ≡ Some n) × HasEdge graph j k
edge_up {N} nodes targets graph g j m n at among =
    let P : List (Option N) → Type 0 = λ xs. Contains xs (Some n) in
    let got = in_map Some (targets m) n among in
    let o = out_map (slice_get nodes) (successors graph j) (Some n)
    (subst P (sym (g.rows j m at)) got) in
    (o.0, o.2, o.1)

pub sound : {N : Type 0} (nodes : List N) (targets : N → List N) (graph : Graph)
    → IsGraphOf nodes targets graph → length nodes < 2 ^ 32 → IsSound graph
sound nodes targets graph g few = record {
  in_range = λ a b edge.
      (let lt : a < node_count graph = node_from_edge graph a b edge in
      let m = node_at nodes a (omega (arith, g.counted)) in
      let d = edge_down nodes targets graph g a b m.0 m.1 edge in
      omega (arith, slice_get_within nodes b d.0 d.1, g.counted));
  small = omega (arith, g.counted, few);
}

-- ---- walks

pub walk_down : {N : Type 0} (nodes : List N) (targets : N → List N) (graph : Graph)
    → IsGraphOf nodes targets graph → (edges i j : ℕ) (m : N) → slice_get nodes i ≡ Some m
    → Walk (successors graph) edges i j
    → (n : N) × (slice_get nodes j ≡ Some n) × Walk targets edges m n
walk_down {N} nodes targets graph g zero i j m at w =
    let P : ℕ → Type 0 = λ k. slice_get nodes k ≡ Some m in (m, subst P w at, refl)
walk_down nodes targets graph g (suc edges) i j m at w =
    let d = edge_down nodes targets graph g i w.0 m at w.1 in
    let rest = walk_down nodes targets graph g edges w.0 j d.0 d.1 w.2 in
    (rest.0, rest.1, (d.0, d.2, rest.2))

pub walk_up : {N : Type 0} (nodes : List N) (targets : N → List N) (graph : Graph)
    → IsGraphOf nodes targets graph → (edges i : ℕ) (m n : N) → slice_get nodes i ≡ Some m
    → Walk targets edges m n
    → (j : ℕ) × (slice_get nodes j ≡ Some n) × Walk (successors graph) edges i j
walk_up nodes targets graph g zero i m n at w = (i, at ∙ ap Some w, refl)
walk_up nodes targets graph g (suc edges) i m n at w =
    let u = edge_up nodes targets graph g i m w.0 at w.1 in
    let rest = walk_up nodes targets graph g edges u.0 w.0 n u.1 w.2 in
    (rest.0, rest.1, (u.0, u.2, rest.2))

pub leads_down : {N : Type 0} (nodes : List N) (targets : N → List N) (graph : Graph)
    → IsGraphOf nodes targets graph → (i j : ℕ) (m n : N) → slice_get nodes i ≡ Some m
    → slice_get nodes j ≡ Some n → Leads (successors graph) i j → Leads targets m n
leads_down {N} nodes targets graph g i j m n at to w =
    let P : N → Type 0 = λ x. Walk targets w.0 m x in
    let d = walk_down nodes targets graph g w.0 i j m at w.1 in
    (w.0, subst P (one_node nodes j d.0 n d.1 to) d.2)

pub leads_up : {N : Type 0} (nodes : List N) (targets : N → List N) (graph : Graph)
    → IsGraphOf nodes targets graph → Once nodes → (i j : ℕ) (m n : N)
    → slice_get nodes i ≡ Some m → slice_get nodes j ≡ Some n → Leads targets m n
    → Leads (successors graph) i j
leads_up nodes targets graph g once i j m n at to w =
    let P : ℕ → Type 0 = λ k. Walk (successors graph) w.0 i k in
    let u = walk_up nodes targets graph g w.0 i m n at w.1 in
    (w.0, subst P (one_number nodes once u.0 j n u.1 to) u.2)

-- ---- cycles and ranks

pub cycle_down : {N : Type 0} (nodes : List N) (targets : N → List N) (graph : Graph)
    → IsGraphOf nodes targets graph → (k : ℕ) (n : N) → slice_get nodes k ≡ Some n
    → IsOnCycle (successors graph) k → IsOnCycle targets n
cycle_down {N} nodes targets graph g k n at c =
    let P : N → Type 0 = λ x. Walk targets c.0 n x in
    let d = walk_down nodes targets graph g c.0 k k n at c.2 in
    (c.0, c.1, subst P (one_node nodes k d.0 n d.1 at) d.2)

pub cycle_up : {N : Type 0} (nodes : List N) (targets : N → List N) (graph : Graph)
    → IsGraphOf nodes targets graph → Once nodes → (k : ℕ) (n : N) → slice_get nodes k ≡ Some n
    → IsOnCycle targets n → IsOnCycle (successors graph) k
cycle_up nodes targets graph g once k n at c =
    let P : ℕ → Type 0 = λ j. Walk (successors graph) c.0 k j in
    let u = walk_up nodes targets graph g c.0 k n n at c.2 in
    (c.0, c.1, subst P (one_number nodes once u.0 k n u.1 at) u.2)

pub rank_down : {N : Type 0} (nodes : List N) (targets : N → List N) (graph : Graph)
    → IsGraphOf nodes targets graph → (k : ℕ) (n : N) (rank : ℕ) → slice_get nodes k ≡ Some n
    → IsRank (successors graph) k rank → IsRank targets n rank
rank_down nodes targets graph g k n rank at r =
    let w = r.walk in
    let d = walk_down nodes targets graph g w.0 k w.1 n at w.2 in
    record {
      walk = (w.0, d.0, d.2, w.3);
      longest = λ edges last v.
          (let u = walk_up nodes targets graph g edges k n last at v in
          r.longest edges u.0 u.2);
    }

pub rank_up : {N : Type 0} (nodes : List N) (targets : N → List N) (graph : Graph)
    → IsGraphOf nodes targets graph → (k : ℕ) (n : N) (rank : ℕ) → slice_get nodes k ≡ Some n
    → IsRank targets n rank → IsRank (successors graph) k rank
rank_up nodes targets graph g k n rank at r =
    let w = r.walk in
    let u = walk_up nodes targets graph g w.0 k n w.1 at w.2 in
    record {
      walk = (w.0, u.0, u.2, w.3);
      longest = λ edges last v.
          (let d = walk_down nodes targets graph g edges k last n at v in
          r.longest edges d.0 d.2);
    }

pub one_rank : {N : Type 0} (targets : N → List N) (n : N) (a b : ℕ) → IsRank targets n a
    → IsRank targets n b → a ≡ b
one_rank targets n a b r s =
    let v = r.walk in
    let w = s.walk in
    omega (arith, v.3, w.3, s.longest v.0 v.1 v.2, r.longest w.0 w.1 w.2)

-- ---- walks from a root are walks with a start

walk_more : {N : Type 0} (targets : N → List N) (edges : ℕ) (a m n : N) → Walk targets edges a m
    → Contains (targets m) n → Walk targets (suc edges) a n
walk_more {N} targets zero a m n w c =
    let P : N → Type 0 = λ x. Contains (targets x) n in (n, subst P (sym w) c, refl)
walk_more targets (suc edges) a m n w c = (w.0, w.1, walk_more targets edges w.0 m n w.2 c)

pub started : {N : Type 0} (targets : N → List N) (roots : List N) (n : N)
    → walks.IsReached targets roots n → IsReached targets roots n
started targets roots n (root m c) = (m, c, (0, refl))
started targets roots n (step m o w c) =
    let r = started targets roots m w in
    (r.0, r.1, (suc r.2.0, walk_more targets r.2.0 r.0 m o r.2.1 c))

along : {N : Type 0} (targets : N → List N) (roots : List N) (edges : ℕ) (a b : N)
    → walks.IsReached targets roots a → Walk targets edges a b → walks.IsReached targets roots b
along {N} targets roots zero a b r w =
    let P : N → Type 0 = walks.IsReached targets roots in subst P w r
along targets roots (suc edges) a b r w =
    along targets roots edges w.0 b (step a w.0 r w.1) w.2

pub rooted : {N : Type 0} (targets : N → List N) (roots : List N) (n : N)
    → IsReached targets roots n → walks.IsReached targets roots n
rooted targets roots n r = along targets roots r.2.0 r.0 n (root r.0 r.1) r.2.1

-- ---- a list with an entry for each node

pub same_list : {N A : Type 0} (nodes : List N) (f : N → A) (xs : List A) (d : A)
    → length xs ≡ length nodes
    → ((k : ℕ) (n : N) → slice_get nodes k ≡ Some n → get_or xs k d ≡ f n) → xs ≡ map f nodes
same_list [] f [] d len each = refl
same_list [] f (y ∷ ys) d len each = absurd (omega arith)
same_list (n ∷ ns) f [] d len each = absurd (omega arith)
same_list (n ∷ ns) f (y ∷ ys) d len each =
    let head : y ≡ f n = each 0 n refl in
    let tail : ys ≡ map f ns = same_list ns f ys d (omega arith) (λ k m at. each (suc k) m at) in
    λ i. head i ∷ tail i

pub same_test : (a b : Bool) → (a ≡ true → b ≡ true) → (b ≡ true → a ≡ true) → a ≡ b
same_test true b to from = sym (to refl)
same_test false true to from = from refl
same_test false false to from = refl

pub told : {N : Type 0} (nodes : List N) (graph : Graph) (P : ℕ → Type 0) (f : N → Bool)
    (marks : List Bool) → node_count graph ≡ length nodes → TellsExactly graph P marks
    → ((k : ℕ) (n : N) → slice_get nodes k ≡ Some n → (P k ↔ IsTrue (f n))) → marks ≡ map f nodes
told nodes graph P f marks counted tells both =
    same_list nodes f marks false (tells.for_each_node ∙ counted)
    (λ k n at. let lt : k < node_count graph = omega (arith, slice_get_within nodes k n at, counted)
    in
    same_test (get_or marks k false) (f n) (λ t. (both k n at).0 ((tells.exact k lt).0 t))
    (λ t. (tells.exact k lt).1 ((both k n at).1 t)))
