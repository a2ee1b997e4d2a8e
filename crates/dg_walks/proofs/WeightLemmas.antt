-- Weights of numbers are weights of nodes, also where own sizes are cut at the bound.
use Rattle.std.proofs.Common.{◌≡◌, ℕ, zero, suc, ◌+◌, ◌<◌, ◌≤◌, Bool, true, false, cond}
use Rattle.std.proofs.Common.{if◌then◌else◌, min, List, [], ◌∷◌, length, get_or, map, filter}
use Rattle.std.proofs.Common.{slice_get, sum_by, Some, option_map, refl, sym, ap, ◌∙◌, arith}
use Rattle.std.proofs.lemmas.List.{length-map}
use Rattle.std.proofs.lemmas.List.Sums.{sum_by-cons}
use Rattle.std.proofs.lemmas.Option.{slice_get-map, get_or_from_slice_get, slice_get_within}
use Rattle.dg_num.specs.declared.graph.Graph.{Graph}
use Rattle.dg_num.specs.Graph.{node_count, successors, IsSound}
use Rattle.dg_num.specs.Walks.{IsAcyclic}
use Rattle.dg_num.specs.Weights.{added, weight_within, WeightsExactly}
use Rattle.dg_num.proofs.Weighings.{one_weight}
use Rattle.dg_decl.specs.declared.document.Doc.{Doc}
use Rattle.dg_decl.specs.declared.graph.Node.{Node}
use Rattle.dg_decl.specs.Graph.{candidates, is_reachable, nodes, needed_targets}
use Rattle.dg_decl.specs.Sizes.{size, is_shared, weight}
use Rattle.dg_walks.specs.Rows.{IsGraphOf}
use Rattle.dg_walks.proofs.NumberLemmas.{same_list}

-- ---- no more nodes than candidates

shorter : {N : Type 0} (b : Bool) (x : N) (xs : List N) (n : ℕ) → length xs ≤ n
    → length (cond b (x ∷ xs) xs) ≤ suc n
shorter true x xs n le = omega arith
shorter false x xs n le = omega arith

kept_length : {N : Type 0} (p : N → Bool) (xs : List N) → length (filter p xs) ≤ length xs
kept_length p [] = omega arith
kept_length p (x ∷ xs) = shorter (p x) x (filter p xs) (length xs) (kept_length p xs)

few_nodes : (doc : Doc) → length (nodes doc) ≤ length (candidates doc)
unfolding nodes
few_nodes doc = kept_length (is_reachable doc) (candidates doc)

-- ---- sums

-- sums over numbers and over their nodes are one up to the bound, where their terms are
sums_to : {N : Type 0} (nodes : List N) (f : ℕ → ℕ) (h : N → ℕ) (most : ℕ)
    → ((k : ℕ) (n : N) → slice_get nodes k ≡ Some n → min (f k) most ≡ min (h n) most)
    → (row : List ℕ) (ns : List N) (a b : ℕ) → map (slice_get nodes) row ≡ map Some ns
    → min a most ≡ min b most → min (a + sum_by f row) most ≡ min (b + sum_by h ns) most
sums_to nodes f h most terms [] [] a b is start = omega (arith, start)
sums_to nodes f h most terms [] (n ∷ ns) a b is start = absurd (omega (arith, ap length is))
sums_to nodes f h most terms (k ∷ row) [] a b is start = absurd (omega (arith, ap length is))
sums_to nodes f h most terms (k ∷ row) (n ∷ ns) a b is start =
    let head : slice_get nodes k ≡ Some n = cc is in
    let tail : map (slice_get nodes) row ≡ map Some ns = cc is in
    let term : min (f k) most ≡ min (h n) most = terms k n head in
    let rest : min (a + f k + sum_by f row) most ≡ min (b + h n + sum_by h ns) most =
    sums_to nodes f h most terms row ns (a + f k) (b + h n) tail (omega (arith, start, term)) in
    omega (arith, rest, sum_by-cons f k row, sum_by-cons h n ns)

cut_term : (b : Bool) (x y most : ℕ) → min x most ≡ min y most
    → min (if b then 1 else x) most ≡ min (if b then 1 else y) most
cut_term true x y most e = refl
cut_term false x y most e = e

-- ---- weights

entry_at : {N A : Type 0} (nodes : List N) (f : N → A) (d : A) (xs : List A) → xs ≡ map f nodes
    → (k : ℕ) (n : N) → slice_get nodes k ≡ Some n → get_or xs k d ≡ f n
entry_at nodes f d xs is k n at =
    ap (λ ys. get_or ys k d) is
    ∙ get_or_from_slice_get (map f nodes) k (f n) d (slice_get-map f nodes k ∙ ap (option_map f) at)

weights_to : {N : Type 0} (nodes : List N) (targets : N → List N) (graph : Graph) (own : N → ℕ)
    (shared : N → Bool) (sizes : List ℕ) (flags : List Bool) (most : ℕ)
    → IsGraphOf nodes targets graph → sizes ≡ map (λ n. min (own n) most) nodes
    → flags ≡ map shared nodes → (steps k : ℕ) (n : N) → slice_get nodes k ≡ Some n
    → min (weight_within (successors graph) (λ x. get_or sizes x 0) (λ x. get_or flags x false)
    steps k) most ≡ min (weight_within targets own shared steps n) most
weights_to nodes targets graph own shared sizes flags most g are tell zero k n at = refl
weights_to {N} nodes targets graph own shared sizes flags most g are tell (suc steps) k n at =
    let below : ℕ → ℕ = weight_within (successors graph) (λ x. get_or sizes x 0)
    (λ x. get_or flags x false) steps in
    let above : N → ℕ = weight_within targets own shared steps in
    let here : get_or sizes k 0 ≡ min (own n) most =
    entry_at nodes (λ n. min (own n) most) 0 sizes are k n at in
    sums_to nodes (added (λ x. get_or flags x false) below) (added shared above) most
    (λ j m is. ap (λ b. min (if b then 1 else below j) most)
    (entry_at nodes shared false flags tell j m is)
    ∙ cut_term (shared m) (below j) (above m) most
    (weights_to nodes targets graph own shared sizes flags most g are tell steps j m is))
    (successors graph k) (targets n) (get_or sizes k 0) (own n) (g.rows k n at)
    (omega (arith, here))

pub told_weights : (doc : Doc) (graph : Graph) (sizes : List ℕ) (flags : List Bool) (limit : ℕ)
    (weights : List ℕ) → IsGraphOf (nodes doc) (needed_targets doc) graph → IsSound graph
    → IsAcyclic (successors graph) → sizes ≡ map (λ n. min (size doc n) (limit + 1)) (nodes doc)
    → flags ≡ map (is_shared doc) (nodes doc) → WeightsExactly graph sizes flags limit weights
    → weights ≡ map (λ n. min (weight doc n) (limit + 1)) (nodes doc)
unfolding weight
told_weights doc graph sizes flags limit weights g sound acyclic are tell exact =
    same_list (nodes doc) (λ n. min (weight doc n) (limit + 1)) weights 0
    (exact.for_each_node ∙ g.counted)
    (λ k n at. let lt : k < node_count graph =
    omega (arith, slice_get_within (nodes doc) k n at, g.counted) in
    let more : node_count graph ≤ length (candidates doc) =
    omega (arith, few_nodes doc, g.counted) in
    let enough = (one_weight graph (λ x. get_or sizes x 0) (λ x. get_or flags x false) sound
    acyclic).enough (length (candidates doc)) k more lt in
    exact.exact k lt ∙ ap (λ w. min w (limit + 1)) (sym enough)
    ∙ weights_to (nodes doc) (needed_targets doc) graph (size doc) (is_shared doc) sizes flags
    (limit + 1) g are tell (length (candidates doc)) k n at)

pub counted_by : {A : Type 0} (doc : Doc) (targets : Node → List Node) (graph : Graph)
    (f : Node → A) (xs : List A) → IsGraphOf (nodes doc) targets graph → xs ≡ map f (nodes doc)
    → length xs ≡ node_count graph
counted_by doc targets graph f xs g is = ap length is ∙ length-map (nodes doc) f ∙ sym g.counted
