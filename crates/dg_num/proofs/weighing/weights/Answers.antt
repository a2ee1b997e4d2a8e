use Rattle.std.proofs.Common.{◌≡◌, ◌+◌, ◌<◌, ◌≤◌, ◌⊎◌, ℕ, Bool, false, List, All, Contains, length}
use Rattle.std.proofs.Common.{get_or, take, min, sum_by, refl, sym, ◌∙◌, subst, arith}
use Rattle.std.proofs.lemmas.List.{take_all}
use Rattle.std.proofs.lemmas.List.Elements.{Contains-get_or}
use Rattle.dg_num.specs.Graph.{node_count, successors, HasEdge}
use Rattle.dg_num.specs.Walks.{Leads}
use Rattle.dg_num.specs.Weights.{added}
use Rattle.dg_num.proofs.Counts.{contained_from_count_of}
use Rattle.dg_num.proofs.Weighings.{Weighed-step}
use Rattle.dg_num.proofs.weighing.weights.Goals as goal

pub sum_above-weight-requires-clause-flat : goal.sum_above-weight-requires-clause-flat
sum_above-weight-requires-clause-flat c = λ k d h.
    let row = c.row.result.now in
    let node = get_or c.deref-node-items.result.now c.loop-node.node-index 0 in
    let P : List ℕ → Type 0 = λ xs. Contains xs (get_or row k d) in
    let edge = subst P c.row.ensures.exact (Contains-get_or row k d h) in
    omega (arith, c.requires.graph.in_range node (get_or row k d) edge, c.requires.flat)

pub sum_above-weight-requires-clause-weights : goal.sum_above-weight-requires-clause-weights
sum_above-weight-requires-clause-weights c = λ k d h.
    let row = c.row.result.now in
    let node = get_or c.deref-node-items.result.now c.loop-node.node-index 0 in
    let P : List ℕ → Type 0 = λ xs. Contains xs (get_or row k d) in
    let edge = subst P c.row.ensures.exact (Contains-get_or row k d h) in
    omega (
      arith,
      c.requires.graph.in_range node (get_or row k d) edge,
      c.loop-node.invariant.len,
      c.deref.ensures.len,
    )

pub loop-node-preserved : goal.loop-node-preserved
loop-node-preserved c =
    let graph = c.args.graph.now in
    let order = c.deref-node-items.result.now in
    let is-order : order ≡ c.in_ok-order.order.items = c.deref-node-items.ensures.value in
    let i = c.loop-node.node-index in
    let node = get_or order i 0 in
    let weights = c.loop-node.weights.items in
    let weight = c.sum_above-weight.result in
    let flat : ℕ → Bool = λ x. get_or c.args.flat.now x false in
    let own : ℕ → ℕ = λ x. get_or c.args.own.now x 0 in
    let most = c.args.limit + 1 in
    let E : List ℕ → Type 0 = λ xs. (i k after : ℕ) → i ≤ k → k < length xs
    → HasEdge graph (get_or xs i 0) after
    → Contains (take (k + 1) xs) after ⊎ Leads (successors graph) after (get_or xs k 0) in
    let edges = subst E (sym is-order) c.in_ok-order.ensures.edges in
    let N : List ℕ → Type 0 = λ xs. All (λ x. x < node_count graph) xs in
    let nodes = subst N (sym is-order) c.in_ok-order.ensures.nodes in
    let S : List ℕ → List ℕ → Type 0 = λ ws row.
    weight ≡ min (own node + sum_by (added flat (λ x. get_or ws x 0)) row) most in
    let sum = subst (λ row. S weights row) c.row.ensures.exact
    (subst (λ ws. S ws c.row.result.now) c.deref.ensures.value c.sum_above-weight.ensures.exact)
    in
    Weighed-step graph own flat most order weights _ i node weight c.requires.graph
    c.requires.acyclic (λ after. edges i i after (omega arith) c.loop-node-test.true)
    c.loop-node.invariant refl (nodes i 0 c.loop-node-test.true) sum refl

pub returns : goal.returns
returns c =
    let order = c.deref-node-items.result.now in
    let all = take_all c.loop-node.node-index order c.loop-node-test.false in
    record {
      exact = record {
        for_each_node = c.loop-node.invariant.len;
        exact = λ node lt.
            let P : List ℕ → Type 0 = λ xs. Contains xs node in
            let has = contained_from_count_of c.in_ok-order.order.items node
            (omega (arith, c.in_ok-order.ensures.each node lt)) in
            c.loop-node.invariant.exact node (subst P
            (sym c.deref-node-items.ensures.value ∙ sym all) has);
      };
    }
