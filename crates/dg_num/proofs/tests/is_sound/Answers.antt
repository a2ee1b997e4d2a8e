use Rattle.std.proofs.Common.{◌≡◌, ◌<◌, ◌≤◌, ℕ, List, Contains, sym, subst, ⊎_elim, arith}
use Rattle.std.proofs.lemmas.Bool.{cases_lt}
use Rattle.std.proofs.lemmas.List.Elements.{All-contains}
use Rattle.dg_num.specs.Graph.{HasEdge}
use Rattle.dg_num.proofs.Rows.{node_from_edge}
use Rattle.dg_num.proofs.tests.is_sound.Goals as goal

pub loop-node-preserved : goal.loop-node-preserved
loop-node-preserved c = λ a b lt edge.
    let graph = c.args.graph.now in
    let node = c.loop-node.node in
    let row = c.row.result.now in
    ⊎_elim
    (λ (before : a < node). c.loop-node.invariant a b before edge)
    (λ (at : node ≤ a).
    let e : a ≡ node = omega arith in
    let E : ℕ → Type 0 = λ x. HasEdge graph x b in
    let P : List ℕ → Type 0 = λ xs. Contains xs b in
    let within = All-contains (λ x. x < c.len-in-loop-node.result) row b
    (c.all_below.ensures.0 c.if-not-all_below.false)
    (subst P (sym c.row.ensures.exact) (subst E e edge)) in
    omega (arith, within, c.len-in-loop-node.ensures))
    (cases_lt a node)

pub returns : goal.returns
returns c = λ yes. record {
  in_range = λ a b edge. c.loop-node.invariant a b
      (omega (arith, node_from_edge c.args.graph.now a b edge)) edge;
  small = omega arith;
}
