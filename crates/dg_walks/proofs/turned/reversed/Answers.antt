use Rattle.std.proofs.Common.{◌≡◌, ◌<◌, ◌≤◌, ℕ, List, get_or, Contains, sym, ap, ◌∙◌, subst, ⊎_elim}
use Rattle.std.proofs.Common.{arith}
use Rattle.std.proofs.lemmas.Bool.{cases_lt}
use Rattle.std.proofs.lemmas.List.Elements.{Contains-get_or}
use Rattle.dg_num.specs.Counts.{count_of}
use Rattle.dg_num.specs.Graph.{row_at, successors}
use Rattle.dg_num.proofs.Rows.{row_at_past}
use Rattle.dg_walks.proofs.turned.reversed.Goals as goal

pub push_to_each-requires : goal.push_to_each-requires
push_to_each-requires c = λ k d h.
    let row = c.row.result.now in
    let P : List ℕ → Type 0 = λ xs. Contains xs (get_or row k d) in
    let edge = subst P c.row.ensures.exact (Contains-get_or row k d h) in
    omega (
      arith,
      c.requires.in_range c.loop-node.node (get_or row k d) edge,
      c.loop-node.invariant.len,
    )

pub loop-node-preserved : goal.loop-node-preserved
loop-node-preserved c =
    let node = c.loop-node.node in
    let row : c.row.result.now ≡ successors c.args.graph.now node = c.row.ensures.exact in
    record {
      len = omega (arith, c.push_to_each.ensures.len, c.loop-node.invariant.len);
      done = λ a b lt. ⊎_elim (λ (before : b < node).
          c.in_ok-push_to_each.ensures.others a b (λ e. absurd (omega arith))
          ∙ c.loop-node.invariant.done a b before) (λ (at : node ≤ b).
          let e : node ≡ b = omega arith in
          let P : ℕ → Type 0 = λ x. count_of (row_at c.push_to_each.new.rows.items a) x
          ≡ count_of (successors c.args.graph.now x) a in
          let here : P node = omega (
            arith,
            c.in_ok-push_to_each.ensures.more a,
            c.loop-node.invariant.ahead a node (omega arith),
            ap (λ xs. count_of xs a) row,
          ) in
          subst P e here) (cases_lt b node);
      ahead = λ a b le. c.in_ok-push_to_each.ensures.others a b (λ e. absurd (omega arith))
          ∙ c.loop-node.invariant.ahead a b (omega arith);
    }

pub returns : goal.returns
returns c = record {
  exact = record {
    same_nodes = omega arith;
    same_edges = λ a b. ⊎_elim (λ (lt : b < c.loop-node.node). c.loop-node.invariant.done a b lt)
        (λ (past : c.loop-node.node ≤ b).
        c.loop-node.invariant.ahead a b past ∙ sym
        (ap (λ xs. count_of xs a) (row_at_past c.args.graph.now.next.items b (omega arith))))
        (cases_lt b c.loop-node.node);
  };
}
