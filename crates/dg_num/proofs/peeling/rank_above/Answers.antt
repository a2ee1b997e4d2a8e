use Rattle.std.proofs.Common.{◌≡◌, ◌+◌, ◌<◌, ◌≤◌, ◌⊎◌, ℕ, List, get_or, take, All, Contains, subst}
use Rattle.std.proofs.Common.{inl, inr, ⊎_elim, arith}
use Rattle.std.proofs.lemmas.List.{take_all}
use Rattle.std.proofs.lemmas.List.Elements.{All-more, All-weaker, Contains-get_or}
use Rattle.dg_num.proofs.peeling.rank_above.Goals as goal
use Rattle.dg_num.proofs.peeling.rank_above.Goals.{then-rank-above, else-rank-above}

pub loop-node-preserved : goal.loop-node-preserved
loop-node-preserved c =
    let ranks = c.args.ranks.now in
    let row = c.args.row.now in
    let i = c.loop-node.node-index in
    let lt = c.loop-node-test.true in
    let rank = c.loop-node.rank in
    let here = get_or ranks (get_or row i 0) 0 in
    let rank' = c.if-rank-above.rank in
    let cases : ((rank' ≡ here + 1) × (rank < here + 1)) ⊎ ((rank' ≡ rank) × (here + 1 ≤ rank)) =
    elim c.if-rank-above.branch [
      | then-rank-above w ↦ inl (w.rank-is, w.if-rank-above.true)
      | else-rank-above w ↦ inr (w.rank-is, w.if-rank-above.false)
    ] in
    let from : rank ≤ rank' = ⊎_elim (λ (a : (rank' ≡ here + 1) × (rank < here + 1)).
    omega (arith, a.0, a.1)) (λ (b : (rank' ≡ rank) × (here + 1 ≤ rank)). omega (arith, b.0))
    cases in
    let past : here < rank' = ⊎_elim (λ (a : (rank' ≡ here + 1) × (rank < here + 1)).
    omega (arith, a.0, a.1)) (λ (b : (rank' ≡ rank) × (here + 1 ≤ rank)).
    omega (arith, b.0, b.1)) cases in
    record {
      above = All-more (λ node. get_or ranks node 0 < rank') row i 0 lt
          (All-weaker (λ node. get_or ranks node 0 < rank) (λ node. get_or ranks node 0 < rank')
          (λ node h. omega (arith, h, from)) (take i row) c.loop-node.invariant.above) past;
      reached = ⊎_elim (λ (a : (rank' ≡ here + 1) × (rank < here + 1)).
          inr (get_or row i 0, Contains-get_or row i 0 lt, a.0))
          (λ (b : (rank' ≡ rank) × (here + 1 ≤ rank)).
          ⊎_elim (λ (one : rank ≡ 1). inl (omega (arith, b.0, one)))
          (λ (more : (node : ℕ) × Contains row node × (rank ≡ get_or ranks node 0 + 1)).
          inr (more.0, more.1, omega (arith, more.2, b.0))) c.loop-node.invariant.reached) cases;
      positive = omega (arith, c.loop-node.invariant.positive, from);
    }

pub returns-clause-above : goal.returns-clause-above
returns-clause-above c =
    let P : List ℕ → Type 0 = λ xs. All (λ node. get_or c.args.ranks.now node 0 < c.loop-node.rank)
    xs in
    subst P (take_all c.loop-node.node-index c.args.row.now c.loop-node-test.false)
    c.loop-node.invariant.above
