use Rattle.std.proofs.Common.{ℕ, zero, suc, ◌<◌, get_or, [], ◌∷◌, arith}
use Rattle.dg_compdep.proofs.BelowLemmas.{is_sound, nodes_are, tells_below}
use Rattle.dg_compdep.proofs.below.row_below.Goals as goal

pub reach-requires-clause-graph : goal.reach-requires-clause-graph
reach-requires-clause-graph c =
    is_sound c.args.d.now c.args.graph.now c.requires.graph c.requires.bounded.classes

only_one : (from n k d : ℕ) → from < n → k < 1 → get_or (from ∷ []) k d < n
only_one from n zero d lt k = lt
only_one from n (suc k) d lt le = absurd (omega arith)

pub reach-requires-clause-from : goal.reach-requires-clause-from
reach-requires-clause-from c =
    λ k d lt. only_one c.args.from _ k d
    (omega (arith, nodes_are c.args.d.now c.args.graph.now c.requires.graph)) lt

pub returns-in-Ok : goal.returns-in-Ok
returns-in-Ok c = record {
  exact = tells_below c.args.d.now c.args.graph.now c.args.from c.in-Ok.row.items c.requires.graph
      c.requires.from c.below_by_short_walks.ensures.exact c.in-Ok.ensures.exact;
}
