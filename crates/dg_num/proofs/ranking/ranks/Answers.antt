use Rattle.std.proofs.Common.{◌≡◌, ◌<◌, length, ℕ, List, Bool, Err, get_or, sym, ap, ◌∙◌, subst}
use Rattle.std.proofs.Common.{arith}
use Rattle.std.proofs.lemmas.Bool.{false≢true}
use Rattle.dg_num.specs.declared.ranking.RankFault.TheVariants.{Cyclic}
use Rattle.dg_num.specs.Graph.{node_count, successors}
use Rattle.dg_num.specs.Walks.{IsLeastOnCycle, IsTrueAt}
use Rattle.dg_num.proofs.Marks.{marked_within}
use Rattle.dg_num.proofs.Repeats.{cycle_from_zero, node_on_cycle}
use Rattle.dg_num.proofs.WalkLaws.{off_cycle_from_rank}
use Rattle.dg_num.proofs.ranking.ranks.Goals as goal

pub first_marked-node-requires-clause-some : goal.first_marked-node-requires-clause-some
first_marked-node-requires-clause-some c =
    let graph = c.args.graph.now in
    let ranks = c.in_ok-ranks.ranks.items in
    let P : List ℕ → Type 0 = λ xs. (x : ℕ) × (x < length xs) × (get_or xs x 0 ≡ 0) in
    let zero = subst P c.deref.ensures.value (c.has_zero.ensures.exact.0 c.if-has_zero.true) in
    let cyclic = cycle_from_zero graph ranks c.requires c.in_ok-ranks.ensures.left zero.0
    (omega (arith, zero.1, c.in_ok-ranks.ensures.len)) zero.2 in
    let exact = c.in_ok-marks_on_cycle.ensures.exact in
    let within = node_on_cycle graph cyclic.0 cyclic.1 in
    let Q : List Bool → Type 0 = λ xs. (x : ℕ) × (x < length xs) × IsTrueAt xs x in
    subst Q (sym c.deref-then-has_zero.ensures.value) (
      cyclic.0,
      omega (arith, within, exact.for_each_node),
      (exact.exact cyclic.0 within).1 cyclic.1,
    )

pub returns-then-has_zero-clause-cause : goal.returns-then-has_zero-clause-cause
returns-then-has_zero-clause-cause c = λ memory node.
    let graph = c.args.graph.now in
    let first = c.first_marked-node.result in
    let exact = c.in_ok-marks_on_cycle.ensures.exact in
    let marks = c.in_ok-marks_on_cycle.field-0.items in
    let P : List Bool → Type 0 = λ xs. IsTrueAt xs first in
    let marked = subst P c.deref-then-has_zero.ensures.value c.first_marked-node.ensures.marked in
    let within : first < node_count graph =
    omega (arith, marked_within marks first marked, exact.for_each_node) in
    let least : IsLeastOnCycle (successors graph) first = record {
      on_cycle = (exact.exact first within).0 marked;
      least = λ other cycle. let Q : List Bool
          → Type 0 = λ xs. IsTrueAt xs other in
          c.first_marked-node.ensures.least other (subst Q (sym c.deref-then-has_zero.ensures.value)
          ((exact.exact other (node_on_cycle graph other cycle)).1 cycle));
    } in (
      λ e. let same : first ≡ node = cc e in let R : ℕ
          → Type 0 = λ x. IsLeastOnCycle (successors graph) x in subst R same least,
      λ is. let same : first ≡ node = omega (
        arith,
        least.least node is.on_cycle,
        is.least first least.on_cycle,
      ) in ap (λ x. Err (Cyclic x)) same,
    )

pub returns-clause-exact : goal.returns-clause-exact
returns-clause-exact c =
    let ranks = c.in_ok-ranks.ranks.items in
    record {
      for_each_node = omega (arith, c.in_ok-ranks.ensures.len);
      exact = λ node lt. c.in_ok-ranks.ensures.ranked node
          (λ zero. let P : List ℕ → Type 0 =
          λ xs. (x : ℕ) × (x < length xs) × (get_or xs x 0 ≡ 0) in
          false≢true (sym c.if-has_zero.false ∙ c.has_zero.ensures.exact.1
          (subst P (sym c.deref.ensures.value) (
            node,
            omega (arith, lt, c.in_ok-ranks.ensures.len),
            zero,
          ))));
    }

pub returns-clause-cause : goal.returns-clause-cause
returns-clause-cause c = λ memory node.
    let ranks = c.in_ok-ranks.ranks.items in (
      λ e. cc e,
      λ is.
          let within = node_on_cycle c.args.graph.now node is.on_cycle in
          let ranked = c.in_ok-ranks.ensures.ranked node
          (λ zero. let P : List ℕ → Type 0 =
          λ xs. (x : ℕ) × (x < length xs) × (get_or xs x 0 ≡ 0) in
          false≢true (sym c.if-has_zero.false ∙ c.has_zero.ensures.exact.1
          (subst P (sym c.deref.ensures.value)
          (node, omega (arith, within, c.in_ok-ranks.ensures.len), zero)))) in
          absurd (off_cycle_from_rank c.args.graph.now node
          (get_or ranks node 0) ranked is.on_cycle),
    )
