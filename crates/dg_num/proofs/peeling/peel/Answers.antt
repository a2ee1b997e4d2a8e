use Rattle.std.proofs.Common.{◌≡◌, ◌==◌, ◌+◌, ◌<◌, ◌≤◌, ◌⊎◌, ℕ, List, length, get_or, set, All}
use Rattle.std.proofs.Common.{Contains, count_by, Some, refl, ap, subst, ⊎_elim, arith}
use Rattle.std.proofs.lemmas.List.Elements.{All-pop, Contains-get_or}
use Rattle.dg_num.specs.Counts.{count_of, one_at_zero}
use Rattle.dg_num.specs.Graph.{node_count, successors}
use Rattle.dg_num.proofs.Counts.{count_by-zero-list}
use Rattle.dg_num.proofs.Peels.{Peeling-start, Peeling-popped, Peeling-enough, Peeling-step}
use Rattle.dg_num.proofs.Peels.{Peeling-left}
use Rattle.dg_num.proofs.Rows.{node_from_edge, HasEdge-back}
use Rattle.dg_num.proofs.WalkLaws.{IsRank-from_ranked}
use Rattle.dg_num.proofs.peeling.peel.Goals as goal

pub loop-node-init : goal.loop-node-init
loop-node-init c =
    let len = c.in_ok-missing.ensures.len in
    let P : List ℕ → Type 0 = λ xs. All (λ x. x < length xs) c.in_ok-ready.ready.items in
    let Q : List ℕ → Type 0 = λ xs. (node : ℕ) → node < length xs
    → count_of c.in_ok-ready.ready.items node ≡ one_at_zero (get_or xs node 0) in
    Peeling-start c.args.graph.now c.in_ok-ranks.ranks.items c.in_ok-missing.missing.items
    c.in_ok-ready.ready.items c.len.result (omega (arith, c.len.ensures))
    (c.in_ok-ranks.ensures.items_if_clones_equal (λ y e. e))
    (omega (arith, len)) c.in_ok-missing.ensures.exact
    (subst P c.deref.ensures.value c.in_ok-ready.ensures.within)
    (subst Q c.deref.ensures.value c.in_ok-ready.ensures.exact)

pub rank_above-requires-clause-within : goal.rank_above-requires-clause-within
rank_above-requires-clause-within c = λ k d h.
    let row = c.row.result.now in
    let P : List ℕ → Type 0 = λ xs. Contains xs (get_or row k d) in
    let edge = subst P c.row.ensures.exact (Contains-get_or row k d h) in
    omega (
      arith,
      c.requires.graph.in_range c.in-Some.node (get_or row k d) edge,
      c.loop-node.invariant.for_ranks,
      ap length c.deref-in-Some.ensures.value,
    )

pub rank_above-requires-clause-small : goal.rank_above-requires-clause-small
rank_above-requires-clause-small c = λ node.
    let popped = Peeling-popped c.args.graph.now c.loop-node.ranks.items c.loop-node.missing.items
    c.loop-node.ready.items c.pop.new.self.items c.in-Some.node c.loop-node.invariant
    c.in-Some.ensures.items in
    omega (
      arith,
      c.loop-node.invariant.bound node,
      popped.left,
      c.requires.graph.small,
      ap (λ xs. get_or xs node 0) c.deref-in-Some.ensures.value,
    )

pub release-requires-clause-within : goal.release-requires-clause-within
release-requires-clause-within c = λ k d h.
    let row = c.row-in-Some.result.now in
    let P : List ℕ → Type 0 = λ xs. Contains xs (get_or row k d) in
    let edge = subst P c.row-in-Some.ensures.exact (Contains-get_or row k d h) in
    omega (
      arith,
      node_from_edge c.args.graph.now (get_or row k d) c.in-Some.node
          (HasEdge-back c.args.graph.now c.args.turned.now c.requires.turned
          (get_or row k d) c.in-Some.node edge),
      c.loop-node.invariant.for_missing,
    )

pub release-requires-clause-ready_within : goal.release-requires-clause-ready_within
release-requires-clause-ready_within c = λ k d h.
    let rest = All-pop (λ x. x < node_count c.args.graph.now) c.loop-node.ready.items
    c.pop.new.self.items (Some c.in-Some.node) c.in-Some.ensures.items
    c.loop-node.invariant.within in
    omega (arith, rest.0 k d h, c.loop-node.invariant.for_missing)

pub release-requires-clause-enough : goal.release-requires-clause-enough
release-requires-clause-enough c = λ node h.
    let popped = Peeling-popped c.args.graph.now c.loop-node.ranks.items c.loop-node.missing.items
    c.loop-node.ready.items c.pop.new.self.items c.in-Some.node c.loop-node.invariant
    c.in-Some.ensures.items in
    omega (
      arith,
      Peeling-enough c.args.graph.now c.args.turned.now c.loop-node.ranks.items
          c.loop-node.missing.items c.loop-node.ready.items c.in-Some.node c.loop-node.invariant
          c.requires.turned popped node (omega (arith, h, c.loop-node.invariant.for_missing)),
      ap (λ xs. count_of xs node) c.row-in-Some.ensures.exact,
    )

pub loop-node-smaller : goal.loop-node-smaller
loop-node-smaller c =
    let popped = Peeling-popped c.args.graph.now c.loop-node.ranks.items c.loop-node.missing.items
    c.loop-node.ready.items c.pop.new.self.items c.in-Some.node c.loop-node.invariant
    c.in-Some.ensures.items in
    let positive : 1 ≤ c.rank_above.result =
    ⊎_elim (λ (one : c.rank_above.result ≡ 1). omega (arith, one))
    (λ (more : (after : ℕ) × Contains c.row.result.now after
    × (c.rank_above.result ≡ get_or c.deref-in-Some.result.now after 0 + 1)). omega (arith, more.2))
    c.rank_above.ensures.reached in
    let ranks = c.loop-node.ranks.items in
    let fewer : count_by (λ rank. rank == 0) (set ranks c.in-Some.node c.rank_above.result) + 1
    ≡ count_by (λ rank. rank == 0) ranks =
    count_by-zero-list ranks c.in-Some.node c.rank_above.result
    (omega (arith, popped.is_node, c.loop-node.invariant.for_ranks)) popped.unranked positive in
    let less : count_by (λ rank. rank == 0) (set ranks c.in-Some.node c.rank_above.result)
    < count_by (λ rank. rank == 0) ranks = omega (arith, fewer) in
    less

pub loop-node-preserved : goal.loop-node-preserved
loop-node-preserved c =
    let node = c.in-Some.node in
    let ranks = c.loop-node.ranks.items in
    let missing = c.loop-node.missing.items in
    let rank = c.rank_above.result in
    let row : c.row.result.now ≡ successors c.args.graph.now node = c.row.ensures.exact in
    let given : c.deref-in-Some.result.now ≡ ranks = c.deref-in-Some.ensures.value in
    let P : List ℕ → List ℕ → Type 0 = λ rs xs. All (λ after. get_or rs after 0 < rank) xs in
    let Q : List ℕ → List ℕ → Type 0 = λ rs xs.
    (rank ≡ 1) ⊎ ((after : ℕ) × Contains xs after × (rank ≡ get_or rs after 0 + 1)) in
    Peeling-step c.args.graph.now c.args.turned.now ranks missing c.loop-node.ready.items
    c.pop.new.self.items _ _ _ node rank c.loop-node.invariant c.requires.turned
    c.in-Some.ensures.items
    (subst (λ xs. P ranks xs) row (subst (λ rs. P rs c.row.result.now) given
    c.rank_above.ensures.above))
    (subst (λ xs. Q ranks xs) row (subst (λ rs. Q rs c.row.result.now) given
    c.rank_above.ensures.reached))
    refl
    (omega (arith, c.in_ok-release.ensures.len))
    (λ k d h. omega (arith, c.in_ok-release.ensures.ready_within k d h))
    (λ x h. omega (
      arith,
      c.in_ok-release.ensures.less x (omega (arith, h)),
      ap (λ xs. count_of xs x) c.row-in-Some.ensures.exact,
    ))
    (λ x h. c.in_ok-release.ensures.ready x (omega (arith, h)))

pub returns-clause-ranked : goal.returns-clause-ranked
returns-clause-ranked c = λ node ne. IsRank-from_ranked c.args.graph.now
    (λ x. get_or c.loop-node.ranks.items x 0) c.loop-node.invariant.ranked node (omega arith)

pub returns-clause-left : goal.returns-clause-left
returns-clause-left c = λ node lt none. Peeling-left c.args.graph.now c.loop-node.ranks.items
    c.loop-node.missing.items c.loop-node.ready.items c.loop-node.invariant
    (omega (arith, c.in_default.ensures.cases.0)) node lt none
