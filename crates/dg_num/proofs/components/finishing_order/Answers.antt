use Rattle.std.proofs.Common.{◌≡◌, ◌-◌, ◌++◌, ◌∷◌, [], ℕ, List, get_or, sym, ◌∙◌, subst, arith}
use Rattle.dg_num.specs.Graph.{successors}
use Rattle.dg_num.specs.Walks.{IsTrueAt}
use Rattle.dg_num.proofs.Counts.{contained_at}
use Rattle.dg_num.proofs.Visits.{Visiting, Visiting-top, Visiting-leads, Visiting-enter}
use Rattle.dg_num.proofs.Visits.{Visiting-look, Visiting-finish, Visiting-each, Visiting-nodes}
use Rattle.dg_num.proofs.components.finishing_order.Goals as goal

pub next_edge-requires-clause-node : goal.next_edge-requires-clause-node
next_edge-requires-clause-node c = Visiting-top c.args.graph.now c.loop-node.seen.items
    c.loop-node.left.items c.loop-node.path.items c.pop.new.self.items c.loop-node.order.items
    c.in-Some.node c.loop-node.invariant.visiting c.in-Some.ensures.items

pub enter-requires : goal.enter-requires
enter-requires c =
    let s = c.loop-node.invariant.visiting in
    let node = c.in-Some.node in
    let l = get_or c.loop-node.left.items node 0 in
    let step = c.in-Some-next_edge.ensures.cases in
    let edge = contained_at (successors c.args.graph.now node) (l - 1) c.in-Some-next_edge.after
    (omega (arith, s.bounded node, step.1)) (sym step.2) in
    omega (arith, c.requires.in_range node c.in-Some-next_edge.after edge, s.for_seen)

pub loop-node-preserved-in-Continue-branch-5 : goal.loop-node-preserved-in-Continue-branch-5
loop-node-preserved-in-Continue-branch-5 c =
    let graph = c.args.graph.now in
    let seen = c.loop-node.seen.items in
    let left = c.loop-node.left.items in
    let order = c.loop-node.order.items in
    let node = c.in-Some.node in
    let after = c.in-Some-next_edge.after in
    let l = get_or left node 0 in
    let rest = c.pop.new.self.items in
    let path = c.push.new.self.items in
    let step = c.in-Some-next_edge.ensures.cases in
    let path-is : path ≡ rest ++ node ∷ [] = c.in_ok-push.ensures.items in
    let same : c.loop-node.path.items ≡ path = c.in-Some.ensures.items ∙ sym path-is in
    let V : List ℕ → Type 0 = λ ps. Visiting graph seen left ps order in
    let s = subst V same c.loop-node.invariant.visiting in
    let edge = contained_at (successors graph node) (l - 1) after
    (omega (arith, s.bounded node, step.1)) (sym step.2) in
    let entered = Visiting-enter graph seen c.enter.new.seen.items left path c.enter.new.path.items
    order after s (c.requires.in_range node after edge)
    (Visiting-leads graph seen left path rest order node after s path-is edge)
    c.in_ok-enter.ensures.cases in
    let M : ℕ → Type 0 = λ x. IsTrueAt c.enter.new.seen.items x in
    record {
      visiting = Visiting-look graph c.enter.new.seen.items left c.next_edge.new.left.items
          c.enter.new.path.items order node entered.0
          (Visiting-top graph seen left path rest order node s path-is) step.1 step.0
          (subst M step.2 entered.1);
      roots = λ v lt. entered.2 v (c.loop-node.invariant.roots v lt);
      root_le = c.loop-node.invariant.root_le;
    }

pub loop-node-preserved-in-Continue-branch-6 : goal.loop-node-preserved-in-Continue-branch-6
loop-node-preserved-in-Continue-branch-6 c =
    let graph = c.args.graph.now in
    let seen = c.loop-node.seen.items in
    let left = c.loop-node.left.items in
    let order = c.loop-node.order.items in
    let rest = c.pop.new.self.items in
    let step = c.in_default-next_edge.ensures.cases in
    let V : List ℕ → Type 0 = λ ls. Visiting graph seen ls rest
    c.push-in_default-next_edge.new.self.items in
    record {
      visiting = subst V (sym step.1) (Visiting-finish graph seen left c.loop-node.path.items rest
          order c.push-in_default-next_edge.new.self.items c.in-Some.node
          c.loop-node.invariant.visiting c.in-Some.ensures.items step.0
          c.in_ok-push-2.ensures.items);
      roots = c.loop-node.invariant.roots;
      root_le = c.loop-node.invariant.root_le;
    }

pub returns-else-root-len-clause-nodes : goal.returns-else-root-len-clause-nodes
returns-else-root-len-clause-nodes c = Visiting-nodes c.args.graph.now c.loop-node.seen.items
    c.loop-node.left.items c.loop-node.path.items c.loop-node.order.items
    c.loop-node.invariant.visiting

pub returns-else-root-len-clause-each : goal.returns-else-root-len-clause-each
returns-else-root-len-clause-each c = Visiting-each c.args.graph.now c.loop-node.seen.items
    c.loop-node.left.items c.loop-node.path.items c.loop-node.order.items
    c.loop-node.invariant.visiting (omega (arith, c.in_default.ensures.cases.0))
    (λ v lt. c.loop-node.invariant.roots v (omega (
      arith,
      lt,
      c.if-root-len.false,
      c.len-in_default.ensures,
    )))
