use Rattle.std.proofs.Common.{arith}
use Rattle.dg_reader.proofs.TreeSteps.{tree_none, tree_step}
use Rattle.dg_reader.proofs.bodies.+trees.Goals as goal

pub tree-returns-then-depth-eq0 : goal.tree-returns-then-depth-eq0
tree-returns-then-depth-eq0 t c =
    record { exact = tree_none c.args.depth c.args.tokens.now c.if-depth-eq0.true }

pub tree-returns : goal.tree-returns
tree-returns t c =
    record {
      exact = tree_step c.args.depth c.args.tokens.now c.tree_over.new.tokens
          c.tree_over.result (omega (arith, c.if-depth-eq0.false)) c.tree_over.ensures.exact;
    }
