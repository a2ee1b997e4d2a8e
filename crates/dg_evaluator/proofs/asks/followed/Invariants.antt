use Rattle.std.proofs.Common.{◌≡◌}
use Rattle.dg_eval.specs.Asks.{followed}
use Rattle.dg_evaluator.proofs.RestLemmas.{Rest}
use Rattle.dg_evaluator.proofs.PathLemmas.{FromStep}
use Rattle.dg_evaluator.proofs.asks.followed.Given as goal

abbrev pub invariant-loop-index : goal.invariant-loop-index
invariant-loop-index g l = record {
  rest : Rest g.S.InScope.scope (followed g.S.InScope.scope.doc l.fn.place 1 l.steps l.fn.value)
      (g.C.Cells.asked l.fn.cells)
      (FromStep g.S.InScope.scope.doc l.fn.place l.steps l.index l.value)
      (g.C.Cells.asked l.cells);
  same : g.C.Cells.scope l.cells ≡ g.S.InScope.scope;
}
