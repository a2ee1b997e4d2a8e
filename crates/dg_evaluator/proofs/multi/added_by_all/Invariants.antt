use Rattle.std.proofs.Common.{◌≡◌, drop}
use Rattle.dg_eval.specs.Meaning.{look, eval, added_by_all}
use Rattle.dg_evaluator.specs.Sets.{form_of}
use Rattle.dg_evaluator.proofs.RestLemmas.{Rest}
use Rattle.dg_evaluator.proofs.SetLemmas.{Adding}
use Rattle.dg_evaluator.proofs.multi.added_by_all.Given as goal

abbrev pub invariant-loop-index : goal.invariant-loop-index
invariant-loop-index g l = record {
  rest : Rest g.S.InScope.scope
      (added_by_all (form_of l.fn.of_outcomes)
      (look (eval g.S.InScope.scope.doc l.fn.depth) l.fn.depth) l.flags l.values)
      (g.C.Cells.asked l.fn.cells)
      (Adding (form_of l.fn.of_outcomes)
      (look (eval g.S.InScope.scope.doc l.fn.depth) l.fn.depth) l.all (drop l.index l.flags)
      (drop l.index l.values))
      (g.C.Cells.asked l.cells);
  same : g.C.Cells.scope l.cells ≡ g.S.InScope.scope;
}
