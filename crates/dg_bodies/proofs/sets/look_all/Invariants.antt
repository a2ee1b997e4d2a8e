use Rattle.std.proofs.Common.{◌≡◌, map}
use Rattle.dg_eval.specs.Meaning.{look, eval}
use Rattle.dg_bodies.proofs.RunLists.{Passed}
use Rattle.dg_bodies.proofs.sets.look_all.Given as goal

abbrev pub invariant-loop-value : goal.invariant-loop-value
invariant-loop-value g l = record {
  passed : Passed g.S.InScope.scope
      (map (look (eval g.S.InScope.scope.doc l.fn.depth) l.fn.depth) l.values) l.value-index
      (g.C.Cells.asked l.fn.cells) (g.C.Cells.asked l.cells) l.contents.items;
  same : g.C.Cells.scope l.cells ≡ g.S.InScope.scope;
}
