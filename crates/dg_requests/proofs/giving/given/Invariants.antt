use Rattle.std.proofs.Common.{◌≡◌, take, Some}
use Rattle.dg_decl.specs.declared.graph.Node.{Node}
use Rattle.dg_eval.specs.Runs.{all}
use Rattle.dg_eval.specs.Meaning.{node_in, given, eval}
use Rattle.dg_requests.specs.Results.{Ran}
use Rattle.dg_requests.proofs.giving.given.Given as goal

-- what the inputs so far are given
abbrev pub invariant-loop-index : goal.invariant-loop-index
invariant-loop-index g l = record {
  ran : (n : Node) → node_in g.S.InScope.scope.doc l.inst l.slot ≡ Some n
      → Ran g.S.InScope.scope (all (take l.index (given g.S.InScope.scope.doc
      (eval g.S.InScope.scope.doc l.depth) l.inst n l.place)))
      (g.C.Cells.asked l.fn.cells) (g.C.Cells.asked l.cells) l.so_far;
  same : g.C.Cells.scope l.cells ≡ g.S.InScope.scope;
}
