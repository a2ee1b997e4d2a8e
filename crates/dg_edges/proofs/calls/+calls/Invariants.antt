use Rattle.std.proofs.Common.{◌≡◌, ◌++◌, map, take}
use Rattle.dg_decl.specs.Bodies.{all_of, calls_of_expr}
use Rattle.dg_edges.specs.Numbered.{called_by}
use Rattle.dg_edges.proofs.calls.+calls.Given as goal

abbrev pub invariant-joined-loop-arg : goal.invariant-joined-loop-arg
invariant-joined-loop-arg l =
    l.edges ≡ l.fn.edges
    ++ called_by l.numbers l.needed (all_of (map calls_of_expr (take l.arg-index l.args)))
