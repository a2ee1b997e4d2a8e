use Rattle.std.proofs.Common.{◌≡◌, ◌++◌, take}
use Rattle.dg_edges.specs.Numbered.{needed_from}
use Rattle.dg_edges.proofs.edges.add_needed.Given as goal

abbrev pub invariant-loop-index : goal.invariant-loop-index
invariant-loop-index l =
    l.edges ≡ l.fn.edges ++ needed_from l.numbers 0 (take l.index l.needed)
