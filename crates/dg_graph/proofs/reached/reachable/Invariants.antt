use Rattle.std.proofs.Common.{◌^◌, ◌-◌}
use Rattle.dg_graph.specs.Reached.{Walked}
use Rattle.dg_graph.proofs.reached.reachable.Given as goal

abbrev pub invariant-loop-place : goal.invariant-loop-place
invariant-loop-place l = Walked l.dependencies l.found.keys l.place

abbrev pub decreases-loop-place : goal.decreases-loop-place
decreases-loop-place l = 2 ^ 63 - l.place
