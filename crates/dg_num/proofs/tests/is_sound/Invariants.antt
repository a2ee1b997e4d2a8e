use Rattle.std.proofs.Common.{◌<◌, ℕ}
use Rattle.dg_num.specs.Graph.{node_count, HasEdge}
use Rattle.dg_num.proofs.tests.is_sound.Given as goal

abbrev pub invariant-loop-node : goal.invariant-loop-node
invariant-loop-node l = (a b : ℕ) → a < l.node → HasEdge l.graph a b → b < node_count l.graph
