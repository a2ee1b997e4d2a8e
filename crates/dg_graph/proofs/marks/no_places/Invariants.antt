use Rattle.std.proofs.Common.{◌≡◌, vec_len}
use Rattle.dg_graph.proofs.marks.no_places.Given as goal

abbrev pub invariant-loop : goal.invariant-loop
invariant-loop l = vec_len l.rows ≡ l.counter
