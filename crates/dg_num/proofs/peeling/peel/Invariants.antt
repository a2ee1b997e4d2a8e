use Rattle.std.proofs.Common.{◌==◌, count_by}
use Rattle.dg_num.proofs.Peels.{Peeling}
use Rattle.dg_num.proofs.peeling.peel.Given as goal

abbrev pub invariant-loop-node : goal.invariant-loop-node
invariant-loop-node l = Peeling l.graph l.ranks.items l.missing.items l.ready.items

abbrev pub decreases-loop-node : goal.decreases-loop-node
decreases-loop-node l = count_by (λ rank. rank == 0) l.ranks.items
