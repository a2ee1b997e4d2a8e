use Rattle.dg_num.proofs.Peels.{Releasing}
use Rattle.dg_num.proofs.peeling.release.Given as goal

abbrev pub invariant-loop-node : goal.invariant-loop-node
invariant-loop-node l = Releasing l.initial.missing.items l.initial.ready.items l.row
    l.missing.items l.ready.items l.node-index
