use Rattle.dg_num.proofs.Marks.{Marking}
use Rattle.dg_num.proofs.reached.mark_new.Given as goal

abbrev pub invariant-loop-node : goal.invariant-loop-node
invariant-loop-node l = Marking l.initial.marks.items l.initial.queue.items l.row l.marks.items
    l.queue.items l.node-index
