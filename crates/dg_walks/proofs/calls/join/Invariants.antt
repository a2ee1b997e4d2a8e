use Rattle.dg_walks.specs.Calls.{Joined}
use Rattle.dg_walks.proofs.calls.join.Given as goal

abbrev pub invariant-loop-index : goal.invariant-loop-index
invariant-loop-index l = Joined l.initial.marks.items l.ahead l.back l.index l.marks.items
