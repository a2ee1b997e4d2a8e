use Rattle.dg_walks.specs.Calls.{TellsCalled}
use Rattle.dg_walks.proofs.calls.mark_calls.Given as goal

abbrev pub invariant-loop-node : goal.invariant-loop-node
invariant-loop-node l = TellsCalled l.graph l.called l.node l.marks.items
