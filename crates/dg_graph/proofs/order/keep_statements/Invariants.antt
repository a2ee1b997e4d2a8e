use Rattle.dg_graph.specs.Kept.{KnowsClass}
use Rattle.dg_graph.proofs.order.keep_statements.Given as goal

abbrev pub invariant-loop-statement : goal.invariant-loop-statement
invariant-loop-statement l =
    KnowsClass l.dependencies l.sources.found.now.keys l.class l.header l.bindings l.fn.nodes.items
    l.statement-index l.passed l.place l.nodes.items
