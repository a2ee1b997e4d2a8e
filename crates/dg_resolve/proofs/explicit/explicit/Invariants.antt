use Rattle.dg_resolve.specs.Explicit.{KnowsExplicit}
use Rattle.dg_resolve.proofs.explicit.explicit.Given as goal

abbrev pub invariant-loop-statement : goal.invariant-loop-statement
invariant-loop-statement l =
    KnowsExplicit l.names l.sources.headed.now l.sources.bindings.now l.statement-index l.place l.lines l.made
