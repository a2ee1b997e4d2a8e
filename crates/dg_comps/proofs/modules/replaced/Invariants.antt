use Rattle.std.proofs.Common.{length, false}
use Rattle.dg_decl.specs.Document.{statements}
use Rattle.dg_comps.proofs.ModuleLemmas.{MarksSoFar, replaces_it}
use Rattle.dg_comps.proofs.modules.replaced.Given as goal

abbrev pub invariant-loop-statement : goal.invariant-loop-statement
invariant-loop-statement l =
    MarksSoFar (replaces_it l.names) (λ m. false) (length l.names.items) (statements l.names)
    l.statement-index l.marks.items
