use Rattle.dg_decl.specs.Document.{statements}
use Rattle.dg_decl.specs.Components.{class_count}
use Rattle.dg_comps.specs.Rows.{is_installed_at}
use Rattle.dg_comps.proofs.RowLemmas.{RowsSoFar}
use Rattle.dg_comps.proofs.modules.installed.Given as goal

abbrev pub invariant-loop-statement : goal.invariant-loop-statement
invariant-loop-statement l =
    RowsSoFar (is_installed_at l.names) (statements l.names) (class_count l.names)
    l.statement-index l.rows.items
