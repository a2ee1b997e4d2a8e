use Rattle.dg_decl.specs.Document.{statements}
use Rattle.dg_decl.specs.Components.{class_count, is_entry_of}
use Rattle.dg_comps.specs.Rows.{is_annotated, is_member}
use Rattle.dg_comps.proofs.RowLemmas.{RowsSoFar}
use Rattle.dg_comps.proofs.rows.members.Given as goal

abbrev pub invariant-loop-statement : goal.invariant-loop-statement
invariant-loop-statement l =
    RowsSoFar (is_member l.names) (statements l.names)
    (class_count l.names) l.statement-index l.rows.items
