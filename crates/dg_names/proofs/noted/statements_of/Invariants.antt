use Rattle.std.proofs.Common.{◌≡◌, ◌++◌, drop, None}
use Rattle.dg_decl.specs.Document.{statements_from}
use Rattle.dg_names.proofs.noted.statements_of.Given as goal

abbrev pub invariant-loop-place : goal.invariant-loop-place
invariant-loop-place l =
    l.found.items ++ statements_from l.doc l.place l.block (drop l.place l.items)
    ≡ statements_from l.doc 0 None l.doc.items
