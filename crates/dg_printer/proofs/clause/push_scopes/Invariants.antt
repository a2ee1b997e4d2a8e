use Rattle.std.proofs.Common.{◌≡◌, drop}
use Rattle.dg_printer.specs.Output.{with_all, with_scope}
use Rattle.dg_printer.proofs.clause.push_scopes.Given as goal

-- the scopes that are left, behind the text so far
abbrev pub invariant-loop-scope : goal.invariant-loop-scope
invariant-loop-scope l =
    with_all with_scope l.line (drop l.scope-index l.scopes)
    ≡ with_all with_scope l.initial.line l.scopes
