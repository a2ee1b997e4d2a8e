use Rattle.std.proofs.Common.{◌≡◌, ◌++◌, drop, filter}
use Rattle.dg_decl.specs.Names.{is_class}
use Rattle.dg_report.proofs.classes.lines_of.Given as goal

-- the lines so far and those of the statements that are left are all
abbrev pub invariant-loop-s : goal.invariant-loop-s
invariant-loop-s l =
    l.lines.items ++ filter (λ s. is_class s.item) (drop l.s-index l.statements)
    ≡ filter (λ s. is_class s.item) l.statements
