use Rattle.std.proofs.Common.{◌≡◌, drop}
use Rattle.dg_printer.specs.Output.{with_others, with_name}
use Rattle.dg_printer.proofs.clause.push_names.Given as goal

-- the names that are left, behind the text so far
abbrev pub invariant-loop-other : goal.invariant-loop-other
invariant-loop-other l =
    with_others with_name l.line (drop l.other-index l.others)
    ≡ with_others with_name l.initial.line l.others
