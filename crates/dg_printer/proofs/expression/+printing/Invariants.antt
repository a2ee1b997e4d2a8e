use Rattle.std.proofs.Common.{◌≡◌, drop}
use Rattle.dg_printer.specs.Output.{with_others, with_expression}
use Rattle.dg_printer.proofs.expression.+printing.Given as goal

-- the arguments that are left, behind the text so far
abbrev pub invariant-push_argument_list-loop-other : goal.invariant-push_argument_list-loop-other
invariant-push_argument_list-loop-other l =
    with_others with_expression l.line (drop l.other-index l.others)
    ≡ with_others with_expression l.initial.line l.others
