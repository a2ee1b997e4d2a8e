use Rattle.std.proofs.Common.{◌≡◌, drop}
use Rattle.dg_printer.specs.Output.{with_others, with_argument}
use Rattle.dg_printer.proofs.clause.push_open_arg_list.Given as goal

-- the arguments that are left, behind the text so far
abbrev pub invariant-loop-other : goal.invariant-loop-other
invariant-loop-other l =
    with_others with_argument l.line (drop l.other-index l.others)
    ≡ with_others with_argument l.initial.line l.others
