use Rattle.std.proofs.Common.{◌≡◌, drop}
use Rattle.dg_printer.specs.Output.{with_others, with_param}
use Rattle.dg_printer.proofs.shape.push_param_list.Given as goal

-- the parameters that are left, behind the text so far
abbrev pub invariant-loop-other : goal.invariant-loop-other
invariant-loop-other l =
    with_others with_param l.line (drop l.other-index l.others)
    ≡ with_others with_param l.initial.line l.others
