use Rattle.std.proofs.Common.{◌≡◌, drop}
use Rattle.dg_printer.specs.Output.{with_all, with_step}
use Rattle.dg_printer.proofs.clause.push_steps.Given as goal

-- the steps that are left, behind the text so far
abbrev pub invariant-loop-step : goal.invariant-loop-step
invariant-loop-step l =
    with_all with_step l.line (drop l.step-index l.steps)
    ≡ with_all with_step l.initial.line l.steps
