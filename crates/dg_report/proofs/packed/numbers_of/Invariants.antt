use Rattle.std.proofs.Common.{◌≡◌, ◌++◌, drop}
use Rattle.dg_report.specs.Packed.{numbers_of}
use Rattle.dg_report.proofs.packed.numbers_of.Given as goal

abbrev pub invariant-loop-step : goal.invariant-loop-step
invariant-loop-step l =
    l.numbers.items ++ numbers_of (drop l.step-index l.steps) ≡ numbers_of l.steps
