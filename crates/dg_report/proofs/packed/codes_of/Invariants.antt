use Rattle.std.proofs.Common.{◌≡◌, ◌++◌, drop}
use Rattle.dg_report.specs.Packed.{codes_of}
use Rattle.dg_report.proofs.packed.codes_of.Given as goal

abbrev pub invariant-loop-step : goal.invariant-loop-step
invariant-loop-step l = l.codes.items ++ codes_of (drop l.step-index l.steps) ≡ codes_of l.steps
