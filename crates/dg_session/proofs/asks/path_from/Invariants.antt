use Rattle.std.proofs.Common.{◌≡◌, ◌++◌, drop}
use Rattle.dg_slots.specs.Sessions.{path_from}
use Rattle.dg_session.proofs.asks.path_from.Given as goal

abbrev pub invariant-loop-step : goal.invariant-loop-step
invariant-loop-step l =
    l.list ++ path_from l.numbers l.spot (drop l.step-index l.steps)
    ≡ path_from l.numbers l.shape l.steps
