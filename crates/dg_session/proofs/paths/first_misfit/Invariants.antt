use Rattle.std.proofs.Common.{◌≡◌, ◌+◌, drop}
use Rattle.dg_decl.specs.Stages.Session as stage
use Rattle.dg_session.proofs.paths.first_misfit.Given as goal

abbrev pub invariant-loop-index : goal.invariant-loop-index
invariant-loop-index l =
    stage.first_misfit l.names (l.index + 1) l.spot (drop l.index l.steps)
    ≡ stage.first_misfit l.names 1 l.shape l.steps
