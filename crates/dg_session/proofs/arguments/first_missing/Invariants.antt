use Rattle.std.proofs.Common.{◌≡◌, drop}
use Rattle.dg_decl.specs.Stages.Session as stage
use Rattle.dg_session.proofs.arguments.first_missing.Given as goal

abbrev pub invariant-loop-bound : goal.invariant-loop-bound
invariant-loop-bound l =
    stage.first_of (stage.missing (drop l.bound-index l.bounds) l.args)
    ≡ stage.first_of (stage.missing l.bounds l.args)
