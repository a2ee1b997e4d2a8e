use Rattle.std.proofs.Common.{◌≡◌, drop, take, []}
use Rattle.dg_decl.specs.Stages.Session as stage
use Rattle.dg_session.specs.Arguments.{names_of}
use Rattle.dg_session.proofs.arguments.first_bad.Given as goal

abbrev pub invariant-loop-index : goal.invariant-loop-index
invariant-loop-index l =
    stage.first_of (stage.bad_given l.names l.bounds (names_of (take l.index l.args)) (drop l.index
    l.args))
    ≡ stage.first_of (stage.bad_given l.names l.bounds [] l.args)
