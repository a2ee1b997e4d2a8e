use Rattle.std.proofs.Common.{sym, ap, ◌∙◌, arith}
use Rattle.dg_decl.specs.Stages.Session as stage
use Rattle.dg_session.proofs.ArgumentLemmas.{bad_step}
use Rattle.dg_session.proofs.arguments.first_bad.Goals as goal

pub loop-index-preserved : goal.loop-index-preserved
loop-index-preserved c =
    ap stage.first_of (bad_step c.args.names.now c.args.bounds.now c.args.args.now
    c.loop-index.index c.index-args-index.result (omega arith) (sym c.index-args-index.is)
    (sym c.is_good.ensures.exact ∙ c.if-not-is_good.false))
    ∙ c.loop-index.invariant
