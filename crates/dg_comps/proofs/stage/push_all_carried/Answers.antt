use Rattle.std.proofs.Common.{sym, arith}
use Rattle.dg_comps.specs.Broken.{carried}
use Rattle.dg_comps.proofs.BrokenLemmas.{carried_cons}
use Rattle.dg_comps.proofs.ModuleLemmas.{added_step}
use Rattle.dg_comps.proofs.stage.push_all_carried.Goals as goal

pub loop-scope-preserved : goal.loop-scope-preserved
loop-scope-preserved c =
    λ doc class knows over. added_step (carried doc class c.args.statement.now)
    c.args.broken.now.items c.scopes_in-scope-items.result.now c.loop-scope.scope-index
    c.scope-item.result c.loop-scope.broken.items c.push_carried.new.broken.items
    (carried_cons doc class c.args.statement.now) (c.loop-scope.invariant doc class knows over)
    (omega arith) (sym c.scope-item.is) (c.in_ok-push_carried.ensures.exact doc class knows over)
