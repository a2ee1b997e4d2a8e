use Rattle.std.proofs.Common.{sym, arith}
use Rattle.dg_comps.proofs.TableLemmas.{scopes_step}
use Rattle.dg_comps.proofs.scopes.add_scopes.Goals as goal

pub loop-scope-preserved : goal.loop-scope-preserved
loop-scope-preserved c =
    scopes_step c.args.table.now c.loop-scope.table c.add.new.self c.args.class
    c.loop-scope.scope-index c.args.scopes.now c.scope-item.result c.loop-scope.invariant
    (omega arith) (sym c.scope-item.is) c.in_ok-add.ensures.exact
