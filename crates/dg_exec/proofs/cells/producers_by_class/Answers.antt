use Rattle.std.proofs.Common.{ℕ, Vec}
use Rattle.std.specs.Global.{Global}
use Rattle.dg_exec.proofs.CellTables.{rows_pushed}
use Rattle.dg_exec.proofs.cells.producers_by_class.Goals as goal

pub loop-class-preserved : goal.loop-class-preserved
loop-class-preserved c =
    rows_pushed (λ (row : Vec ℕ Global). row.items) c.args.plan.now.slots c.loop-class.rows.items
    c.push.new.self.items c.in_ok-producers_of.field-0 c.loop-class.class
    c.loop-class.invariant.0 c.loop-class.invariant.1 c.in_ok-producers_of.ensures.exact
    c.in_ok-push.ensures.items
