use Rattle.std.proofs.Common.{◌≡◌, map, length}
use Rattle.dg_exec.specs.Tables.{AreRows}
use Rattle.dg_exec.proofs.cells.producers_by_class.Given as goal

abbrev pub invariant-loop-class : goal.invariant-loop-class
invariant-loop-class l =
    AreRows l.plan.slots (map (λ row. row.items) l.rows.items) × (length l.rows.items ≡ l.class)
