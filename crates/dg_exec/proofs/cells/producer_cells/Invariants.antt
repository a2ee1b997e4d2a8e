use Rattle.std.proofs.Common.{◌≡◌, ◌++◌, drop, flat_map}
use Rattle.std.specs.List.{enumerate_from}
use Rattle.dg_exec.specs.Tables.{cells_of, all_cells}
use Rattle.dg_exec.proofs.cells.producer_cells.Given as goal

abbrev pub invariant-loop-class : goal.invariant-loop-class
invariant-loop-class l =
    l.cells.items
    ++ flat_map (cells_of l.plan.slots) (enumerate_from l.inst (drop l.class-index l.class-items))
    ≡ all_cells l.plan.slots l.world.class
