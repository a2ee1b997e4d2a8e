use Rattle.std.proofs.Common.{◌≡◌, ◌++◌, drop, filter_map}
use Rattle.std.specs.List.{enumerate_from}
use Rattle.dg_exec.specs.Tables.{producer_number, producers_of}
use Rattle.dg_exec.proofs.cells.producers_of.Given as goal

abbrev pub invariant-loop-slot : goal.invariant-loop-slot
invariant-loop-slot l =
    l.producers.items
    ++ filter_map (producer_number l.class)
    (enumerate_from l.number (drop l.slot-index l.slot-items))
    ≡ producers_of l.class l.plan.slots
