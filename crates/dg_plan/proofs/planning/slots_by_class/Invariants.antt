use Rattle.std.proofs.Common.{◌≡◌, map}
use Rattle.std.specs.List.{range_with_len}
use Rattle.dg_plan.specs.Entries.{entries_in}
use Rattle.dg_plan.proofs.planning.slots_by_class.Given as goal

abbrev pub invariant-loop-class : goal.invariant-loop-class
invariant-loop-class l =
    l.slots ≡ map (entries_in l.numbers l.classes) (range_with_len 0 l.class)
