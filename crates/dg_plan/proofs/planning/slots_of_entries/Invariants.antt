use Rattle.std.proofs.Common.{◌≡◌, take, filter_map}
use Rattle.dg_plan.specs.Entries.{slot_of_entry}
use Rattle.dg_plan.proofs.planning.slots_of_entries.Given as goal

abbrev pub invariant-loop-entry : goal.invariant-loop-entry
invariant-loop-entry l =
    l.slots.items ≡ filter_map (slot_of_entry l.numbers l.class) (take l.entry-index l.entries)
