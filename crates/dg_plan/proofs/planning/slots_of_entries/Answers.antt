use Rattle.dg_plan.specs.Entries.{slot_of_entry}
use Rattle.dg_plan.proofs.ListLemmas.{filter_more_at}
use Rattle.dg_plan.proofs.planning.slots_of_entries.Goals as goal

pub loop-entry-preserved : goal.loop-entry-preserved
loop-entry-preserved c =
    filter_more_at (slot_of_entry c.args.numbers.now c.args.class) c.args.entries.now
    c.loop-entry.entry-index 0 c.loop-entry.slots.items c.add.new.slots.items
    c.slot_of_entry.result c.loop-entry-test.true c.loop-entry.invariant
    c.slot_of_entry.ensures.exact c.in_ok-add.ensures.exact
