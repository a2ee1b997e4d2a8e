use Rattle.std.proofs.Common.{◌∙◌}
use Rattle.dg_resolve.proofs.QueryLemmas.{few_classes}
use Rattle.dg_plan.proofs.PlanLemmas.{entries_are}
use Rattle.dg_plan.proofs.planning.entry_slots.Goals as goal

pub slots_by_class-requires : goal.slots_by_class-requires
slots_by_class-requires c = record {
  few = few_classes c.args.dependencies.now c.as_slice-classes.result.now c.doc-doc.ensures.bounded
      (c.as_slice-classes.ensures ∙ c.tree.ensures.exact);
}

pub returns : goal.returns
returns c = record {
  exact = c.in_ok-slots.ensures.exact
      ∙ entries_are c.args.dependencies.now c.as_slice-classes.result.now c.args.numbers.now
      (c.as_slice-classes.ensures ∙ c.tree.ensures.exact) c.requires.numbers;
}
