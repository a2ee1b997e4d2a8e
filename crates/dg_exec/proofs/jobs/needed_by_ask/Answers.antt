use Rattle.std.proofs.Common.{◌∙◌}
use Rattle.dg_exec.proofs.EntrySlots.{entry_slot_is, needed_there, nothing_needed}
use Rattle.dg_exec.proofs.jobs.needed_by_ask.Goals as goal

pub returns-in_ok-jobs-in-Some : goal.returns-in_ok-jobs-in-Some
returns-in_ok-jobs-in-Some c = record {
  exact = λ doc of t.
      let e = entry_slot_is doc c.args.plan.now c.args.world.now of c.args.ask.now c.in-Some.slot
      c.in-Some.ensures.exact in
      needed_there doc c.args.ask.now c.in-Some.slot c.in_ok-jobs-in-Some.jobs.items e
      (c.in_ok-jobs-in-Some.ensures.exact doc of t e.node e.is_node);
}

pub returns-in-None : goal.returns-in-None
returns-in-None c = record {
  exact = λ doc of t. c.new.ensures.items
      ∙ nothing_needed doc c.args.plan.now c.args.world.now of c.args.ask.now
      c.in-None.ensures.exact;
}
