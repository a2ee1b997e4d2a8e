use Rattle.std.proofs.Common.{ap, ◌∙◌}
use Rattle.dg_slots.specs.Plans.{plan_of}
use Rattle.dg_top.proofs.preparing.plan_in.Goals as goal

pub returns : goal.returns
returns c =
    record {
      exact = c.in_ok-plan.ensures.exact ∙ ap plan_of c.in_ok-dependencies.ensures.exact;
    }
