use Rattle.std.proofs.Common.{ap, ◌∙◌}
use Rattle.dg_plan.specs.PlanLines.{plan_lines}
use Rattle.dg_top.proofs.planning.in_tree.Goals as goal

pub returns : goal.returns
returns c =
    record {
      exact = c.in_ok-text.ensures.exact ∙ ap plan_lines c.in_ok-dependencies.ensures.exact;
    }
