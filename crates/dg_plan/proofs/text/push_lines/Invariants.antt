use Rattle.std.proofs.Common.{◌≡◌, ◌++◌, take}
use Rattle.dg_plan.specs.Counted.{texts_from}
use Rattle.dg_plan.specs.PlanLines.{plan_line}
use Rattle.dg_plan.proofs.text.push_lines.Given as goal

abbrev pub invariant-loop-index : goal.invariant-loop-index
invariant-loop-index l =
    l.text.items ≡ l.fn.text.items ++ texts_from (plan_line l.dependencies) 0 (take l.index l.nodes)
