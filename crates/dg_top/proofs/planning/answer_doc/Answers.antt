use Rattle.std.proofs.Common.{sym, ◌∙◌}
use Rattle.dg_plan.specs.PlanLines.{plan_lines}
use Rattle.dg_top.proofs.AnswerLemmas.{answer_refused, answer_accepted}
use Rattle.dg_top.proofs.StageLemmas.{accepted_passes}
use Rattle.dg_top.proofs.planning.answer_doc.Goals as goal

pub returns-then-is_found : goal.returns-then-is_found
returns-then-is_found c =
    let broken = c.in_ok-broken.broken in
    let some = rw c.as_slice.ensures.value at (c.is_found.ensures.found c.if-is_found.true) in
    record {
      exact = answer_refused c.args.d.now (plan_lines c.args.d.now) broken.items c.in_ok-lines_of.field-0.items c.in_ok-broken.ensures.exact some (rw c.as_slice-then-is_found.ensures.value at c.in_ok-lines_of.ensures.exact);
    }

pub lines_of_plan-requires-clause-passes : goal.lines_of_plan-requires-clause-passes
lines_of_plan-requires-clause-passes c =
    let none = rw c.as_slice.ensures.value at (c.is_found.ensures.nothing c.if-is_found.false) in
    accepted_passes c.args.d.now (sym c.in_ok-broken.ensures.exact ∙ none)

pub returns : goal.returns
returns c =
    let broken = c.in_ok-broken.broken in
    let none = rw c.as_slice.ensures.value at (c.is_found.ensures.nothing c.if-is_found.false) in
    record {
      exact = answer_accepted c.args.d.now (plan_lines c.args.d.now) broken.items c.in_ok-lines_of_plan.field-0.items c.in_ok-broken.ensures.exact none c.in_ok-lines_of_plan.ensures.exact;
    }
