use Rattle.std.proofs.Common.{◌++◌, ap, ◌∙◌}
use Rattle.dg_lex.specs.Bytes.{Bytes}
use Rattle.dg_edges.proofs.EdgeLemmas.{all_differ}
use Rattle.dg_plan.specs.Counted.{texts_from}
use Rattle.dg_plan.specs.PlanLines.{plan_line}
use Rattle.dg_plan.proofs.PlanLemmas.{lines_are}
use Rattle.dg_plan.proofs.text.plan_text.Goals as goal

pub of-requires-clause-once : goal.of-requires-clause-once
of-requires-clause-once c =
    all_differ c.args.dependencies.now c.as_slice-nodes.result.now
    (c.as_slice-nodes.ensures ∙ c.requires.nodes)

pub returns : goal.returns
returns c =
    let doc = c.args.dependencies.now in
    let ns = c.as_slice-nodes.result.now in
    record {
      exact = c.in_ok-push_lines.ensures.exact
          ∙ ap (λ (t : Bytes). t ++ texts_from (plan_line doc) 0 ns) c.new-text.ensures.items
          ∙ lines_are doc ns (c.as_slice-nodes.ensures ∙ c.requires.nodes);
    }
