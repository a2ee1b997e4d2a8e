use Rattle.std.proofs.Common.{◌∙◌}
use Rattle.dg_edges.proofs.EdgeLemmas.{all_differ}
use Rattle.dg_plan.proofs.planning.plan.Goals as goal

pub of-requires-3-clause-once : goal.of-requires-3-clause-once
of-requires-3-clause-once c =
    all_differ c.args.dependencies.now c.as_slice-nodes.result.now
    (c.as_slice-nodes.ensures ∙ c.requires.nodes)
