use Rattle.std.proofs.Common.{map, ap, ◌∙◌}
use Rattle.dg_decl.specs.Graph as graph
use Rattle.dg_walks.specs.declared.rows.Follow.TheVariants as follow
use Rattle.dg_walks.specs.Rows.{row_of}
use Rattle.dg_walks.proofs.CycleLemmas.{sound_graph, direct_graph, told_on_cycle}
use Rattle.dg_walks.proofs.cycles.on_cycle.Goals as goal

pub marks_on_cycle-requires : goal.marks_on_cycle-requires
marks_on_cycle-requires c = record {
  sound = sound_graph c.args.d.now (graph.direct_targets c.args.d.now) c.in_ok-graph.graph
      c.args.g.now.nodes c.requires.nodes c.requires.few
      (direct_graph c.args.d.now c.in_ok-graph.graph c.args.g.now.edges c.requires.edges
      (c.in_ok-graph.ensures.exact ∙ ap (map (row_of follow.Direct)) c.as_slice.ensures));
}

pub returns : goal.returns
returns c = record {
  exact = told_on_cycle c.args.d.now c.in_ok-graph.graph c.in_ok-marks.marks.items
      (direct_graph c.args.d.now c.in_ok-graph.graph c.args.g.now.edges c.requires.edges
      (c.in_ok-graph.ensures.exact ∙ ap (map (row_of follow.Direct)) c.as_slice.ensures))
      c.in_ok-marks.ensures.exact;
}
