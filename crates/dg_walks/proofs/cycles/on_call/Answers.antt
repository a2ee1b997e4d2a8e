use Rattle.std.proofs.Common.{map, ap, ◌∙◌}
use Rattle.dg_decl.specs.Graph as graph
use Rattle.dg_walks.specs.declared.rows.Follow.TheVariants as follow
use Rattle.dg_walks.specs.Rows.{row_of, IsGraphOf}
use Rattle.dg_walks.proofs.CycleLemmas.{sound_graph}
use Rattle.dg_walks.proofs.DepthLemmas.{needed_graph}
use Rattle.dg_walks.proofs.CallLemmas.{called_graph, are_parts, told_on_call}
use Rattle.dg_walks.proofs.cycles.on_call.Goals as goal

pub reversed-requires : goal.reversed-requires
reversed-requires c =
    let g : IsGraphOf (graph.nodes c.args.d.now) (graph.needed_targets c.args.d.now)
    c.in_ok-graph.graph =
    needed_graph c.args.d.now c.in_ok-graph.graph c.args.g.now.edges c.requires.edges
    (c.in_ok-graph.ensures.exact ∙ ap (map (row_of follow.Needed)) c.as_slice.ensures) in
    sound_graph c.args.d.now (graph.needed_targets c.args.d.now) c.in_ok-graph.graph
    c.args.g.now.nodes c.requires.nodes c.requires.few g

pub marks_on_cycle-requires : goal.marks_on_cycle-requires
marks_on_cycle-requires c =
    let g : IsGraphOf (graph.nodes c.args.d.now) (graph.needed_targets c.args.d.now)
    c.in_ok-graph.graph =
    needed_graph c.args.d.now c.in_ok-graph.graph c.args.g.now.edges c.requires.edges
    (c.in_ok-graph.ensures.exact ∙ ap (map (row_of follow.Needed)) c.as_slice.ensures) in
    record {
      sound = sound_graph c.args.d.now (graph.needed_targets c.args.d.now) c.in_ok-graph.graph
          c.args.g.now.nodes c.requires.nodes c.requires.few g;
    }

pub mark_calls-requires : goal.mark_calls-requires
mark_calls-requires c =
    let g : IsGraphOf (graph.nodes c.args.d.now) (graph.needed_targets c.args.d.now)
    c.in_ok-graph.graph =
    needed_graph c.args.d.now c.in_ok-graph.graph c.args.g.now.edges c.requires.edges
    (c.in_ok-graph.ensures.exact ∙ ap (map (row_of follow.Needed)) c.as_slice.ensures) in
    let h : IsGraphOf (graph.nodes c.args.d.now) (graph.called_targets c.args.d.now)
    c.in_ok-called.called =
    called_graph c.args.d.now c.in_ok-called.called c.args.g.now.edges c.requires.edges
    (c.in_ok-called.ensures.exact ∙ ap (map (row_of follow.Called)) c.as_slice-2.ensures) in
    record {
      parts = are_parts c.args.d.now c.in_ok-graph.graph c.in_ok-turned.turned
          c.in_ok-called.called c.in_ok-on_cycle.on_cycle.items c.deref.result.now g h
          (sound_graph c.args.d.now (graph.needed_targets c.args.d.now) c.in_ok-graph.graph
          c.args.g.now.nodes c.requires.nodes c.requires.few g) c.in_ok-turned.ensures.exact
          c.in_ok-on_cycle.ensures.exact c.deref.ensures.value;
    }

pub returns : goal.returns
returns c =
    let g : IsGraphOf (graph.nodes c.args.d.now) (graph.needed_targets c.args.d.now)
    c.in_ok-graph.graph =
    needed_graph c.args.d.now c.in_ok-graph.graph c.args.g.now.edges c.requires.edges
    (c.in_ok-graph.ensures.exact ∙ ap (map (row_of follow.Needed)) c.as_slice.ensures) in
    let h : IsGraphOf (graph.nodes c.args.d.now) (graph.called_targets c.args.d.now)
    c.in_ok-called.called =
    called_graph c.args.d.now c.in_ok-called.called c.args.g.now.edges c.requires.edges
    (c.in_ok-called.ensures.exact ∙ ap (map (row_of follow.Called)) c.as_slice-2.ensures) in
    record {
      exact = told_on_call c.args.d.now c.in_ok-graph.graph c.in_ok-called.called
          c.in_ok-marks.marks.items g h c.in_ok-marks.ensures.exact;
    }
