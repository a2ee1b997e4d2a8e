use Rattle.std.proofs.Common.{map, ap, ◌∙◌}
use Rattle.dg_decl.specs.Graph as graph
use Rattle.dg_walks.specs.declared.rows.Follow.TheVariants as follow
use Rattle.dg_walks.specs.Rows.{row_of, IsGraphOf}
use Rattle.dg_walks.proofs.CycleLemmas.{sound_graph}
use Rattle.dg_walks.proofs.DepthLemmas.{needed_graph, is_acyclic, told_depths}
use Rattle.dg_walks.proofs.sizes.depths.Goals as goal

pub longest_walks-requires : goal.longest_walks-requires
longest_walks-requires c =
    let g : IsGraphOf (graph.nodes c.args.d.now) (graph.needed_targets c.args.d.now)
    c.in_ok-graph.graph =
    needed_graph c.args.d.now c.in_ok-graph.graph c.args.g.now.edges c.requires.edges
    (c.in_ok-graph.ensures.exact ∙ ap (map (row_of follow.Needed)) c.as_slice.ensures) in
    record {
      sound = sound_graph c.args.d.now (graph.needed_targets c.args.d.now) c.in_ok-graph.graph
          c.args.g.now.nodes c.requires.nodes c.requires.few g;
      acyclic = is_acyclic c.args.d.now c.in_ok-graph.graph c.requires.bindings g;
    }

pub returns : goal.returns
returns c =
    let g : IsGraphOf (graph.nodes c.args.d.now) (graph.needed_targets c.args.d.now)
    c.in_ok-graph.graph =
    needed_graph c.args.d.now c.in_ok-graph.graph c.args.g.now.edges c.requires.edges
    (c.in_ok-graph.ensures.exact ∙ ap (map (row_of follow.Needed)) c.as_slice.ensures) in
    record {
      exact = told_depths c.args.d.now c.in_ok-graph.graph c.in_ok-depths.depths.items
          c.requires.bindings g c.in_ok-depths.ensures.exact;
    }
