use Rattle.std.proofs.Common.{◌+◌, map, min, ap, ◌∙◌}
use Rattle.dg_decl.specs.Graph as graph
use Rattle.dg_decl.specs.Sizes.{size, is_shared}
use Rattle.dg_walks.specs.declared.rows.Follow.TheVariants as follow
use Rattle.dg_walks.specs.Rows.{row_of, IsGraphOf}
use Rattle.dg_walks.proofs.CycleLemmas.{sound_graph}
use Rattle.dg_walks.proofs.DepthLemmas.{needed_graph, is_acyclic}
use Rattle.dg_walks.proofs.WeightLemmas.{told_weights, counted_by}
use Rattle.dg_walks.proofs.sizes.weights.Goals as goal

pub weigh-requires : goal.weigh-requires
weigh-requires c =
    let g : IsGraphOf (graph.nodes c.args.d.now) (graph.needed_targets c.args.d.now)
    c.in_ok-graph.graph =
    needed_graph c.args.d.now c.in_ok-graph.graph c.args.g.now.edges c.requires.edges
    (c.in_ok-graph.ensures.exact ∙ ap (map (row_of follow.Needed)) c.as_slice.ensures) in
    let are = c.deref.ensures.value ∙ c.in_ok-own.ensures.exact
    ∙ ap (map (λ n. min (size c.args.d.now n) (c.args.limit + 1)))
    (c.as_slice-2.ensures ∙ c.requires.nodes) in
    let tell = c.deref-2.ensures.value ∙ c.in_ok-shared.ensures.exact
    ∙ ap (map (is_shared c.args.d.now)) (c.as_slice-3.ensures ∙ c.requires.nodes) in
    record {
      sound = sound_graph c.args.d.now (graph.needed_targets c.args.d.now) c.in_ok-graph.graph
          c.args.g.now.nodes c.requires.nodes c.requires.few g;
      acyclic = is_acyclic c.args.d.now c.in_ok-graph.graph c.requires.bindings g;
      own = counted_by c.args.d.now (graph.needed_targets c.args.d.now) c.in_ok-graph.graph
          (λ n. min (size c.args.d.now n) (c.args.limit + 1)) c.deref.result.now g are;
      shared = counted_by c.args.d.now (graph.needed_targets c.args.d.now) c.in_ok-graph.graph
          (is_shared c.args.d.now) c.deref-2.result.now g tell;
      limit = c.requires.limit;
    }

pub returns : goal.returns
returns c =
    let g : IsGraphOf (graph.nodes c.args.d.now) (graph.needed_targets c.args.d.now)
    c.in_ok-graph.graph =
    needed_graph c.args.d.now c.in_ok-graph.graph c.args.g.now.edges c.requires.edges
    (c.in_ok-graph.ensures.exact ∙ ap (map (row_of follow.Needed)) c.as_slice.ensures) in
    let are = c.deref.ensures.value ∙ c.in_ok-own.ensures.exact
    ∙ ap (map (λ n. min (size c.args.d.now n) (c.args.limit + 1)))
    (c.as_slice-2.ensures ∙ c.requires.nodes) in
    let tell = c.deref-2.ensures.value ∙ c.in_ok-shared.ensures.exact
    ∙ ap (map (is_shared c.args.d.now)) (c.as_slice-3.ensures ∙ c.requires.nodes) in
    record {
      exact = told_weights c.args.d.now c.in_ok-graph.graph c.deref.result.now c.deref-2.result.now
          c.args.limit c.in_ok-weights.weights.items g
          (sound_graph c.args.d.now (graph.needed_targets c.args.d.now) c.in_ok-graph.graph
          c.args.g.now.nodes c.requires.nodes c.requires.few g)
          (is_acyclic c.args.d.now c.in_ok-graph.graph c.requires.bindings g) are tell
          c.in_ok-weights.ensures.exact;
    }
