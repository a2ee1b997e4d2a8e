use Rattle.std.proofs.Common.{map, ap, ◌∙◌}
use Rattle.dg_num.specs.Graph.{IsSound}
use Rattle.dg_num.proofs.Rows.{IsSound-reversed}
use Rattle.dg_decl.specs.Graph as graph
use Rattle.dg_decl.specs.Sizes as sizes
use Rattle.dg_walks.specs.Rows.{IsGraphOf}
use Rattle.dg_walks.proofs.CycleLemmas.{sound_graph}
use Rattle.dg_walks.proofs.ProductionLemmas as lemmas
use Rattle.dg_walks.proofs.producing.productions.Goals as goal

pub passed_graph-requires : goal.passed_graph-requires
passed_graph-requires c = record {
  lists = lemmas.lists_counted c.args.d.now c.as_slice.result.now c.as_slice-2.result.now
      (c.as_slice.ensures ∙ c.requires.nodes) (c.as_slice-2.ensures ∙ c.requires.edges);
}

pub reversed-requires : goal.reversed-requires
reversed-requires c =
    let g : IsGraphOf (graph.nodes c.args.d.now) (sizes.passed_on c.args.d.now)
    c.in_ok-graph.graph =
    lemmas.passed_graph c.args.d.now c.in_ok-graph.graph c.as_slice.result.now
    c.as_slice-2.result.now (c.as_slice.ensures ∙ c.requires.nodes)
    (c.as_slice-2.ensures ∙ c.requires.edges) c.in_ok-graph.ensures.exact in
    sound_graph c.args.d.now (sizes.passed_on c.args.d.now) c.in_ok-graph.graph
    c.args.g.now.nodes c.requires.nodes c.requires.few g

pub marks_reached-requires-clause-graph : goal.marks_reached-requires-clause-graph
marks_reached-requires-clause-graph c =
    let g : IsGraphOf (graph.nodes c.args.d.now) (sizes.passed_on c.args.d.now)
    c.in_ok-graph.graph =
    lemmas.passed_graph c.args.d.now c.in_ok-graph.graph c.as_slice.result.now
    c.as_slice-2.result.now (c.as_slice.ensures ∙ c.requires.nodes)
    (c.as_slice-2.ensures ∙ c.requires.edges) c.in_ok-graph.ensures.exact in
    let sound : IsSound c.in_ok-graph.graph =
    sound_graph c.args.d.now (sizes.passed_on c.args.d.now) c.in_ok-graph.graph
    c.args.g.now.nodes c.requires.nodes c.requires.few g in
    IsSound-reversed c.in_ok-graph.graph c.in_ok-turned.turned sound c.in_ok-turned.ensures.exact

pub marks_reached-requires-clause-from : goal.marks_reached-requires-clause-from
marks_reached-requires-clause-from c =
    let g : IsGraphOf (graph.nodes c.args.d.now) (sizes.passed_on c.args.d.now)
    c.in_ok-graph.graph =
    lemmas.passed_graph c.args.d.now c.in_ok-graph.graph c.as_slice.result.now
    c.as_slice-2.result.now (c.as_slice.ensures ∙ c.requires.nodes)
    (c.as_slice-2.ensures ∙ c.requires.edges) c.in_ok-graph.ensures.exact in
    let are : lemmas.AreProducers c.args.d.now c.deref-2.result.now =
    lemmas.are_producers c.args.d.now c.deref-2.result.now c.in_ok-producers.producers.items
    c.deref.result.now c.deref-2.ensures.value
    (c.deref.ensures.value ∙ c.in_ok-told.ensures.exact
    ∙ ap (map (sizes.is_producer c.args.d.now)) (c.as_slice-3.ensures ∙ c.requires.nodes))
    c.in_ok-producers.ensures.exact in
    lemmas.producers_below c.args.d.now c.in_ok-graph.graph c.in_ok-turned.turned
    c.deref-2.result.now g c.in_ok-turned.ensures.exact are

pub returns : goal.returns
returns c =
    let g : IsGraphOf (graph.nodes c.args.d.now) (sizes.passed_on c.args.d.now)
    c.in_ok-graph.graph =
    lemmas.passed_graph c.args.d.now c.in_ok-graph.graph c.as_slice.result.now
    c.as_slice-2.result.now (c.as_slice.ensures ∙ c.requires.nodes)
    (c.as_slice-2.ensures ∙ c.requires.edges) c.in_ok-graph.ensures.exact in
    let are : lemmas.AreProducers c.args.d.now c.deref-2.result.now =
    lemmas.are_producers c.args.d.now c.deref-2.result.now c.in_ok-producers.producers.items
    c.deref.result.now c.deref-2.ensures.value
    (c.deref.ensures.value ∙ c.in_ok-told.ensures.exact
    ∙ ap (map (sizes.is_producer c.args.d.now)) (c.as_slice-3.ensures ∙ c.requires.nodes))
    c.in_ok-producers.ensures.exact in
    record {
      exact = lemmas.told_productions c.args.d.now c.in_ok-graph.graph c.in_ok-turned.turned
          c.deref-2.result.now c.in_ok-marks.marks.items g c.in_ok-turned.ensures.exact are
          c.in_ok-marks.ensures.exact;
    }
