use Rattle.std.proofs.Common.{◌∙◌, ap, suc}
use Rattle.dg_decl.specs.declared.graph.EdgeKind.{EdgeKind}
use Rattle.dg_decl.specs.Graph.{Dependency, edge_kind}
use Rattle.dg_edges.specs.Numbered.{edge_of}
use Rattle.dg_edges.proofs.EdgeLemmas.{needed_none, needed_more}
use Rattle.dg_edges.proofs.edges.add_needed.Goals as goal

pub loop-index-init : goal.loop-index-init
loop-index-init c = needed_none c.args.numbers.now c.args.edges.now

pub loop-index-preserved : goal.loop-index-preserved
loop-index-preserved c =
    let ns = c.args.numbers.now in
    let i = c.loop-index.index in
    let d = c.index-needed-index.result in
    needed_more ns c.args.needed.now i d c.args.edges.now c.loop-index.edges c.add.new.edges
    c.in_ok-edge_of.field-0 c.loop-index-test.true c.index-needed-index.is c.loop-index.invariant
    (c.in_ok-edge_of.ensures.exact
    ∙ ap (λ (k : EdgeKind). edge_of ns k (suc i) d) c.edge_kind-kind.ensures.exact
    ∙ ap (λ (x : Dependency). edge_of ns (edge_kind x.mode) (suc i) d) c.dependency.view_is)
    c.in_ok-add.ensures.exact
