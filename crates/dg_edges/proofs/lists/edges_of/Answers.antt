use Rattle.std.proofs.Common.{◌++◌, ◌∙◌, List, ap}
use Rattle.dg_decl.specs.declared.document.Doc.{Doc}
use Rattle.dg_decl.specs.declared.graph.Edge.{Edge}
use Rattle.dg_decl.specs.Graph.{calls_of}
use Rattle.dg_edges.specs.Numbered.{needed_from, called_by}
use Rattle.dg_edges.proofs.EdgeLemmas.{edges_are}
use Rattle.dg_edges.proofs.lists.edges_of.Goals as goal

pub returns : goal.returns
returns c =
    let ns = c.args.numbers.now in
    let n = c.args.node.now in
    let ds = c.as_slice-needed.result.now in
    let first = c.add_needed.new.edges in
    record {
      exact = edges_are c.args.dependencies.now n ns ds first c.add_calls.new.edges
          c.requires.numbers (c.as_slice-needed.ensures.value ∙ c.in_ok-needed.ensures.exact)
          (c.in_ok-add_needed.ensures.exact
          ∙ ap (λ (es : List Edge). es ++ needed_from ns 0 ds) c.new-edges.ensures)
          (c.in_ok-add_calls.ensures.exact
          ∙ ap (λ (d : Doc). first ++ called_by ns ds (calls_of d n)) c.doc.ensures.exact);
    }
