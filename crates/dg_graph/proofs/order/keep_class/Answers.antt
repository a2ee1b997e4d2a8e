use Rattle.std.proofs.Common.{◌≡◌, ◌++◌, List, flat_map, refl, ap, subst, ◌∙◌}
use Rattle.dg_decl.specs.declared.document.Doc.{Doc}
use Rattle.dg_decl.specs.declared.graph.NodeKind.{NodeKind}
use Rattle.dg_decl.specs.Document.{statements}
use Rattle.dg_decl.specs.Graph.{default_kind, kinds_at, kinds_of}
use Rattle.dg_resolve.specs.Members.{header_index}
use Rattle.dg_graph.specs.Kept.{kept}
use Rattle.dg_graph.proofs.KeptLemmas.{on_ok, goes_on}
use Rattle.dg_graph.proofs.PassLemmas.{default_is}
use Rattle.dg_graph.proofs.order.keep_class.Goals as goal

pub returns : goal.returns
returns c =
    let doc = c.args.dependencies.now in
    let found = c.args.sources.found.now.keys in
    let class = c.args.class in
    let old = c.args.nodes.now.items in
    let mid = c.keep_default.new.nodes.items in
    let new = c.keep_statements.new.nodes.items in
    let kind = default_is doc c.as_slice.result.now class c.header_of.result
    c.bounds_at-bounds.result.now
    c.has_default-is_there.result (c.as_slice.ensures ∙ c.tree.ensures.exact) c.requires.class
    (c.header_of.ensures.exact ∙ ap (λ (d : Doc). header_index d class) c.requires.names)
    c.bounds_at-bounds.ensures.exact c.has_default-is_there.ensures.exact in
    record {
      exact = on_ok c.keep_statements.result
          (goes_on found class old mid new (default_kind doc class)
          (flat_map (kinds_at doc class) (statements doc))
          (kinds_of doc class) refl
          (subst (λ (ks : List NodeKind). mid ≡ old ++ kept found class ks) kind
          c.in_ok-keep_default.ensures.exact))
          c.keep_statements.ensures.exact;
    }
