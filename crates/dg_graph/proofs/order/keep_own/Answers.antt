use Rattle.std.proofs.Common.{◌≡◌, ◌++◌, List, map, subst}
use Rattle.std.specs.Prelude.{OnOk}
use Rattle.dg_decl.specs.declared.binding.BindRef.{BindRef}
use Rattle.dg_decl.specs.declared.graph.NodeKind.TheVariants as node
use Rattle.dg_graph.specs.Kept.{kept}
use Rattle.dg_graph.proofs.order.keep_own.Goals as goal

pub returns : goal.returns
returns c = record {
  exact = subst
      (λ (bs : List BindRef). OnOk c.keep_binding.result (c.keep_binding.new.nodes.items
      ≡ c.args.nodes.now.items ++ kept c.args.found.now.keys c.args.class (map node.Bound bs)))
      c.own_binding.ensures.exact c.keep_binding.ensures.exact;
}
