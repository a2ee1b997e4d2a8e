use Rattle.std.proofs.Common.{◌+◌, [], ◌∷◌, take, sym}
use Rattle.dg_decl.specs.declared.component.Exposed.{Exposed}
use Rattle.dg_decl.specs.declared.binding.BindRef.TheVariants as binding
use Rattle.dg_decl.specs.declared.graph.NodeKind.TheVariants as node
use Rattle.dg_graph.specs.Kept.{exposed_kinds}
use Rattle.dg_graph.proofs.GrowthLemmas.{map_one_more}
use Rattle.dg_graph.proofs.KeptLemmas.{adds_none, goes_on}
use Rattle.dg_graph.proofs.order.keep_exposed.Goals as goal

pub loop-entry-init : goal.loop-entry-init
loop-entry-init c = sym (adds_none c.args.found.now.keys c.args.class c.args.nodes.now.items)

pub loop-entry-preserved : goal.loop-entry-preserved
loop-entry-preserved c =
    let xs = c.args.exposed.now in
    let i = c.loop-entry.entry-index in
    let x = c.entry-item.result in
    goes_on c.args.found.now.keys c.args.class c.args.nodes.now.items c.loop-entry.nodes.items
    c.keep.new.nodes.items (exposed_kinds (take i xs))
    (node.Bound (binding.Exposed x.dep x.entry) ∷ []) (exposed_kinds (take (i + 1) xs))
    (map_one_more (λ (x : Exposed). node.Bound (binding.Exposed x.dep x.entry)) xs i x
    c.loop-entry-test.true c.entry-item.is)
    c.loop-entry.invariant c.in_ok-keep.ensures.exact
