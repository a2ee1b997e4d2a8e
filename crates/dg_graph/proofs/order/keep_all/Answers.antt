use Rattle.std.proofs.Common.{ℕ, ◌≡◌, ◌++◌, [], ◌∷◌, option_copied, subst, ap}
use Rattle.dg_decl.specs.Document.{Statement}
use Rattle.dg_decl.specs.declared.graph.NodeKind.TheVariants as node
use Rattle.dg_graph.specs.Kept.{kept, own_kinds, bound_kinds, exposed_kinds, groups_of_option}
use Rattle.dg_graph.proofs.KeptLemmas.{on_ok, five_more}
use Rattle.dg_graph.proofs.order.keep_all.Goals as goal

pub returns : goal.returns
returns c =
    let doc = c.args.sources.lookups.now in
    let found = c.args.sources.found.now.keys in
    let class = c.args.class in
    let seen = c.args.seen in
    let s = c.args.statement.now in
    let b = option_copied seen.bind in
    let n4 = c.keep.new.nodes.items in
    let n5 = c.keep_groups_of.new.nodes.items in
    let at : c.statement.inside.index ≡ s.index = ap
    (λ (x : Statement). x.index) c.statement.view_is in
    record {
      exact = on_ok c.keep_groups_of.result
          (λ (last : n5 ≡ n4 ++ kept found class (groups_of_option doc class
          c.statement.inside.index b)).
          five_more found class c.args.nodes.now.items c.keep_own.new.nodes.items
          c.keep_binding.new.nodes.items c.keep_exposed.new.nodes.items n4 n5
          (own_kinds s) (bound_kinds seen.argument) (exposed_kinds seen.exposed.now)
          (node.EntryOf s.index ∷ []) (groups_of_option doc class s.index b)
          c.in_ok-keep_own.ensures.exact c.in_ok-keep_binding.ensures.exact
          c.in_ok-keep_exposed.ensures.exact
          (subst (λ (i : ℕ). n4 ≡ c.keep_exposed.new.nodes.items ++ kept found class
          (node.EntryOf i ∷ [])) at c.in_ok-keep.ensures.exact)
          (subst (λ (i : ℕ). n5 ≡ n4 ++ kept found class (groups_of_option doc class i b)) at last))
          c.keep_groups_of.ensures.exact;
    }
