use Rattle.std.proofs.Common.{◌≡◌, ◌&&◌, [], ◌∷◌, ◌++◌, if◌then◌else◌, subst}
use Rattle.dg_decl.specs.declared.graph.NodeKind.{NodeKind}
use Rattle.dg_decl.specs.Graph.{node_of}
use Rattle.dg_graph.specs.Kept.{is_among, stands_at}
use Rattle.dg_graph.proofs.KeptLemmas.{on_ok, keeps_group, no_group}
use Rattle.dg_graph.proofs.groups.keep_group.Goals as goal

pub returns-in_ok-kind : goal.returns-in_ok-kind
returns-in_ok-kind c =
    let doc = c.args.sources.lookups.now in
    let found = c.args.sources.found.now.keys in
    let class = c.args.class in
    let index = c.args.index in
    let b = c.args.bind.now in
    let old = c.args.nodes.now.items in
    let new = c.push_if.new.nodes.items in
    let listed = c.is_listed-listed.result in
    record {
      exact = on_ok c.push_if.result
          (λ (added : new ≡ old ++ (if listed then node_of class c.in_ok-kind.kind ∷ [] else [])).
          keeps_group doc found class index b.kind b.key c.args.inner c.has_group.result listed old
          new
          c.has_group.ensures.exact c.if-has_group.true
          (subst (λ (k : NodeKind). listed ≡ (is_among found
          (node_of class k) && stands_at doc class index k)) c.in_ok-kind.ensures.exact
          c.is_listed-listed.ensures.exact)
          (subst (λ (k : NodeKind). new ≡ old ++ (if listed then node_of class k ∷ [] else []))
          c.in_ok-kind.ensures.exact added))
          c.push_if.ensures.exact;
    }

pub returns-else-has_group : goal.returns-else-has_group
returns-else-has_group c =
    let b = c.args.bind.now in
    record {
      exact = no_group c.args.sources.lookups.now c.args.sources.found.now.keys c.args.class
          c.args.index
          b.kind b.key c.args.inner c.has_group.result c.args.nodes.now.items
          c.has_group.ensures.exact
          c.if-has_group.false;
    }
