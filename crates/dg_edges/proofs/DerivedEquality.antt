-- The derived test of equality of nodes tells whether two nodes are one.
use Rattle.std.proofs.Common.{◌≡◌, true, refl, sym, ap, ◌∙◌}
use Rattle.std.specs.Cmp.{first_so, second_so}
use Rattle.std.proofs.lemmas.Bool.{true≢false, eqb-true}
use Rattle.dg_types.specs.Equality.{same_key}
use Rattle.dg_types.proofs.EqualityLemmas.{key_decides}
use Rattle.dg_decl.specs.contracts.binding.BindRefPartialEq.TheImpl as of_bindings
use Rattle.dg_decl.specs.contracts.graph.NodeKindPartialEq.TheImpl as of_kinds
use Rattle.dg_decl.specs.contracts.graph.NodePartialEq.TheImpl as of_nodes
use Rattle.dg_decl.specs.contracts.graph.NodeEq.TheImpl.Laws as node_laws
use Rattle.dg_decl.specs.declared.binding.BindRef.{BindRef}
use Rattle.dg_decl.specs.declared.binding.BindRef.TheVariants as binding
use Rattle.dg_decl.specs.declared.graph.Node.{Node}
use Rattle.dg_decl.specs.declared.graph.NodeKind.{NodeKind}
use Rattle.dg_decl.specs.declared.graph.NodeKind.TheVariants as node
use Rattle.dg_decl.proofs.NodeWalks.{Decides}
use Rattle.dg_edges.specs.Numbered.{same}

binding_same : (a b : BindRef) → of_bindings.ghosts.eq a b ≡ true → a ≡ b
binding_same (binding.Member i) (binding.Member j) h = ap binding.Member (eqb-true i j h)
binding_same (binding.ClassItem i) (binding.ClassItem j) h = ap binding.ClassItem (eqb-true i j h)
binding_same (binding.Arg i) (binding.Arg j) h = ap binding.Arg (eqb-true i j h)
binding_same binding.Default binding.Default h = refl
binding_same (binding.Exposed d i) (binding.Exposed e j) h =
    let p = eqb-true d e (first_so _ _ h) in
    let q = eqb-true i j (second_so _ _ h) in
    λ k. binding.Exposed (p k) (q k)
binding_same a b h = absurd (true≢false (sym h))

kind_same : (a b : NodeKind) → of_kinds.ghosts.eq a b ≡ true → a ≡ b
unfolding same_key
kind_same (node.Bound a) (node.Bound b) h = ap node.Bound (binding_same a b h)
kind_same (node.Multi k) (node.Multi l) h = ap node.Multi ((key_decides k l).0 h)
kind_same (node.Opt k) (node.Opt l) h = ap node.Opt ((key_decides k l).0 h)
kind_same (node.EntryOf i) (node.EntryOf j) h = ap node.EntryOf (eqb-true i j h)
kind_same a b h = absurd (true≢false (sym h))

node_same : (a b : Node) → of_nodes.ghosts.eq a b ≡ true → a ≡ b
node_same a b h =
    let c = eqb-true a.class b.class (first_so _ _ h) in
    let k = kind_same a.kind b.kind (second_so _ _ h) in
    λ i. record { class = c i; kind = k i }

pub same_decides : Decides same
unfolding same
same_decides a b = (
  node_same a b,
  λ e. ap (of_nodes.ghosts.eq a) (sym e) ∙ node_laws.laws-law.refl a,
)
