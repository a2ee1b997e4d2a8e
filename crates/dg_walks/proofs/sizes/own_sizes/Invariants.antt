use Rattle.std.proofs.Common.{◌≡◌, map, min, take}
use Rattle.dg_decl.specs.Sizes.{size}
use Rattle.dg_walks.proofs.sizes.own_sizes.Given as goal

abbrev pub invariant-loop-node : goal.invariant-loop-node
invariant-loop-node l =
    l.own.items ≡ map (λ n. min (size l.d n) l.most) (take l.node-index l.nodes)
