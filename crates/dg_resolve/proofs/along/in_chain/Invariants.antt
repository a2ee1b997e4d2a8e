use Rattle.std.proofs.Common.{◌≡◌, take}
use Rattle.dg_resolve.specs.Known.{in_chain}
use Rattle.dg_resolve.proofs.along.in_chain.Given as goal

abbrev pub invariant-loop-class : goal.invariant-loop-class
invariant-loop-class l = l.found.items ≡ in_chain l.tables l.key (take l.class-index l.chain)
