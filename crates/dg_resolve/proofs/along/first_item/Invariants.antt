use Rattle.std.proofs.Common.{◌≡◌, drop}
use Rattle.dg_resolve.specs.Known.{in_chain}
use Rattle.dg_resolve.proofs.along.first_item.Given as goal

abbrev pub invariant-loop-class : goal.invariant-loop-class
invariant-loop-class l =
    in_chain l.tables l.key (drop l.class-index l.chain) ≡ in_chain l.tables l.key l.chain
