use Rattle.std.proofs.Common.{◌≡◌, map}
use Rattle.std.specs.List.{range_with_len}
use Rattle.dg_resolve.specs.Chains.{root_first_in}
use Rattle.dg_resolve.proofs.chains.chains.Given as goal

abbrev pub invariant-loop-class : goal.invariant-loop-class
invariant-loop-class l =
    map (λ found. found.items) l.made.items ≡ map (root_first_in l.classes) (range_with_len 0 l.class)
