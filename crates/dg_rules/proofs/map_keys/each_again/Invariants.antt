use Rattle.std.proofs.Common.{◌≡◌, ◌++◌, take, flat_map}
use Rattle.dg_rules.specs.MapKeys.{where_again}
use Rattle.dg_rules.proofs.map_keys.each_again.Given as goal

abbrev pub invariant-loop-key : goal.invariant-loop-key
invariant-loop-key l =
    l.broken.items
    ≡ l.fn.broken.items ++ flat_map (where_again l.sites l.node l.again.keys)
    (take l.key-index l.once)
