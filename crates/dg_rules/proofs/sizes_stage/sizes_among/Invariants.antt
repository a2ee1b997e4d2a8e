use Rattle.std.proofs.Common.{◌≡◌, ◌++◌, take, flat_map}
use Rattle.dg_decl.specs.Stages.Sizes.{too_deep, too_heavy}
use Rattle.dg_rules.proofs.sizes_stage.sizes_among.Given as goal

abbrev pub invariant-loop-number : goal.invariant-loop-number
invariant-loop-number l =
    l.broken.items
    ≡ l.fn.broken.items ++ flat_map (λ n. too_deep l.sites n ++ too_heavy l.sites n)
    (take l.number l.nodes)
