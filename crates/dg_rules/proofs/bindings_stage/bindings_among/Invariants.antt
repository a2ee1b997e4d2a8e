use Rattle.std.proofs.Common.{◌≡◌, ◌++◌, take, flat_map}
use Rattle.dg_decl.specs.Stages.Bindings.{bindings_at}
use Rattle.dg_rules.proofs.bindings_stage.bindings_among.Given as goal

abbrev pub invariant-loop-number : goal.invariant-loop-number
invariant-loop-number l =
    l.broken.items
    ≡ l.fn.broken.items ++ flat_map (bindings_at l.sites) (take l.number l.nodes)
