use Rattle.std.proofs.Common.{◌≡◌, ◌++◌, take, flat_map}
use Rattle.dg_rules.specs.Requests.{bad_scope_at}
use Rattle.dg_rules.proofs.requests.incompatibly_scoped_bindings.Given as goal

abbrev pub invariant-loop-d : goal.invariant-loop-d
invariant-loop-d l =
    l.broken.items
    ≡ l.fn.broken.items ++ flat_map (bad_scope_at l.sites l.node) (take l.d-index l.needed)
