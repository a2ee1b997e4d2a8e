use Rattle.std.proofs.Common.{◌≡◌, ◌++◌, take, flat_map}
use Rattle.dg_rules.specs.Requests.{production_at}
use Rattle.dg_rules.proofs.producing.productions_among.Given as goal

abbrev pub invariant-loop-place : goal.invariant-loop-place
invariant-loop-place l =
    l.broken.items
    ≡ l.fn.broken.items ++ flat_map (production_at l.sites l.node) (take l.place l.needed)
