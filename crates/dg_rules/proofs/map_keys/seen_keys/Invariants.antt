use Rattle.std.proofs.Common.{◌≡◌, [], take, fold}
use Rattle.dg_rules.specs.MapKeys.{seen_of, seen_some, key_of_found}
use Rattle.dg_rules.proofs.map_keys.seen_keys.Given as goal

abbrev pub invariant-loop-d : goal.invariant-loop-d
invariant-loop-d l =
    seen_of l.seen.once.keys l.seen.again.keys
    ≡ fold (λ s d. seen_some s (key_of_found l.sites d.found)) (seen_of [] [])
    (take l.d-index l.needed)
