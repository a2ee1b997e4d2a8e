use Rattle.std.proofs.Common.{◌≡◌, ◌++◌, take, flat_map, codes}
use Rattle.dg_decl.specs.Stages.Bindings.{site_of_owned}
use Rattle.dg_rules.proofs.requests.push_sites.Given as goal

abbrev pub invariant-loop-owned : goal.invariant-loop-owned
invariant-loop-owned l =
    l.text.items
    ≡ l.initial.text.items ++ flat_map (λ o. codes ", " ++ site_of_owned l.sites o)
    (take l.owned-index l.rest)
