use Rattle.std.proofs.Common.{◌≡◌, take, flat_map}
use Rattle.dg_decl.specs.Stages.Links.{links_at}
use Rattle.dg_compdep.proofs.link_rules.broken_links.Given as goal

abbrev pub invariant-loop-s : goal.invariant-loop-s
invariant-loop-s l = l.broken.items ≡ flat_map (links_at l.tied) (take l.s-index l.s-items)
