use Rattle.std.proofs.Common.{◌≡◌, take, flat_map}
use Rattle.dg_compdep.specs.Ties.{links_by}
use Rattle.dg_compdep.proofs.linking.all_links.Given as goal

abbrev pub invariant-loop-s : goal.invariant-loop-s
invariant-loop-s l = l.lists.items ≡ flat_map (links_by l.tied) (take l.s-index l.s-items)
