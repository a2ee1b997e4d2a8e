use Rattle.std.proofs.Common.{◌+◌, ◌*◌, max}
use Rattle.dg_slots.proofs.body.NTree.TheLaws.{the_size}
use Rattle.dg_bodies.proofs.trees.+trees.Given as goal

abbrev pub decreases-tree : goal.decreases-tree
decreases-tree g l = 2 * the_size l.t.now

abbrev pub decreases-chosen : goal.decreases-chosen
decreases-chosen g l = 2 * max (the_size l.yes.now) (the_size l.no.now) + 1
