use Rattle.std.proofs.Common.{◌≡◌, ◌++◌, drop}
use Rattle.dg_tree.proofs.world.copied.Given as goal

abbrev pub invariant-loop-list : goal.invariant-loop-list
invariant-loop-list l = l.lists ++ drop l.list-index l.links ≡ l.links
