use Rattle.std.proofs.Common.{◌+◌, ◌*◌}
use Rattle.dg_reader.proofs.bodies.+trees.Given as goal

abbrev pub decreases-tree : goal.decreases-tree
decreases-tree l = 3 * l.depth

abbrev pub decreases-tree_choice : goal.decreases-tree_choice
decreases-tree_choice l = 3 * l.depth + 1

abbrev pub decreases-tree_over : goal.decreases-tree_over
decreases-tree_over l = 3 * l.depth + 2
