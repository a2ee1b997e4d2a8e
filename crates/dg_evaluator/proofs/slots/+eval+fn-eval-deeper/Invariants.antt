use Rattle.std.proofs.Common.{◌*◌, ◌-◌}
use Rattle.dg_evaluator.proofs.slots.+eval+fn-eval-deeper.Given as goal

abbrev pub decreases-eval : goal.decreases-eval
decreases-eval g l = 2 * l.depth

abbrev pub decreases-deeper : goal.decreases-deeper
decreases-deeper g l = 2 * l.depth - 1
