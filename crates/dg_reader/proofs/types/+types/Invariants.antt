use Rattle.std.proofs.Common.{◌+◌, ◌*◌}
use Rattle.dg_reader.proofs.types.+types.Given as goal

abbrev pub decreases-constructed : goal.decreases-constructed
decreases-constructed l = 3 * l.depth + 1

abbrev pub decreases-type_over : goal.decreases-type_over
decreases-type_over l = 3 * l.depth + 2

abbrev pub decreases-type_within : goal.decreases-type_within
decreases-type_within l = 3 * l.depth
