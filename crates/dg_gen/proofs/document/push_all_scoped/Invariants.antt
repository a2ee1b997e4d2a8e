use Rattle.std.proofs.Common.{map}
use Rattle.std.specs.List.{range_with_len}
use Rattle.dg_gen.specs.Document.{scoped_line, Adds}
use Rattle.dg_gen.proofs.document.push_all_scoped.Given as goal

abbrev pub invariant-loop-before : goal.invariant-loop-before
invariant-loop-before l = Adds l.fn.out.items (map scoped_line (range_with_len 1 l.before)) l.out.items
