use Rattle.std.proofs.Common.{map}
use Rattle.std.specs.List.{range_with_len}
use Rattle.dg_gen.specs.Document.{open_line, Adds}
use Rattle.dg_gen.proofs.document.push_opens.Given as goal

abbrev pub invariant-loop-instance : goal.invariant-loop-instance
invariant-loop-instance l = Adds l.fn.out.items (map open_line (range_with_len 0 l.instance)) l.out.items
