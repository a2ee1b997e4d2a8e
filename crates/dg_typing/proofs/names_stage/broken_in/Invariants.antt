use Rattle.std.proofs.Common.{take}
use Rattle.dg_typing.proofs.NamesLoop.{BreaksOn}
use Rattle.dg_typing.proofs.names_stage.broken_in.Given as goal

abbrev pub invariant-loop-s : goal.invariant-loop-s
invariant-loop-s l = BreaksOn l.names (take l.s-index l.s-items) l.members l.broken.items
