use Rattle.std.proofs.Common.{◌≡◌, take}
use Rattle.dg_top.specs.Output.{lines_of}
use Rattle.dg_top.proofs.checking.lines_of.Given as goal

-- the lines of the violations so far
abbrev pub invariant-loop-violation : goal.invariant-loop-violation
invariant-loop-violation l = l.text.items ≡ lines_of (take l.violation-index l.broken)
