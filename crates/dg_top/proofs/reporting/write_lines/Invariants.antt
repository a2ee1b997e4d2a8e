use Rattle.std.proofs.Common.{◌≡◌, ◌≤◌, ◌-◌, length}
use Rattle.std.specs.Io.KnownBytes.{Appends}
use Rattle.dg_top.specs.Progress.{first_lines, AreAsked}
use Rattle.dg_top.proofs.reporting.write_lines.Given as goal

-- the lines of the replies up to an ask are written
abbrev pub invariant-loop-start : goal.invariant-loop-start
invariant-loop-start g l = record {
  written : Appends (g.K.Sink.written l.fn.sink) (g.K.Sink.written l.sink)
      (first_lines g.D.RunsDoc.document l.start).text;
  asked : AreAsked g.D.RunsDoc.document l.start l.tree.asked;
  appeared : l.numbers ≡ (first_lines g.D.RunsDoc.document l.start).seen;
  kept : g.K.Sink.faults l.sink ≡ g.K.Sink.faults l.fn.sink;
  within : l.start ≤ length l.asks;
}

abbrev pub decreases-loop-start : goal.decreases-loop-start
decreases-loop-start g l = length l.asks - l.start
