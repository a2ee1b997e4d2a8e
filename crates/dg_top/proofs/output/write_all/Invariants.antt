use Rattle.std.proofs.Common.{◌≡◌, ◌-◌, ◌≤◌, length, take}
use Rattle.std.specs.Io.KnownBytes.{Appends}
use Rattle.dg_top.proofs.output.write_all.Given as goal

-- the front that was written, and no fault
abbrev pub invariant-loop-start : goal.invariant-loop-start
invariant-loop-start g l = record {
  front : Appends (g.K.Sink.written l.fn.sink) (g.K.Sink.written l.sink) (take l.start l.text);
  no_fault : g.K.Sink.faults l.sink ≡ g.K.Sink.faults l.fn.sink;
  within : l.start ≤ length l.text;
}

abbrev pub decreases-loop-start : goal.decreases-loop-start
decreases-loop-start g l = length l.text - l.start
