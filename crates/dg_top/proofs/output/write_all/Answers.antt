use Rattle.std.proofs.Common.{take, drop, arith, rules}
use Rattle.std.proofs.lemmas.List.{take_rest, length-drop}
use Rattle.std.proofs.Math.Seq.{take-add}
use Rattle.dg_top.proofs.StreamLemmas.{appends_then}
use Rattle.dg_top.proofs.output.write_all.Goals as goal

pub loop-start-preserved : goal.loop-start-preserved
loop-start-preserved g c =
    let text = c.args.text.now in
    let start = c.loop-start.start in
    let written = g.K.Sink.written in
    let more = rw take_rest at c.in_ok-start.ensures.exact in
    let fits = rw take_rest at c.in_ok-start.ensures.bound.0 in
    record {
      front = rw take-add (appends_then (written c.args.sink.now) (written c.loop-start.sink) (written c.write.new.self) (take start text) (take c.in_ok-start.field-0 (drop start text)) c.loop-start.invariant.front more);
      no_fault = search rules;
      within = omega (arith, fits, length-drop start text, c.loop-start.invariant.within);
    }
