use Rattle.dg_top.specs.Ends.{IsMade}
use Rattle.dg_top.proofs.EndLemmas.{made_written, made_failed, lacks_memory}
use Rattle.dg_top.proofs.output.write_answer.Goals as goal

pub returns-in-Ok-write_all-clause-exact : goal.returns-in-Ok-write_all-clause-exact
returns-in-Ok-write_all-clause-exact g c =
    let appended = rw c.as_slice.ensures.value at c.in-Ok-write_all.ensures.exact in
    made_written c.args.made c.in-Ok.answer c.in-Ok.is (g.K.Sink.written c.args.sink.now)
    (g.K.Sink.written c.write_all.new.sink) (g.K.Sink.faults c.args.sink.now) (g.K.Sink.faults
    c.write_all.new.sink) appended c.in-Ok-write_all.ensures.kept

pub returns-in-Ok-clause-exact : goal.returns-in-Ok-clause-exact
returns-in-Ok-clause-exact g c =
    let front = rw c.as_slice.ensures.value at c.in-Err-write_all.ensures.front in
    made_failed c.args.made c.in-Ok.answer c.in-Ok.is (g.K.Sink.written c.args.sink.now)
    (g.K.Sink.written c.write_all.new.sink) (g.K.Sink.faults c.args.sink.now) (g.K.Sink.faults
    c.write_all.new.sink) front.0 front.1 front.2 c.in-Err-write_all.ensures.cause

pub returns-clause-exact : goal.returns-clause-exact
returns-clause-exact g c =
    lacks_memory (IsMade c.args.made) (g.K.Sink.written c.args.sink.now) (g.K.Sink.faults
    c.args.sink.now)
