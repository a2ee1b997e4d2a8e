use Rattle.dg_eval.specs.Report.{report}
use Rattle.dg_top.specs.Answers.{AnswersDoc, to_accepted}
use Rattle.dg_top.proofs.EndLemmas.{streamed, stream_failed, stream_lacked}
use Rattle.dg_top.proofs.running.run_accepted.Goals as goal

pub returns-in-Ok-clause-exact : goal.returns-in-Ok-clause-exact
returns-in-Ok-clause-exact g c =
    let text = report c.args.d.now in
    streamed (AnswersDoc c.args.d.now text) text (to_accepted c.requires.accepted) (g.K.Sink.written
    c.args.sink.now) (g.K.Sink.written c.write_report.new.sink) (g.K.Sink.faults
    c.args.sink.now) (g.K.Sink.faults c.write_report.new.sink) c.in-Ok.ensures.exact
    c.in-Ok.ensures.kept

pub returns-in-Err-Failed-clause-exact : goal.returns-in-Err-Failed-clause-exact
returns-in-Err-Failed-clause-exact g c =
    let text = report c.args.d.now in
    let cause = rw c.in-Err-Failed.field-0-is at c.in-Err-Failed.ensures.cause in
    stream_failed (AnswersDoc c.args.d.now text) text (to_accepted c.requires.accepted)
    (g.K.Sink.written c.args.sink.now) (g.K.Sink.written c.write_report.new.sink)
    (g.K.Sink.faults c.args.sink.now) (g.K.Sink.faults c.write_report.new.sink) cause

pub returns-in-Err-NoMemory-clause-exact : goal.returns-in-Err-NoMemory-clause-exact
returns-in-Err-NoMemory-clause-exact g c =
    let text = report c.args.d.now in
    let cause = rw c.in-Err-NoMemory.field-0-is at c.in-Err-NoMemory.ensures.cause in
    stream_lacked (AnswersDoc c.args.d.now text) text (to_accepted c.requires.accepted)
    (g.K.Sink.written c.args.sink.now) (g.K.Sink.written c.write_report.new.sink)
    (g.K.Sink.faults c.args.sink.now) (g.K.Sink.faults c.write_report.new.sink) cause
