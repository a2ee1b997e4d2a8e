use Rattle.std.proofs.lemmas.Result.{IfOk-weaker}
use Rattle.dg_eval.specs.Report.{report}
use Rattle.dg_top.specs.Answers.{AnswersDoc}
use Rattle.dg_top.specs.Output.{IsAnswer}
use Rattle.dg_top.specs.declared.command.Command.TheVariants.{Run}
use Rattle.dg_top.proofs.AnswerLemmas.{answer_reported, answer_bad}
use Rattle.dg_top.proofs.EndLemmas.{ends_as, made_as, lacks_memory}
use Rattle.dg_top.proofs.running.run_bytes.Goals as goal

pub returns-in-Ok-clause-exact : goal.returns-in-Ok-clause-exact
returns-in-Ok-clause-exact g c =
    let doc = c.in-Ok.doc in
    ends_as (AnswersDoc doc (report doc)) (IsAnswer Run c.args.bytes.now) (g.K.Sink.written
    c.args.sink.now) (g.K.Sink.written c.run_doc.new.sink) (g.K.Sink.faults c.args.sink.now)
    (g.K.Sink.faults c.run_doc.new.sink) c.run_doc.result
    (answer_reported c.args.bytes.now doc c.requires c.in-Ok.ensures.exact) c.run_doc.ensures.exact

pub returns-in-Err-BadLine-clause-exact : goal.returns-in-Err-BadLine-clause-exact
returns-in-Err-BadLine-clause-exact g c =
    let first = rw c.in-Err-BadLine.field-0-is at c.in-Err-BadLine.ensures.cause in
    made_as (IsAnswer Run c.args.bytes.now) c.bad_line.result (g.K.Sink.written c.args.sink.now)
    (g.K.Sink.written c.write_answer.new.sink) (g.K.Sink.faults c.args.sink.now)
    (g.K.Sink.faults c.write_answer.new.sink) c.write_answer.result
    (IfOk-weaker c.bad_line.result _ _ (λ a h. answer_bad Run c.args.bytes.now c.in-Err-BadLine.line
    a.status a.text.items c.requires first h.0 h.1) c.bad_line.ensures.exact)
    c.write_answer.ensures.exact

pub returns-in-Err-NoMemory-clause-exact : goal.returns-in-Err-NoMemory-clause-exact
returns-in-Err-NoMemory-clause-exact g c =
    lacks_memory (IsAnswer Run c.args.bytes.now) (g.K.Sink.written c.args.sink.now) (g.K.Sink.faults
    c.args.sink.now)
