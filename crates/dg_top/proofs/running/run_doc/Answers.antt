use Rattle.std.proofs.lemmas.Result.{IfOk-weaker}
use Rattle.dg_eval.specs.Report.{report}
use Rattle.dg_top.specs.Answers.{AnswersDoc}
use Rattle.dg_top.proofs.AnswerLemmas.{answer_refusal}
use Rattle.dg_top.proofs.EndLemmas.{made_as, lacks_memory}
use Rattle.dg_top.proofs.running.run_doc.Goals as goal

pub returns-in_default-clause-exact : goal.returns-in_default-clause-exact
returns-in_default-clause-exact g c =
    lacks_memory (AnswersDoc c.args.d.now (report c.args.d.now)) (g.K.Sink.written c.args.sink.now)
    (g.K.Sink.faults c.args.sink.now)

pub returns-then-is_found-clause-exact : goal.returns-then-is_found-clause-exact
returns-then-is_found-clause-exact g c =
    let doc = c.args.d.now in
    let broken = c.in-Ok.broken.items in
    let some = rw c.as_slice.ensures.value at (c.is_found.ensures.found c.if-is_found.true) in
    let lines = rw c.as_slice-then-is_found.ensures.value at c.refusal.ensures.exact in
    made_as (AnswersDoc doc (report doc)) c.refusal.result (g.K.Sink.written c.args.sink.now)
    (g.K.Sink.written c.write_answer.new.sink) (g.K.Sink.faults c.args.sink.now)
    (g.K.Sink.faults c.write_answer.new.sink) c.write_answer.result
    (IfOk-weaker c.refusal.result _ _ (λ a h. answer_refusal doc (report doc) broken a.status
    a.text.items c.in-Ok.ensures.exact some h.0 h.1) lines)
    c.write_answer.ensures.exact
