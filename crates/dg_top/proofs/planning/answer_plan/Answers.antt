use Rattle.std.proofs.lemmas.Result.{IfOk-weaker}
use Rattle.dg_top.specs.declared.command.Command.TheVariants.{Plan}
use Rattle.dg_top.proofs.AnswerLemmas.{answer_planned, answer_bad}
use Rattle.dg_top.proofs.planning.answer_plan.Goals as goal

pub returns-in-Ok : goal.returns-in-Ok
returns-in-Ok c =
    record {
      exact = IfOk-weaker c.answer_doc.result _ _ (λ a h. answer_planned c.args.bytes.now c.in-Ok.doc a.status a.text.items c.requires c.in-Ok.ensures.exact h) c.answer_doc.ensures.exact;
    }

pub returns-in-Err-BadLine : goal.returns-in-Err-BadLine
returns-in-Err-BadLine c =
    record {
      exact = IfOk-weaker c.bad_line.result _ _ (λ a h. answer_bad Plan c.args.bytes.now c.in-Err-BadLine.line a.status a.text.items c.requires (rw c.in-Err-BadLine.field-0-is at c.in-Err-BadLine.ensures.cause) h.0 h.1) c.bad_line.ensures.exact;
    }
