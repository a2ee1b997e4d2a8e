use Rattle.std.proofs.lemmas.Result.{IfOk-weaker}
use Rattle.dg_top.specs.declared.command.Command.TheVariants.{Print}
use Rattle.dg_top.proofs.AnswerLemmas.{answer_printed, answer_bad}
use Rattle.dg_top.proofs.printing.answer_print.Goals as goal

pub returns-in_ok-print_doc-in-Ok : goal.returns-in_ok-print_doc-in-Ok
returns-in_ok-print_doc-in-Ok c =
    record {
      exact = answer_printed c.args.bytes.now c.in-Ok.doc c.in_ok-print_doc-in-Ok.field-0.items c.requires c.in-Ok.ensures.exact c.in_ok-print_doc-in-Ok.ensures.exact;
    }

pub returns-in-Err-BadLine : goal.returns-in-Err-BadLine
returns-in-Err-BadLine c =
    record {
      exact = IfOk-weaker c.bad_line.result _ _ (λ a h. answer_bad Print c.args.bytes.now c.in-Err-BadLine.line a.status a.text.items c.requires (rw c.in-Err-BadLine.field-0-is at c.in-Err-BadLine.ensures.cause) h.0 h.1) c.bad_line.ensures.exact;
    }
