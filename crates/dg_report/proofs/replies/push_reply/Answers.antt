use Rattle.std.proofs.Common.{◌≡◌, OnOk, sym, ap, subst, ◌∙◌}
use Rattle.dg_value.specs.declared.value.Reply.{Reply}
use Rattle.dg_eval.specs.Report.{reply_text}
use Rattle.dg_report.specs.Output.{Output, followed}
use Rattle.dg_report.proofs.ReplyLemmas.{reply-Absent}
use Rattle.dg_report.proofs.replies.push_reply.Goals as goal

pub returns-in-Absent-clause-exact : goal.returns-in-Absent-clause-exact
returns-in-Absent-clause-exact g c =
    subst (λ (x : Output). OnOk c.push.result (c.push.new.self ≡ x))
    (sym (reply-Absent c.args.names.now c.args.out.now)
    ∙ ap (λ (r : Reply). followed c.args.out.now (reply_text c.args.names.now r))
    (sym c.in-Absent.is)) c.push.ensures.exact
