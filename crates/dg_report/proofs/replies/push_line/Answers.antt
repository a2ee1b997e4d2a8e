use Rattle.dg_report.proofs.ReplyLemmas.{line_made}
use Rattle.dg_report.proofs.replies.push_line.Goals as goal

pub returns-clause-exact : goal.returns-clause-exact
returns-clause-exact g c =
    line_made c.args.names.now c.args.number c.args.r.now c.args.out.now c.push_decimal.new.self
    c.push.new.self c.push_reply.new.out c.push-2.new.self c.in_ok-push_decimal.ensures.exact
    c.in_ok-push.ensures.exact c.in_ok-push_reply.ensures.exact c.in_ok-push-2.ensures.exact
