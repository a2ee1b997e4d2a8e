use Rattle.std.proofs.Common.{ap, ◌∙◌}
use Rattle.dg_lex.specs.Bytes.{Bytes}
use Rattle.dg_lex.specs.Lexemes.{quoted}
use Rattle.dg_report.specs.Output.{with_text}
use Rattle.dg_report.proofs.ReplyLemmas.{failure_line}
use Rattle.dg_report.proofs.replies.push_failure.Goals as goal

pub returns-clause-exact : goal.returns-clause-exact
returns-clause-exact c =
    failure_line c.args.names.now c.args.p.now c.args.f.now c.args.out.now c.push.new.self
    c.push_origin.new.out c.push-2.new.self c.push_quoted.new.self c.requires.plan
    c.in_ok-push.ensures.exact c.in_ok-push_origin.ensures.exact c.in_ok-push-2.ensures.exact
    (c.in_ok-push_quoted.ensures.exact
    ∙ ap (λ (t : Bytes). with_text c.push-2.new.self (quoted t))
    (c.as_slice.ensures.exact ∙ c.get.ensures.exact))
