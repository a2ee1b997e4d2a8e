use Rattle.std.proofs.Common.{refl}
use Rattle.dg_eval.specs.Report.{report}
use Rattle.dg_top.proofs.EndLemmas.{none_of, stops_lacking}
use Rattle.dg_top.proofs.LineLemmas.{some_report}
use Rattle.dg_top.proofs.reporting.write_report.Goals as goal

pub returns-in_err-prepared-clause-cause : goal.returns-in_err-prepared-clause-cause
returns-in_err-prepared-clause-cause g c =
    let text = report c.args.d.now in
    let old = g.K.Sink.written c.args.sink.now in
    let faults = g.K.Sink.faults c.args.sink.now in
    stops_lacking text old old faults faults c.from_residual.result (none_of text old (some_report
    c.args.d.now)) refl c.from_residual.ensures.1
