use Rattle.std.proofs.Common.{◌<◌, ◌^◌, List, length, refl, sym, ap, subst, ◌∙◌}
use Rattle.dg_eval.specs.Report.{report}
use Rattle.dg_slots.specs.declared.session.Ask.{Ask}
use Rattle.dg_slots.specs.declared.session.Session.{Session}
use Rattle.dg_slots.specs.Sessions.{session_of}
use Rattle.dg_top.proofs.EndLemmas.{none_of, stops_lacking}
use Rattle.dg_top.proofs.LineLemmas.{asks_are_few, some_report}
use Rattle.dg_top.proofs.reporting.write_named.Goals as goal

pub write_replies-requires-clause-asks : goal.write_replies-requires-clause-asks
unfolding session_of
write_replies-requires-clause-asks g c =
    c.as_slice-asks.ensures ∙ ap (λ (s : Session). s.asks) c.requires.prepared.session

pub write_replies-requires-clause-few : goal.write_replies-requires-clause-few
unfolding session_of
write_replies-requires-clause-few g c =
    subst (λ (asks : List Ask). length asks < 2 ^ 31)
    (sym (c.as_slice-asks.ensures ∙ ap (λ (s : Session). s.asks) c.requires.prepared.session))
    (asks_are_few g.D.RunsDoc.document c.requires.bounded)

pub returns-in_err-declared-clause-cause : goal.returns-in_err-declared-clause-cause
returns-in_err-declared-clause-cause g c =
    let text = report g.D.RunsDoc.document in
    let old = g.K.Sink.written c.args.sink.now in
    let faults = g.K.Sink.faults c.args.sink.now in
    stops_lacking text old old faults faults c.from_residual.result (none_of text old (some_report
    g.D.RunsDoc.document)) refl c.from_residual.ensures.1

pub returns-in_err-names-clause-cause : goal.returns-in_err-names-clause-cause
returns-in_err-names-clause-cause g c =
    let text = report g.D.RunsDoc.document in
    let old = g.K.Sink.written c.args.sink.now in
    let faults = g.K.Sink.faults c.args.sink.now in
    stops_lacking text old old faults faults c.from_residual-in_err-names.result (none_of text old
    (some_report g.D.RunsDoc.document)) refl c.from_residual-in_err-names.ensures.1

pub returns-in_err-world-clause-cause : goal.returns-in_err-world-clause-cause
returns-in_err-world-clause-cause g c =
    let text = report g.D.RunsDoc.document in
    let old = g.K.Sink.written c.args.sink.now in
    let faults = g.K.Sink.faults c.args.sink.now in
    stops_lacking text old old faults faults c.from_residual-in_err-world.result (none_of text old
    (some_report g.D.RunsDoc.document)) refl c.from_residual-in_err-world.ensures.1

pub returns-in_err-tree-clause-cause : goal.returns-in_err-tree-clause-cause
returns-in_err-tree-clause-cause g c =
    let text = report g.D.RunsDoc.document in
    let old = g.K.Sink.written c.args.sink.now in
    let faults = g.K.Sink.faults c.args.sink.now in
    stops_lacking text old old faults faults c.from_residual-in_err-tree.result (none_of text old
    (some_report g.D.RunsDoc.document)) refl c.from_residual-in_err-tree.ensures.1
