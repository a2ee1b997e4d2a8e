use Rattle.std.proofs.Common.{◌≡◌, ℕ, length, ap, subst, ◌∙◌}
use Rattle.dg_io.specs.Causes.{Rose}
use Rattle.dg_slots.specs.Sessions.{asks_of}
use Rattle.dg_eval.specs.Report.{cells_line, report}
use Rattle.dg_top.proofs.EndLemmas.{stops_lacking, stops_failing}
use Rattle.dg_top.proofs.LineLemmas.{front_of_report, front_of_count, whole_report}
use Rattle.dg_top.proofs.UsedLemmas.{cell_count}
use Rattle.dg_top.proofs.reporting.write_replies.Goals as goal

pub returns-in_err-line-clause-cause : goal.returns-in_err-line-clause-cause
returns-in_err-line-clause-cause g c =
    let doc = g.D.RunsDoc.document in
    let old = g.K.Sink.written c.args.sink.now in
    let now = g.K.Sink.written c.write_lines.new.sink in
    stops_lacking (report doc) old now (g.K.Sink.faults c.args.sink.now) (g.K.Sink.faults
    c.write_lines.new.sink) c.from_residual-in_err-line.result
    (front_of_report doc (length c.args.asks.now) old now c.in_ok-write_lines.ensures.exact)
    c.in_ok-write_lines.ensures.kept c.from_residual-in_err-line.ensures.1

pub returns-in_err-write_all-clause-cause : goal.returns-in_err-write_all-clause-cause
returns-in_err-write_all-clause-cause g c =
    let doc = g.D.RunsDoc.document in
    let n = length c.args.asks.now in
    let is : n ≡ length (asks_of doc) = ap length c.requires.asks in
    let count = c.in_ok-line.ensures.exact ∙ ap cells_line (c.count_of.ensures.exact
    ∙ cell_count doc n c.write_lines.new.tree is c.count_of.ensures.sound
    c.in_ok-write_lines.ensures.asked) in
    let old = g.K.Sink.written c.args.sink.now in
    let middle = g.K.Sink.written c.write_lines.new.sink in
    let new = g.K.Sink.written c.write_all.new.sink in
    let new_faults = g.K.Sink.faults c.write_all.new.sink in
    let front = rw c.as_slice.ensures.value at c.in_err-write_all.ensures.front in
    stops_failing (report doc) old new (g.K.Sink.faults c.args.sink.now) new_faults
    c.from_residual-in_err-write_all.result
    (front_of_count doc n front.0 c.in_ok-line.line.items old middle new is count front.1
    c.in_ok-write_lines.ensures.exact front.2)
    (subst (λ (m : ℕ). Rose m new_faults) c.in_ok-write_lines.ensures.kept
    c.in_err-write_all.ensures.cause) c.from_residual-in_err-write_all.ensures.1

pub returns-clause-exact : goal.returns-clause-exact
returns-clause-exact g c =
    let doc = g.D.RunsDoc.document in
    let n = length c.args.asks.now in
    let is : n ≡ length (asks_of doc) = ap length c.requires.asks in
    let count = c.in_ok-line.ensures.exact ∙ ap cells_line (c.count_of.ensures.exact
    ∙ cell_count doc n c.write_lines.new.tree is c.count_of.ensures.sound
    c.in_ok-write_lines.ensures.asked) in
    let old = g.K.Sink.written c.args.sink.now in
    let middle = g.K.Sink.written c.write_lines.new.sink in
    let new = g.K.Sink.written c.write_all.new.sink in
    let written = rw c.as_slice.ensures.value at c.in_ok-write_all.ensures.exact in
    whole_report doc n c.in_ok-line.line.items old middle new is count
    c.in_ok-write_lines.ensures.exact written
