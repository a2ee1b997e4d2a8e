use Rattle.std.proofs.Common.{ℕ, refl, sym, subst, ◌∙◌, arith}
use Rattle.dg_io.specs.Causes.{Rose}
use Rattle.dg_eval.specs.Report.{report}
use Rattle.dg_tree.specs.Stores.{Stored}
use Rattle.dg_top.specs.Progress.{AreAsked}
use Rattle.dg_top.proofs.EndLemmas.{stops_lacking, stops_failing}
use Rattle.dg_top.proofs.LineLemmas.{none_written, nothing_seen, front_of_report, front_of_lines}
use Rattle.dg_top.proofs.UsedLemmas.{none_asked}
use Rattle.dg_top.proofs.reporting.write_lines.Goals as goal

pub loop-start-init : goal.loop-start-init
loop-start-init g c =
    let doc = g.D.RunsDoc.document in
    record {
      written = none_written doc (g.K.Sink.written c.args.sink.now);
      asked = subst (λ (t : Stored). AreAsked doc 0 t.asked) (sym c.requires.empty) (none_asked
          doc);
      appeared = c.new-numbers.ensures.exact ∙ nothing_seen doc;
      kept = refl;
      within = omega arith;
    }

pub returns-in_err-text-clause-cause : goal.returns-in_err-text-clause-cause
returns-in_err-text-clause-cause g c =
    let doc = g.D.RunsDoc.document in
    let old = g.K.Sink.written c.args.sink.now in
    let now = g.K.Sink.written c.loop-start.sink in
    stops_lacking (report doc) old now (g.K.Sink.faults c.args.sink.now) (g.K.Sink.faults
    c.loop-start.sink) c.from_residual.result
    (front_of_report doc c.loop-start.start old now c.loop-start.invariant.written)
    c.loop-start.invariant.kept c.from_residual.ensures.1

pub returns-in_err-write_all-clause-cause : goal.returns-in_err-write_all-clause-cause
returns-in_err-write_all-clause-cause g c =
    let doc = g.D.RunsDoc.document in
    let old = g.K.Sink.written c.args.sink.now in
    let middle = g.K.Sink.written c.loop-start.sink in
    let new = g.K.Sink.written c.write_all.new.sink in
    let new_faults = g.K.Sink.faults c.write_all.new.sink in
    let front = rw c.as_slice.ensures.value at c.in_err-write_all.ensures.front in
    stops_failing (report doc) old new (g.K.Sink.faults c.args.sink.now) new_faults
    c.from_residual-in_err-write_all.result
    (front_of_lines doc c.loop-start.start c.min-end.result front.0 c.in_ok-text.text.items old
    middle new c.in_ok-text.ensures.exact front.1 c.loop-start.invariant.written front.2)
    (subst (λ (n : ℕ). Rose n new_faults) c.loop-start.invariant.kept
    c.in_err-write_all.ensures.cause) c.from_residual-in_err-write_all.ensures.1
