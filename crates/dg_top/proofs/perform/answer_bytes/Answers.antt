use Rattle.dg_top.specs.Output.{IsAnswer}
use Rattle.dg_top.specs.declared.command.Command.TheVariants.{Print, Check, Plan}
use Rattle.dg_top.proofs.EndLemmas.{made_as}
use Rattle.dg_top.proofs.perform.answer_bytes.Goals as goal

pub returns-in-Print-clause-exact : goal.returns-in-Print-clause-exact
returns-in-Print-clause-exact g c =
    let old = g.K.Sink.written c.args.sink.now in
    let new = g.K.Sink.written c.write_answer.new.sink in
    let faults = g.K.Sink.faults c.args.sink.now in
    let new_faults = g.K.Sink.faults c.write_answer.new.sink in
    rw c.in-Print.is (made_as (IsAnswer Print c.args.bytes.now) c.answer_print.result old new faults
    new_faults c.write_answer.result c.answer_print.ensures.exact c.write_answer.ensures.exact)

pub returns-in-Check-clause-exact : goal.returns-in-Check-clause-exact
returns-in-Check-clause-exact g c =
    let old = g.K.Sink.written c.args.sink.now in
    let new = g.K.Sink.written c.write_answer-in-Check.new.sink in
    let faults = g.K.Sink.faults c.args.sink.now in
    let new_faults = g.K.Sink.faults c.write_answer-in-Check.new.sink in
    rw c.in-Check.is (made_as (IsAnswer Check c.args.bytes.now) c.answer_check.result old new faults
    new_faults c.write_answer-in-Check.result c.answer_check.ensures.exact
    c.write_answer-in-Check.ensures.exact)

pub returns-in-Plan-clause-exact : goal.returns-in-Plan-clause-exact
returns-in-Plan-clause-exact g c =
    let old = g.K.Sink.written c.args.sink.now in
    let new = g.K.Sink.written c.write_answer-in-Plan.new.sink in
    let faults = g.K.Sink.faults c.args.sink.now in
    let new_faults = g.K.Sink.faults c.write_answer-in-Plan.new.sink in
    rw c.in-Plan.is (made_as (IsAnswer Plan c.args.bytes.now) c.answer_plan.result old new faults
    new_faults c.write_answer-in-Plan.result c.answer_plan.ensures.exact
    c.write_answer-in-Plan.ensures.exact)
