use Rattle.std.proofs.Common.{Some, None}
use Rattle.dg_top.specs.Ends.{IsAnswerTo}
use Rattle.dg_top.specs.Output.{IsAnswer}
use Rattle.dg_top.proofs.EndLemmas.{ends_as, made_as}
use Rattle.dg_top.proofs.perform.answer_read.Goals as goal

pub returns-in-Some-clause-exact : goal.returns-in-Some-clause-exact
returns-in-Some-clause-exact g c =
    let bytes = c.in-Some.bytes.items in
    let old = g.K.Sink.written c.args.sink.now in
    let new = g.K.Sink.written c.answer_bytes.new.sink in
    let faults = g.K.Sink.faults c.args.sink.now in
    let new_faults = g.K.Sink.faults c.answer_bytes.new.sink in
    let ends = rw c.as_slice.ensures.value at c.answer_bytes.ensures.exact in
    rw c.in-Some.is (ends_as (IsAnswer c.args.command bytes) (IsAnswerTo c.args.command (Some
    bytes)) old new faults new_faults c.answer_bytes.result (λ s t given. given) ends)

pub returns-in-None-clause-exact : goal.returns-in-None-clause-exact
returns-in-None-clause-exact g c =
    let old = g.K.Sink.written c.args.sink.now in
    let new = g.K.Sink.written c.write_answer.new.sink in
    let faults = g.K.Sink.faults c.args.sink.now in
    let new_faults = g.K.Sink.faults c.write_answer.new.sink in
    rw c.in-None.is (made_as (IsAnswerTo c.args.command None) c.too_long.result old new faults
    new_faults c.write_answer.result c.too_long.ensures.exact c.write_answer.ensures.exact)
