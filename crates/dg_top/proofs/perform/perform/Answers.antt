use Rattle.std.specs.Prelude.{map, option_map, string_bytes}
use Rattle.dg_top.specs.Answers.{Answers}
use Rattle.dg_top.specs.Ends.{IsAnswerTo}
use Rattle.dg_top.proofs.AnswerLemmas.{answer_to_read}
use Rattle.dg_top.proofs.EndLemmas.{ends_as}
use Rattle.dg_top.proofs.RunLemmas as run
use Rattle.dg_top.proofs.StreamLemmas.{appends_none}
use Rattle.dg_top.proofs.perform.perform.Goals as goal

pub returns-in_default-clause-exact : goal.returns-in_default-clause-exact
returns-in_default-clause-exact g c =
    run.writes_no_words c.args.program (map string_bytes c.args.words.now)
    c.in_default.ensures.exact (g.S.Source.left c.args.source.now) (g.K.Sink.written
    c.args.sink.now)

pub returns-in-Err-clause-exact : goal.returns-in-Err-clause-exact
returns-in-Err-clause-exact g c =
    run.writes_nothing c.args.program (map string_bytes c.args.words.now) c.in-Some.command
    c.in-Some.ensures.exact (g.S.Source.left c.args.source.now) (g.K.Sink.written
    c.args.sink.now) c.in-Err.status _ c.in-Err.ensures.cause

pub returns-in-Err-clause-bad_line : goal.returns-in-Err-clause-bad_line
returns-in-Err-clause-bad_line g c =
    let old = g.K.Sink.written c.args.sink.now in
    run.bad_line_unwritten c.args.program (map string_bytes c.args.words.now) c.in-Some.command
    c.in-Some.ensures.exact (g.S.Source.left c.args.source.now) (g.S.Source.left
    c.read_source.new.source) old old (appends_none old) c.in-Err.status _
    c.in-Err.ensures.cause

pub returns-in-Err-clause-refused : goal.returns-in-Err-clause-refused
returns-in-Err-clause-refused g c =
    let old = g.K.Sink.written c.args.sink.now in
    run.refused_unwritten c.args.program (map string_bytes c.args.words.now) c.in-Some.command
    c.in-Some.ensures.exact (g.S.Source.left c.args.source.now) (g.S.Source.left
    c.read_source.new.source) old old (appends_none old) c.in-Err.status _
    c.in-Err.ensures.cause

pub returns-in-Err-clause-too_long : goal.returns-in-Err-clause-too_long
returns-in-Err-clause-too_long g c =
    let old = g.K.Sink.written c.args.sink.now in
    run.too_long_unwritten c.args.program (map string_bytes c.args.words.now) c.in-Some.command
    c.in-Some.ensures.exact (g.S.Source.left c.args.source.now) (g.S.Source.left
    c.read_source.new.source) old old (appends_none old) c.in-Err.status _
    c.in-Err.ensures.cause

pub returns-in-Ok-clause-exact : goal.returns-in-Ok-clause-exact
returns-in-Ok-clause-exact g c =
    let command = c.in-Some.command in
    let left = g.S.Source.left c.args.source.now in
    let new_left = g.S.Source.left c.read_source.new.source in
    let old = g.K.Sink.written c.args.sink.now in
    let new = g.K.Sink.written c.answer_read.new.sink in
    let faults = g.K.Sink.faults c.args.sink.now in
    let new_faults = g.K.Sink.faults c.answer_read.new.sink in
    let read = option_map (λ bytes. bytes.items) c.in-Ok.read in
    let ends = ends_as (IsAnswerTo command read) (Answers command left new_left) old new faults
    new_faults c.answer_read.result (answer_to_read command left new_left read
    c.in-Ok.ensures.exact) c.answer_read.ensures.exact in
    run.writes_ended c.args.program (map string_bytes c.args.words.now) command
    c.in-Some.ensures.exact left new_left old new faults new_faults c.answer_read.result ends

pub returns-in-Ok-clause-bad_line : goal.returns-in-Ok-clause-bad_line
returns-in-Ok-clause-bad_line g c =
    let command = c.in-Some.command in
    let left = g.S.Source.left c.args.source.now in
    let new_left = g.S.Source.left c.read_source.new.source in
    let old = g.K.Sink.written c.args.sink.now in
    let new = g.K.Sink.written c.answer_read.new.sink in
    let faults = g.K.Sink.faults c.args.sink.now in
    let new_faults = g.K.Sink.faults c.answer_read.new.sink in
    let read = option_map (λ bytes. bytes.items) c.in-Ok.read in
    let ends = ends_as (IsAnswerTo command read) (Answers command left new_left) old new faults
    new_faults c.answer_read.result (answer_to_read command left new_left read
    c.in-Ok.ensures.exact) c.answer_read.ensures.exact in
    run.bad_line_ended c.args.program (map string_bytes c.args.words.now) command
    c.in-Some.ensures.exact left new_left old new faults new_faults c.answer_read.result ends

pub returns-in-Ok-clause-refused : goal.returns-in-Ok-clause-refused
returns-in-Ok-clause-refused g c =
    let command = c.in-Some.command in
    let left = g.S.Source.left c.args.source.now in
    let new_left = g.S.Source.left c.read_source.new.source in
    let old = g.K.Sink.written c.args.sink.now in
    let new = g.K.Sink.written c.answer_read.new.sink in
    let faults = g.K.Sink.faults c.args.sink.now in
    let new_faults = g.K.Sink.faults c.answer_read.new.sink in
    let read = option_map (λ bytes. bytes.items) c.in-Ok.read in
    let ends = ends_as (IsAnswerTo command read) (Answers command left new_left) old new faults
    new_faults c.answer_read.result (answer_to_read command left new_left read
    c.in-Ok.ensures.exact) c.answer_read.ensures.exact in
    run.refused_ended c.args.program (map string_bytes c.args.words.now) command
    c.in-Some.ensures.exact left new_left old new faults new_faults c.answer_read.result ends

pub returns-in-Ok-clause-too_long : goal.returns-in-Ok-clause-too_long
returns-in-Ok-clause-too_long g c =
    let command = c.in-Some.command in
    let left = g.S.Source.left c.args.source.now in
    let new_left = g.S.Source.left c.read_source.new.source in
    let old = g.K.Sink.written c.args.sink.now in
    let new = g.K.Sink.written c.answer_read.new.sink in
    let faults = g.K.Sink.faults c.args.sink.now in
    let new_faults = g.K.Sink.faults c.answer_read.new.sink in
    let read = option_map (λ bytes. bytes.items) c.in-Ok.read in
    let ends = ends_as (IsAnswerTo command read) (Answers command left new_left) old new faults
    new_faults c.answer_read.result (answer_to_read command left new_left read
    c.in-Ok.ensures.exact) c.answer_read.ensures.exact in
    run.too_long_ended c.args.program (map string_bytes c.args.words.now) command
    c.in-Some.ensures.exact left new_left old new faults new_faults c.answer_read.result ends

pub returns-in-Ok-clause-complete : goal.returns-in-Ok-clause-complete
returns-in-Ok-clause-complete g c =
    let command = c.in-Some.command in
    let left = g.S.Source.left c.args.source.now in
    let new_left = g.S.Source.left c.read_source.new.source in
    let old = g.K.Sink.written c.args.sink.now in
    let new = g.K.Sink.written c.answer_read.new.sink in
    let faults = g.K.Sink.faults c.args.sink.now in
    let new_faults = g.K.Sink.faults c.answer_read.new.sink in
    let read = option_map (λ bytes. bytes.items) c.in-Ok.read in
    let ends = ends_as (IsAnswerTo command read) (Answers command left new_left) old new faults
    new_faults c.answer_read.result (answer_to_read command left new_left read
    c.in-Ok.ensures.exact) c.answer_read.ensures.exact in
    run.complete_ended c.args.program (map string_bytes c.args.words.now) command
    c.in-Some.ensures.exact left new_left old new faults new_faults _ _ c.answer_read.result
    ends
