use Rattle.std.proofs.Common.{◌≡◌, suc, length, refl, ap, arith}
use Rattle.std.proofs.lemmas.Option.{slice_get_read}
use Rattle.std.proofs.lemmas.Result.{err_from_is_err_and}
use Rattle.dg_evaluator.specs.Answers.{step_run, reaches, as_reached}
use Rattle.dg_evaluator.proofs.RestLemmas.{left_first, left_stops}
use Rattle.dg_evaluator.proofs.PathLemmas.{path_next, path_goes, path_stops, path_ends}
use Rattle.dg_evaluator.proofs.asks.followed.Goals as goal

pub step_from-requires-clause-can : goal.step_from-requires-clause-can
step_from-requires-clause-can g c =
    let s = g.S.InScope.scope in
    left_first s _
    (step_run s.doc c.args.place.now (suc c.loop-index.index) c.index-steps-index.result
    c.loop-index.value) _ _ _
    (path_next s _ c.args.place.now c.args.steps.now c.loop-index.index
    c.index-steps-index.result c.loop-index.value _ _
    (slice_get_read c.args.steps.now (length c.args.steps.now) c.loop-index.index
    c.index-steps-index.result refl c.loop-index-test.true c.index-steps-index.is)
    c.loop-index.invariant.rest)

pub returns-in_err-next-clause-ran : goal.returns-in_err-next-clause-ran
returns-in_err-next-clause-ran g c =
    let s = g.S.InScope.scope in
    let p = err_from_is_err_and c.from_residual.result c.from_residual.ensures.1 in
    let same : p.0 ≡ c.in_err-next.field-0.0 = (let e = p.2 in cc) in
    left_stops s _
    (step_run s.doc c.args.place.now (suc c.loop-index.index) c.index-steps-index.result
    c.loop-index.value) _ _ _ _ _ p.0 (reaches c.from_residual.result)
    (path_next s _ c.args.place.now c.args.steps.now c.loop-index.index
    c.index-steps-index.result c.loop-index.value _ _
    (slice_get_read c.args.steps.now (length c.args.steps.now) c.loop-index.index
    c.index-steps-index.result refl c.loop-index-test.true c.index-steps-index.is)
    c.loop-index.invariant.rest) c.in_err-next.ensures.ran (ap reaches p.1) same

pub loop-index-preserved : goal.loop-index-preserved
loop-index-preserved g c =
    let s = g.S.InScope.scope in
    record {
      rest = path_goes s _ c.args.place.now c.args.steps.now c.loop-index.index
          c.index-steps-index.result c.loop-index.value c.in-Value.next
          (as_reached c.in_ok-next.field-0) _ _ _
          (slice_get_read c.args.steps.now (length c.args.steps.now) c.loop-index.index
          c.index-steps-index.result refl c.loop-index-test.true c.index-steps-index.is)
          c.loop-index.invariant.rest c.in_ok-next.ensures.ran (ap as_reached c.in-Value.is);
      same = c.step_from.ensures.same;
    }

pub returns-in-Absent-clause-ran : goal.returns-in-Absent-clause-ran
returns-in-Absent-clause-ran g c =
    let s = g.S.InScope.scope in
    path_stops s _ c.args.place.now c.args.steps.now c.loop-index.index
    c.index-steps-index.result c.loop-index.value (as_reached c.in_ok-next.field-0) _ _ _
    (slice_get_read c.args.steps.now (length c.args.steps.now) c.loop-index.index
    c.index-steps-index.result refl c.loop-index-test.true c.index-steps-index.is)
    c.loop-index.invariant.rest c.in_ok-next.ensures.ran (ap as_reached c.in-Absent.is)

pub returns-clause-ran : goal.returns-clause-ran
returns-clause-ran g c =
    path_ends g.S.InScope.scope _ c.args.place.now c.args.steps.now c.loop-index.index
    c.loop-index.value _ _ (omega (arith, c.loop-index-test.false)) c.loop-index.invariant.rest
