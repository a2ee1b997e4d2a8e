use Rattle.std.proofs.Common.{◌≡◌, ap}
use Rattle.std.proofs.lemmas.Result.{err_from_is_err_and}
use Rattle.dg_evaluator.specs.Answers.{reaches}
use Rattle.dg_evaluator.proofs.PathLemmas.{ask_first_can, ask_stops, path_can, path_ran}
use Rattle.dg_evaluator.proofs.asks.ask_over.Goals as goal

pub requested-requires-clause-can : goal.requested-requires-clause-can
requested-requires-clause-can g c =
    ask_first_can g.S.InScope.scope c.args.number c.args.ask.now c.at_root-place.result
    c.at_root-place.ensures.exact c.requires.can

pub returns-in_err-value-clause-ran : goal.returns-in_err-value-clause-ran
returns-in_err-value-clause-ran g c =
    let p = err_from_is_err_and c.from_residual.result c.from_residual.ensures.1 in
    let same : p.0 ≡ c.in_err-value.field-0.0 = (let e = p.2 in cc) in
    ask_stops g.S.InScope.scope c.args.number c.args.ask.now c.at_root-place.result _ _ _ p.0
    (reaches c.from_residual.result) c.at_root-place.ensures.exact c.requires.can
    c.in_err-value.ensures.ran (ap reaches p.1) same

pub followed-requires-clause-can : goal.followed-requires-clause-can
followed-requires-clause-can g c =
    path_can g.S.InScope.scope c.args.number c.args.ask.now c.at_root-place.result
    c.as_slice.result.now _ _ c.in_ok-value.value c.at_root-place.ensures.exact
    c.as_slice.ensures c.requires.can c.in_ok-value.ensures.ran

pub returns-clause-ran : goal.returns-clause-ran
returns-clause-ran g c =
    path_ran g.S.InScope.scope c.args.number c.args.ask.now c.at_root-place.result
    c.as_slice.result.now _ _ _ c.in_ok-value.value (reaches c.followed.result)
    c.at_root-place.ensures.exact c.as_slice.ensures c.requires.can c.in_ok-value.ensures.ran
    c.followed.ensures.ran
