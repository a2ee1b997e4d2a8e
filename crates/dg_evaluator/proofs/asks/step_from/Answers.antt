use Rattle.std.proofs.Common.{◌≡◌, ap, suc}
use Rattle.std.proofs.lemmas.Result.{err_from_is_err_and}
use Rattle.dg_eval.specs.Meaning.{look, eval}
use Rattle.dg_requests.proofs.RanLemmas.{can_first}
use Rattle.dg_evaluator.specs.Answers.{reaches}
use Rattle.dg_evaluator.proofs.RestLemmas.{stopped}
use Rattle.dg_evaluator.proofs.PathLemmas.{seen_can, seen_ran, lacks}
use Rattle.dg_evaluator.proofs.asks.step_from.Goals as goal

pub look-requires-clause-can : goal.look-requires-clause-can
look-requires-clause-can g c =
    let s = g.S.InScope.scope in
    can_first s (look (eval s.doc 128) 128 c.args.value) _ c.requires.can

pub returns-in_err-seen-clause-ran : goal.returns-in_err-seen-clause-ran
returns-in_err-seen-clause-ran g c =
    let s = g.S.InScope.scope in
    let p = err_from_is_err_and c.from_residual.result c.from_residual.ensures.1 in
    let same : p.0 ≡ c.in_err-seen.field-0.0 = (let e = p.2 in cc) in
    stopped s (look (eval s.doc 128) 128 c.args.value) _ _ _ _ p.0
    (reaches c.from_residual.result) c.requires.can c.in_err-seen.ensures.ran (ap reaches p.1) same

pub returns-in_err-at-clause-ran : goal.returns-in_err-at-clause-ran
returns-in_err-at-clause-ran g c =
    let s = g.S.InScope.scope in
    let p = err_from_is_err_and c.from_residual-in_err-at.result
    c.from_residual-in_err-at.ensures.1 in
    lacks s (look (eval s.doc 128) 128 c.args.value) _ c.in_ok-seen.seen _ _ p.0
    (reaches c.from_residual-in_err-at.result) c.requires.can c.in_ok-seen.ensures.ran
    (ap reaches p.1) p.2

pub stepped-requires-clause-can : goal.stepped-requires-clause-can
stepped-requires-clause-can g c =
    seen_can g.S.InScope.scope c.args.place.now c.in_ok-at.at (suc c.args.index) c.args.step.now
    c.args.value c.in_ok-seen.seen _ _ c.in_ok-at.ensures.exact c.requires.can
    c.in_ok-seen.ensures.ran

pub returns-clause-ran : goal.returns-clause-ran
returns-clause-ran g c =
    seen_ran g.S.InScope.scope c.args.place.now c.in_ok-at.at (suc c.args.index) c.args.step.now
    c.args.value c.in_ok-seen.seen _ _ _ (reaches c.stepped.result) c.in_ok-at.ensures.exact
    c.requires.can c.in_ok-seen.ensures.ran c.stepped.ensures.ran
