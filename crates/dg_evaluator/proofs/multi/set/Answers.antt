use Rattle.std.proofs.Common.{◌≡◌}
use Rattle.std.proofs.lemmas.Result.{err_from_is_err_and}
use Rattle.dg_eval.specs.Meaning.{look, eval, added_by_all}
use Rattle.dg_requests.proofs.RanLemmas.{can_first, can_rest, ran_then}
use Rattle.dg_evaluator.specs.Sets.{form_of}
use Rattle.dg_evaluator.proofs.RestLemmas.{stopped}
use Rattle.dg_evaluator.proofs.multi.set.Goals as goal

pub added_by_all-requires-clause-can : goal.added_by_all-requires-clause-can
added_by_all-requires-clause-can g c =
    let s = g.S.InScope.scope in
    can_first s
    (added_by_all (form_of c.args.of_outcomes) (look (eval s.doc c.args.depth) c.args.depth)
    c.args.flags.now c.args.values.now) _ c.requires.can

pub returns-in_err-added-clause-ran : goal.returns-in_err-added-clause-ran
returns-in_err-added-clause-ran g c =
    let s = g.S.InScope.scope in
    let p = err_from_is_err_and c.from_residual.result c.from_residual.ensures.1 in
    let same : p.0 ≡ c.in_err-added.field-0.0 = (let e = p.2 in cc) in
    stopped s
    (added_by_all (form_of c.args.of_outcomes) (look (eval s.doc c.args.depth) c.args.depth)
    c.args.flags.now c.args.values.now) _ _ _ _ p.0 c.from_residual.result c.requires.can
    c.in_err-added.ensures.ran p.1 same

pub set_of_added-requires-clause-can : goal.set_of_added-requires-clause-can
set_of_added-requires-clause-can g c =
    let s = g.S.InScope.scope in
    can_rest s
    (added_by_all (form_of c.args.of_outcomes) (look (eval s.doc c.args.depth) c.args.depth)
    c.args.flags.now c.args.values.now) _ c.in_ok-added.added c.requires.can
    c.in_ok-added.ensures.ran.gave

pub returns-clause-ran : goal.returns-clause-ran
returns-clause-ran g c =
    let s = g.S.InScope.scope in
    ran_then s
    (added_by_all (form_of c.args.of_outcomes) (look (eval s.doc c.args.depth) c.args.depth)
    c.args.flags.now c.args.values.now) _ c.in_ok-added.added _ _ _ c.set_of_added.result
    c.requires.can c.in_ok-added.ensures.ran c.set_of_added.ensures.ran
