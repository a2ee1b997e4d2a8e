use Rattle.std.proofs.Common.{◌≡◌, refl, ap}
use Rattle.std.proofs.lemmas.Result.{err_from_is_err_and}
use Rattle.dg_eval.specs.Meaning.{look, eval}
use Rattle.dg_bodies.specs.Elements.{listed}
use Rattle.dg_bodies.proofs.RunLists.{passed_can, passed_next, passed_stops, passed_nothing, stops_as, mapped_at}
use Rattle.dg_bodies.proofs.sets.look_all.Goals as goal

pub returns-in_err-value-clause-ran : goal.returns-in_err-value-clause-ran
returns-in_err-value-clause-ran g c =
    let p = err_from_is_err_and c.from_residual.result c.from_residual.ensures.1 in
    stops_as g.S.InScope.scope _ _ _ _ p.0 (listed c.from_residual.result) (ap listed p.1) p.2
    (passed_nothing g.S.InScope.scope _ _ _ _ _ c.requires.can c.loop-value.invariant.passed)

pub look-requires-clause-can : goal.look-requires-clause-can
look-requires-clause-can g c =
    let f = look (eval g.S.InScope.scope.doc c.args.depth) c.args.depth in
    passed_can g.S.InScope.scope _ _ (f c.in_ok-value.value) _ _ _ c.requires.can
    c.loop-value.invariant.passed
    (mapped_at f c.args.values.now c.loop-value.value-index c.value-item.result c.in_ok-value.value
    c.loop-value-test.true c.value-item.is c.in_ok-value.ensures.exact)

pub returns-in_err-look-clause-ran : goal.returns-in_err-look-clause-ran
returns-in_err-look-clause-ran g c =
    let f = look (eval g.S.InScope.scope.doc c.args.depth) c.args.depth in
    let p = err_from_is_err_and c.from_residual-in_err-look.result
    c.from_residual-in_err-look.ensures.1 in
    let same : p.0 ≡ c.in_err-look.field-0.0 = (let e = p.2 in cc) in
    stops_as g.S.InScope.scope _ _ _ _ p.0 (listed c.from_residual-in_err-look.result)
    (ap listed p.1) same
    (passed_stops g.S.InScope.scope _ _ (f c.in_ok-value.value) _ _ _ _ _ c.requires.can
    c.loop-value.invariant.passed
    (mapped_at f c.args.values.now c.loop-value.value-index c.value-item.result c.in_ok-value.value
    c.loop-value-test.true c.value-item.is c.in_ok-value.ensures.exact) c.in_err-look.ensures.ran)

pub returns-in_err-push-clause-ran : goal.returns-in_err-push-clause-ran
returns-in_err-push-clause-ran g c =
    let f = look (eval g.S.InScope.scope.doc c.args.depth) c.args.depth in
    let p = err_from_is_err_and c.from_residual-in_err-push.result
    c.from_residual-in_err-push.ensures.1 in
    stops_as g.S.InScope.scope _ _ _ _ p.0 (listed c.from_residual-in_err-push.result)
    (ap listed p.1) p.2
    (passed_nothing g.S.InScope.scope _ _ _ _ _ c.requires.can
    (passed_next g.S.InScope.scope _ _ (f c.in_ok-value.value) _ _ _ _ _ _ c.requires.can
    c.loop-value.invariant.passed
    (mapped_at f c.args.values.now c.loop-value.value-index c.value-item.result c.in_ok-value.value
    c.loop-value-test.true c.value-item.is c.in_ok-value.ensures.exact) c.in_ok-look.ensures.ran
    refl))

pub loop-value-preserved : goal.loop-value-preserved
loop-value-preserved g c =
    let f = look (eval g.S.InScope.scope.doc c.args.depth) c.args.depth in
    record {
      passed = passed_next g.S.InScope.scope _ _ (f c.in_ok-value.value) _ _ _ _ _ _ c.requires.can
          c.loop-value.invariant.passed
          (mapped_at f c.args.values.now c.loop-value.value-index c.value-item.result
          c.in_ok-value.value c.loop-value-test.true c.value-item.is c.in_ok-value.ensures.exact)
          c.in_ok-look.ensures.ran c.in_ok-push.ensures.items;
      same = c.look.ensures.same;
    }
