use Rattle.std.proofs.Common.{◌≡◌, ◌∙◌, arith}
use Rattle.std.proofs.lemmas.Result.{err_from_is_err_and}
use Rattle.dg_eval.specs.Meaning.{look, eval}
use Rattle.dg_requests.proofs.RanLemmas.{ran_nothing}
use Rattle.dg_bodies.proofs.RunLists.{stops_as}
use Rattle.dg_bodies.proofs.SetLemmas.{set_can, set_ran, set_stops, set_short, set_made}
use Rattle.dg_bodies.proofs.sets.set_of.Goals as goal

pub returns-then-values-lt2-clause-ran : goal.returns-then-values-lt2-clause-ran
returns-then-values-lt2-clause-ran g c =
    set_short g.S.InScope.scope (look (eval g.S.InScope.scope.doc c.args.depth) c.args.depth)
    c.args.values.now _ c.in_ok-short_set.field-0 c.if-values-lt2.true
    c.in_ok-short_set.ensures.exact

pub look_all-requires-clause-can : goal.look_all-requires-clause-can
look_all-requires-clause-can g c =
    set_can g.S.InScope.scope (look (eval g.S.InScope.scope.doc c.args.depth) c.args.depth)
    c.args.values.now c.as_slice.result.now (omega (arith, c.if-values-lt2.false))
    (c.as_slice.ensures.value ∙ c.in_ok-order.ensures.exact) c.requires.can

pub returns-in_err-contents-clause-ran : goal.returns-in_err-contents-clause-ran
returns-in_err-contents-clause-ran g c =
    let p = err_from_is_err_and c.from_residual-in_err-contents.result
    c.from_residual-in_err-contents.ensures.1 in
    let same : p.0 ≡ c.in_err-contents.field-0.0 = (let e = p.2 in cc) in
    stops_as g.S.InScope.scope _ _ _ _ p.0 c.from_residual-in_err-contents.result p.1 same
    (set_stops g.S.InScope.scope (look (eval g.S.InScope.scope.doc c.args.depth) c.args.depth)
    c.args.values.now c.as_slice.result.now _ _ c.in_err-contents.field-0.0
    (omega (arith, c.if-values-lt2.false))
    (c.as_slice.ensures.value ∙ c.in_ok-order.ensures.exact) c.requires.can
    c.in_err-contents.ensures.ran)

pub returns-in_err-set_from-clause-ran : goal.returns-in_err-set_from-clause-ran
returns-in_err-set_from-clause-ran g c =
    let p = err_from_is_err_and c.from_residual-in_err-set_from.result
    c.from_residual-in_err-set_from.ensures.1 in
    stops_as g.S.InScope.scope _ _ _ _ p.0 c.from_residual-in_err-set_from.result p.1 p.2
    (set_ran g.S.InScope.scope (look (eval g.S.InScope.scope.doc c.args.depth) c.args.depth)
    c.args.values.now c.as_slice.result.now c.in_ok-contents.contents.items _ _ _
    (omega (arith, c.if-values-lt2.false))
    (c.as_slice.ensures.value ∙ c.in_ok-order.ensures.exact) c.requires.can
    c.in_ok-contents.ensures.ran (ran_nothing g.S.InScope.scope _ _))

pub returns-clause-ran : goal.returns-clause-ran
returns-clause-ran g c =
    set_ran g.S.InScope.scope (look (eval g.S.InScope.scope.doc c.args.depth) c.args.depth)
    c.args.values.now c.as_slice.result.now c.in_ok-contents.contents.items _ _ _
    (omega (arith, c.if-values-lt2.false))
    (c.as_slice.ensures.value ∙ c.in_ok-order.ensures.exact) c.requires.can
    c.in_ok-contents.ensures.ran
    (set_made g.S.InScope.scope c.args.values.now c.in_ok-contents.contents.items _
    c.in_ok-set_from.field-0 c.in_ok-set_from.ensures.exact)
