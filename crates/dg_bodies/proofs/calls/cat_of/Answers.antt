use Rattle.std.proofs.Common.{refl, map, ap}
use Rattle.std.proofs.lemmas.Result.{err_from_is_err_and}
use Rattle.dg_eval.specs.Runs.{in_order}
use Rattle.dg_eval.specs.Operations.{cat_in}
use Rattle.dg_eval.specs.Meaning.{look, eval}
use Rattle.dg_bodies.specs.Sites.{Site}
use Rattle.dg_bodies.proofs.Steps.{can_begin, stops, goes_on}
use Rattle.dg_bodies.proofs.PlainRuns.{ran_cat}
use Rattle.dg_bodies.proofs.calls.cat_of.Goals as goal

pub look_all-requires-clause-can : goal.look_all-requires-clause-can
look_all-requires-clause-can g c =
    let f = look (eval g.S.InScope.scope.doc c.args.depth) c.args.depth in
    can_begin g.S.InScope.scope _ (in_order (map f c.args.values.now))
    (cat_in c.args.site.now.slot) refl c.requires.can

pub returns-in_err-contents-clause-ran : goal.returns-in_err-contents-clause-ran
returns-in_err-contents-clause-ran g c =
    let f = look (eval g.S.InScope.scope.doc c.args.depth) c.args.depth in
    let p = err_from_is_err_and c.from_residual.result c.from_residual.ensures.1 in
    stops g.S.InScope.scope _ (in_order (map f c.args.values.now)) (cat_in c.args.site.now.slot)
    _ _ c.in_err-contents.field-0.0 p.0 c.from_residual.result refl c.requires.can
    c.in_err-contents.ensures.ran p.1 p.2

pub returns-clause-ran : goal.returns-clause-ran
returns-clause-ran g c =
    let f = look (eval g.S.InScope.scope.doc c.args.depth) c.args.depth in
    goes_on g.S.InScope.scope _ (in_order (map f c.args.values.now)) (cat_in c.args.site.now.slot)
    c.in_ok-contents.contents.items _ _ _ c.cat.result refl c.requires.can
    c.in_ok-contents.ensures.ran
    (ran_cat g.S.InScope.scope c.site.inside.slot c.args.site.now.slot c.as_slice.result.now
    c.in_ok-contents.contents.items _ c.cat.result (ap (λ (u : Site). u.slot) c.site.view_is)
    c.as_slice.ensures.value c.cat.ensures.exact)
