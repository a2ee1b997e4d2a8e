use Rattle.std.proofs.Common.{Ok, Err, sym, ap, ◌∙◌}
use Rattle.std.proofs.lemmas.Result.{err_from_is_err_and}
use Rattle.dg_value.specs.declared.place.PlaceStep.TheVariants as step
use Rattle.dg_value.specs.Places.{then_step}
use Rattle.dg_eval.specs.Meaning.{param_in}
use Rattle.dg_bodies.specs.Sites.{Site, seen}
use Rattle.dg_bodies.proofs.Steps.{stops, goes_on, on_ok}
use Rattle.dg_bodies.proofs.PlainRuns.{ran_over, plain_param}
use Rattle.dg_bodies.proofs.PartRuns.{get_run}
use Rattle.dg_bodies.proofs.CountLemmas.{after_get}
use Rattle.dg_bodies.proofs.calls.got_of.Goals as goal

pub returns-in_err-value-clause-ran : goal.returns-in_err-value-clause-ran
returns-in_err-value-clause-ran g c =
    let s = g.S.InScope.scope in
    let p = err_from_is_err_and c.from_residual-in_err-value.result
    c.from_residual-in_err-value.ensures.1 in
    let place = c.in_ok-place.ensures.exact
    ∙ ap (λ (u : Site). then_step u.place (step.Call c.in_ok-number.number)) c.site.view_is in
    let is = get_run c.args.index (seen s c.args.depth c.args.site.now) c.args.at.now
    c.in_ok-number.number c.in_ok-place.place c.in_ok-number.ensures.exact place in
    stops s _ (param_in c.args.site.now.params c.args.index) _ _ _ c.in_err-value.field-0.0 p.0
    c.from_residual-in_err-value.result is c.requires.can
    (ran_over s c.site.inside.params.now c.args.site.now.params (λ l. param_in l c.args.index) _
    (Err c.in_err-value.field-0.0) (ap (λ (u : Site). u.params) c.site.view_is)
    (plain_param c.site.inside.params.now c.args.index) c.in_err-value.ensures.exact) p.1 p.2

pub returns-clause-ran : goal.returns-clause-ran
returns-clause-ran g c =
    let s = g.S.InScope.scope in
    let place = c.in_ok-place.ensures.exact
    ∙ ap (λ (u : Site). then_step u.place (step.Call c.in_ok-number.number)) c.site.view_is in
    let is = get_run c.args.index (seen s c.args.depth c.args.site.now) c.args.at.now
    c.in_ok-number.number c.in_ok-place.place c.in_ok-number.ensures.exact place in
    goes_on s _ (param_in c.args.site.now.params c.args.index) _ c.in_ok-value.value _ _ _
    c.got.result is c.requires.can
    (ran_over s c.site.inside.params.now c.args.site.now.params (λ l. param_in l c.args.index) _
    (Ok c.in_ok-value.value) (ap (λ (u : Site). u.params) c.site.view_is)
    (plain_param c.site.inside.params.now c.args.index) c.in_ok-value.ensures.exact)
    c.got.ensures.ran

pub returns-clause-after : goal.returns-clause-after
returns-clause-after g c =
    on_ok c.got.result _ (c.in_ok-number.ensures.after ∙ sym (after_get c.args.index c.args.at.now))
