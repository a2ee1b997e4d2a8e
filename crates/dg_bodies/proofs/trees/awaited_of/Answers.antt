use Rattle.std.proofs.Common.{Ok, Err, List, sym, ap, subst, ◌∙◌}
use Rattle.std.proofs.lemmas.Result.{err_from_is_err_and}
use Rattle.dg_value.specs.declared.place.PlaceStep.TheVariants as step
use Rattle.dg_value.specs.declared.value.Value.{Value}
use Rattle.dg_value.specs.Places.{then_step}
use Rattle.dg_eval.specs.Meaning.{param_in}
use Rattle.dg_requests.specs.Results.{Gave, ends}
use Rattle.dg_bodies.specs.Sites.{Site, seen}
use Rattle.dg_bodies.proofs.Steps.{can_go_on, stops, goes_on, on_ok}
use Rattle.dg_bodies.proofs.PlainRuns.{ran_over, plain_param}
use Rattle.dg_bodies.proofs.PartRuns.{await_run}
use Rattle.dg_bodies.proofs.CountLemmas.{after_await}
use Rattle.dg_bodies.proofs.TreeLemmas.{fit_over, given_param, await_here}
use Rattle.dg_bodies.proofs.trees.awaited_of.Goals as goal

pub awaited-requires-clause-fit : goal.awaited-requires-clause-fit
awaited-requires-clause-fit g c =
    fit_over g.S.InScope.scope _ _ _ _ (ap (λ (u : Site). u.plan) c.site.view_is)
    c.requires.of_world c.requires.fit

pub awaited-requires-clause-fits : goal.awaited-requires-clause-fits
awaited-requires-clause-fits g c =
    let gave : List Value → Type 0 =
    λ l. Gave (param_in l c.args.index) (Ok c.in_ok-value.value) in
    c.requires.awaits c.args.index c.in_ok-value.value (await_here c.args.index)
    (given_param c.args.site.now.params c.args.index c.in_ok-value.value
    (subst gave (ap (λ (u : Site). u.params) c.site.view_is) c.in_ok-value.ensures.exact))

pub returns-in_err-value-clause-ran : goal.returns-in_err-value-clause-ran
returns-in_err-value-clause-ran g c =
    let s = g.S.InScope.scope in
    let p = err_from_is_err_and c.from_residual-in_err-value.result
    c.from_residual-in_err-value.ensures.1 in
    let place = c.in_ok-place.ensures.exact
    ∙ ap (λ (u : Site). then_step u.place (step.Call c.in_ok-number.number)) c.site.view_is in
    let is = await_run c.args.index (seen s c.args.depth c.args.site.now) c.args.at.now
    c.in_ok-number.number c.in_ok-place.place c.in_ok-number.ensures.exact place in
    stops s _ (param_in c.args.site.now.params c.args.index) _ _ _ c.in_err-value.field-0.0 p.0
    (ends c.from_residual-in_err-value.result) is c.requires.can
    (ran_over s c.site.inside.params.now c.args.site.now.params (λ l. param_in l c.args.index) _
    (Err c.in_err-value.field-0.0) (ap (λ (u : Site). u.params) c.site.view_is)
    (plain_param c.site.inside.params.now c.args.index) c.in_err-value.ensures.exact)
    (ap ends p.1) p.2

pub returns-clause-ran : goal.returns-clause-ran
returns-clause-ran g c =
    let s = g.S.InScope.scope in
    let place = c.in_ok-place.ensures.exact
    ∙ ap (λ (u : Site). then_step u.place (step.Call c.in_ok-number.number)) c.site.view_is in
    let is = await_run c.args.index (seen s c.args.depth c.args.site.now) c.args.at.now
    c.in_ok-number.number c.in_ok-place.place c.in_ok-number.ensures.exact place in
    goes_on s _ (param_in c.args.site.now.params c.args.index) _ c.in_ok-value.value _ _ _
    (ends c.awaited.result) is c.requires.can
    (ran_over s c.site.inside.params.now c.args.site.now.params (λ l. param_in l c.args.index) _
    (Ok c.in_ok-value.value) (ap (λ (u : Site). u.params) c.site.view_is)
    (plain_param c.site.inside.params.now c.args.index) c.in_ok-value.ensures.exact)
    c.awaited.ensures.ran

pub returns-clause-after : goal.returns-clause-after
returns-clause-after g c =
    on_ok c.awaited.result _
    (c.in_ok-number.ensures.after ∙ sym (after_await c.args.index c.args.at.now))

pub awaited-requires-clause-can : goal.awaited-requires-clause-can
awaited-requires-clause-can g c =
    let s = g.S.InScope.scope in
    let place = c.in_ok-place.ensures.exact
    ∙ ap (λ (u : Site). then_step u.place (step.Call c.in_ok-number.number)) c.site.view_is in
    let is = await_run c.args.index (seen s c.args.depth c.args.site.now) c.args.at.now
    c.in_ok-number.number c.in_ok-place.place c.in_ok-number.ensures.exact place in
    can_go_on s _ (param_in c.args.site.now.params c.args.index) _ c.in_ok-value.value
    (g.C.Cells.asked c.args.cells.now) (g.C.Cells.asked c.args.cells.now) is c.requires.can
    (ran_over s c.site.inside.params.now c.args.site.now.params (λ l. param_in l c.args.index) _
    (Ok c.in_ok-value.value) (ap (λ (u : Site). u.params) c.site.view_is)
    (plain_param c.site.inside.params.now c.args.index) c.in_ok-value.ensures.exact)
