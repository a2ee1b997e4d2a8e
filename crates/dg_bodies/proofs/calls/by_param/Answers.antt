use Rattle.std.proofs.Common.{sym, ap, ◌∙◌}
use Rattle.dg_decl.specs.declared.expression.ParamCall.{ParamCall}
use Rattle.dg_decl.specs.declared.expression.ParamCall.TheVariants as by_name
use Rattle.dg_eval.specs.Runs.{and_then}
use Rattle.dg_eval.specs.Operations.{value_in, failure_in}
use Rattle.dg_eval.specs.Bodies.{by_param}
use Rattle.dg_eval.specs.Meaning.{param_in}
use Rattle.dg_requests.proofs.RanLemmas.{ran_as}
use Rattle.dg_bodies.specs.Counts.{after}
use Rattle.dg_bodies.specs.Sites.{Site, seen, run_at}
use Rattle.dg_bodies.proofs.Steps.{on_ok}
use Rattle.dg_bodies.proofs.PlainRuns.{ran_over, plain_then, plain_param, plain_value, plain_failure}
use Rattle.dg_bodies.proofs.CountLemmas.{after_value, after_values, after_failure}
use Rattle.dg_bodies.proofs.calls.by_param.Goals as goal

pub returns-in-Value-clause-ran : goal.returns-in-Value-clause-ran
returns-in-Value-clause-ran g c =
    let s = g.S.InScope.scope in
    let i = c.args.index in
    let see = seen s c.args.depth c.args.site.now in
    ran_as s (run_at (by_param by_name.Value i) see c.args.at.now) _ _ _ c.param_value.result
    (ap (λ (f : ParamCall). run_at (by_param f i) see c.args.at.now) (sym c.in-Value.is))
    (ran_over s c.site.inside.params.now c.args.site.now.params
    (λ l. and_then (param_in l i) value_in) _ c.param_value.result
    (ap (λ (u : Site). u.params) c.site.view_is)
    (plain_then (param_in c.site.inside.params.now i) value_in
    (plain_param c.site.inside.params.now i) plain_value) c.param_value.ensures.exact)

pub returns-in-Value-clause-after : goal.returns-in-Value-clause-after
returns-in-Value-clause-after g c =
    on_ok c.param_value.result _
    (sym (ap (λ (f : ParamCall). after (by_param f c.args.index) c.args.at.now) c.in-Value.is
    ∙ after_value c.args.index c.args.at.now))

pub returns-in-Values-clause-after : goal.returns-in-Values-clause-after
returns-in-Values-clause-after g c =
    on_ok c.values_of.result _
    (sym (ap (λ (f : ParamCall). after (by_param f c.args.index) c.args.at.now) c.in-Values.is
    ∙ after_values c.args.index c.args.at.now))

pub returns-in-Failure-clause-ran : goal.returns-in-Failure-clause-ran
returns-in-Failure-clause-ran g c =
    let s = g.S.InScope.scope in
    let i = c.args.index in
    let see = seen s c.args.depth c.args.site.now in
    ran_as s (run_at (by_param by_name.Failure i) see c.args.at.now) _ _ _
    c.param_failure.result
    (ap (λ (f : ParamCall). run_at (by_param f i) see c.args.at.now) (sym c.in-Failure.is))
    (ran_over s c.site.inside.params.now c.args.site.now.params
    (λ l. and_then (param_in l i) failure_in) _ c.param_failure.result
    (ap (λ (u : Site). u.params) c.site.view_is)
    (plain_then (param_in c.site.inside.params.now i) failure_in
    (plain_param c.site.inside.params.now i) plain_failure) c.param_failure.ensures.exact)

pub returns-in-Failure-clause-after : goal.returns-in-Failure-clause-after
returns-in-Failure-clause-after g c =
    on_ok c.param_failure.result _
    (sym (ap (λ (f : ParamCall). after (by_param f c.args.index) c.args.at.now) c.in-Failure.is
    ∙ after_failure c.args.index c.args.at.now))
