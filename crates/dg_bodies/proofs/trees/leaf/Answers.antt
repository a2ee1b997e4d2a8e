use Rattle.std.proofs.Common.{Ok, refl, sym, ap, ◌∙◌}
use Rattle.std.proofs.lemmas.Result.{err_from_is_err_and}
use Rattle.dg_value.specs.declared.value.Value.{Value}
use Rattle.dg_eval.specs.Runs.{Run, gives}
use Rattle.dg_eval.specs.Bodies.{End, value_end, expr_part}
use Rattle.dg_requests.specs.Results.{ends}
use Rattle.dg_bodies.specs.Sites.{seen, run_at}
use Rattle.dg_bodies.proofs.Steps.{can_begin, stops, goes_on, ran_value}
use Rattle.dg_bodies.proofs.PartRuns.{leaf_run}
use Rattle.dg_bodies.proofs.CountLemmas.{after_leaf}
use Rattle.dg_bodies.proofs.trees.leaf.Goals as goal

pub expression-requires-clause-can : goal.expression-requires-clause-can
expression-requires-clause-can g c =
    let s = g.S.InScope.scope in
    let see = seen s c.args.depth c.args.site.now in
    let next : Value → Run End = λ v. gives (value_end v) in
    can_begin s _ (run_at (expr_part c.args.e.now) see c.args.at.now) next
    (leaf_run c.args.e.now see c.args.at.now) c.requires.can

pub returns-in_err-value-clause-ran : goal.returns-in_err-value-clause-ran
returns-in_err-value-clause-ran g c =
    let s = g.S.InScope.scope in
    let see = seen s c.args.depth c.args.site.now in
    let next : Value → Run End = λ v. gives (value_end v) in
    let p = err_from_is_err_and c.from_residual.result c.from_residual.ensures.1 in
    stops s _ (run_at (expr_part c.args.e.now) see c.args.at.now) next _ _
    c.in_err-value.field-0.0 p.0 (ends c.from_residual.result)
    (leaf_run c.args.e.now see c.args.at.now) c.requires.can c.in_err-value.ensures.ran
    (ap ends p.1) p.2

pub returns-clause-ran : goal.returns-clause-ran
returns-clause-ran g c =
    let s = g.S.InScope.scope in
    let see = seen s c.args.depth c.args.site.now in
    let next : Value → Run End = λ v. gives (value_end v) in
    let end : End = value_end c.in_ok-value.value in
    goes_on s _ (run_at (expr_part c.args.e.now) see c.args.at.now) next c.in_ok-value.value _ _ _
    (Ok end) (leaf_run c.args.e.now see c.args.at.now) c.requires.can c.in_ok-value.ensures.ran
    (ran_value s end end _ refl)

pub returns-clause-after : goal.returns-clause-after
returns-clause-after g c =
    c.in_ok-value.ensures.after ∙ sym (after_leaf c.args.e.now c.args.at.now)
