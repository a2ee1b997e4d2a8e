use Rattle.std.proofs.Common.{Ok, Err, refl, ap}
use Rattle.std.proofs.lemmas.Result.{err_from_is_err_and}
use Rattle.dg_value.specs.declared.value.Value.{Value}
use Rattle.dg_eval.specs.Runs.{Run, and_then}
use Rattle.dg_eval.specs.Operations.{or_mistyped, only_of}
use Rattle.dg_eval.specs.Meaning.{look, eval}
use Rattle.dg_bodies.specs.Sites.{Site, applied_to}
use Rattle.dg_bodies.proofs.RunLists.{then_then}
use Rattle.dg_bodies.proofs.Steps.{can_begin, can_go_on, stops, goes_on}
use Rattle.dg_bodies.proofs.PlainRuns.{ran_made, ran_in, plain_only, plain_applied}
use Rattle.dg_bodies.proofs.calls.of_one.Goals as goal

pub returns-in_err-value-clause-ran : goal.returns-in_err-value-clause-ran
returns-in_err-value-clause-ran g c =
    let s = g.S.InScope.scope in
    let f : Value → Run Value = look (eval s.doc c.args.depth) c.args.depth in
    let first : Run Value = or_mistyped (only_of c.args.values.now) in
    let made : Value → Run Value = applied_to c.args.f c.args.site.now.slot in
    let p = err_from_is_err_and c.from_residual.result c.from_residual.ensures.1 in
    stops s _ first (λ v. and_then (f v) made) _ _ c.in_err-value.field-0.0 p.0
    c.from_residual.result (then_then first f made) c.requires.can
    (ran_made s first _ (Err c.in_err-value.field-0.0) (plain_only c.args.values.now)
    c.in_err-value.ensures.exact) p.1 p.2

pub look-requires-clause-can : goal.look-requires-clause-can
look-requires-clause-can g c =
    let s = g.S.InScope.scope in
    let f : Value → Run Value = look (eval s.doc c.args.depth) c.args.depth in
    let first : Run Value = or_mistyped (only_of c.args.values.now) in
    let made : Value → Run Value = applied_to c.args.f c.args.site.now.slot in
    can_begin s (and_then (f c.in_ok-value.value) made) (f c.in_ok-value.value) made refl
    (can_go_on s _ first (λ v. and_then (f v) made) c.in_ok-value.value (g.C.Cells.asked c.args.cells.now)
    (g.C.Cells.asked c.args.cells.now) (then_then first f made) c.requires.can
    (ran_made s first _ (Ok c.in_ok-value.value) (plain_only c.args.values.now)
    c.in_ok-value.ensures.exact))

pub returns-in_err-content-clause-ran : goal.returns-in_err-content-clause-ran
returns-in_err-content-clause-ran g c =
    let s = g.S.InScope.scope in
    let f : Value → Run Value = look (eval s.doc c.args.depth) c.args.depth in
    let first : Run Value = or_mistyped (only_of c.args.values.now) in
    let made : Value → Run Value = applied_to c.args.f c.args.site.now.slot in
    let v = c.in_ok-value.value in
    let p = err_from_is_err_and c.from_residual-in_err-content.result
    c.from_residual-in_err-content.ensures.1 in
    let gave = ran_made s first (g.C.Cells.asked c.args.cells.now) (Ok v)
    (plain_only c.args.values.now) c.in_ok-value.ensures.exact in
    goes_on s _ first (λ v. and_then (f v) made) v _ _ _ c.from_residual-in_err-content.result
    (then_then first f made) c.requires.can gave
    (stops s (and_then (f v) made) (f v) made _ _ c.in_err-content.field-0.0 p.0
    c.from_residual-in_err-content.result refl
    (can_go_on s _ first (λ v. and_then (f v) made) v _ _ (then_then first f made) c.requires.can
    gave) c.in_err-content.ensures.ran p.1 p.2)

pub returns-clause-ran : goal.returns-clause-ran
returns-clause-ran g c =
    let s = g.S.InScope.scope in
    let f : Value → Run Value = look (eval s.doc c.args.depth) c.args.depth in
    let first : Run Value = or_mistyped (only_of c.args.values.now) in
    let made : Value → Run Value = applied_to c.args.f c.args.site.now.slot in
    let v = c.in_ok-value.value in
    let gave = ran_made s first (g.C.Cells.asked c.args.cells.now) (Ok v)
    (plain_only c.args.values.now) c.in_ok-value.ensures.exact in
    goes_on s _ first (λ v. and_then (f v) made) v _ _ _ c.applied_to.result
    (then_then first f made) c.requires.can gave
    (goes_on s (and_then (f v) made) (f v) made c.in_ok-content.content _ _ _ c.applied_to.result
    refl
    (can_go_on s _ first (λ v. and_then (f v) made) v _ _ (then_then first f made) c.requires.can
    gave) c.in_ok-content.ensures.ran
    (ran_in s c.site.inside.slot c.args.site.now.slot
    (λ n. applied_to c.args.f n c.in_ok-content.content) _ c.applied_to.result
    (ap (λ (u : Site). u.slot) c.site.view_is)
    (plain_applied c.args.f c.site.inside.slot c.in_ok-content.content)
    c.applied_to.ensures.exact))
