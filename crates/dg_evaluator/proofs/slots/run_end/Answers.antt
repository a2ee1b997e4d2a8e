use Rattle.std.proofs.Common.{◌≡◌, ap, is_some}
use Rattle.std.proofs.lemmas.Result.{err_from_is_err_and}
use Rattle.dg_eval.specs.Meaning.{eval}
use Rattle.dg_requests.specs.Results.{ends}
use Rattle.dg_evaluator.proofs.SlotLemmas.{given_can, given_next_as, given_then_as, given_stops, run_by}
use Rattle.dg_evaluator.proofs.CalledLemmas.{run_awaits}
use Rattle.dg_evaluator.proofs.slots.run_end.Goals as goal

pub given-requires-clause-there : goal.given-requires-clause-there
given-requires-clause-there g c = ap is_some c.requires.body.is_node

pub given-requires-clause-can : goal.given-requires-clause-can
given-requires-clause-can g c =
    let s = g.S.InScope.scope in
    given_can s (eval s.doc c.args.depth) c.args.inst c.args.slot c.args.place.now _ _
    (run_by s.doc c.requires.fit.accepted (eval s.doc c.args.depth) c.args.depth c.args.inst
    c.args.slot c.args.place.now c.args.body.now c.requires.body) c.requires.can

pub returns-in_err-values-clause-ran : goal.returns-in_err-values-clause-ran
returns-in_err-values-clause-ran g c =
    let s = g.S.InScope.scope in
    let p = err_from_is_err_and c.from_residual.result c.from_residual.ensures.1 in
    let same : p.0 ≡ c.in_err-values.field-0.0 = (let e = p.2 in cc) in
    given_stops s (eval s.doc c.args.depth) c.args.inst c.args.slot c.args.place.now _ _ _ _ _ p.0
    (ends c.from_residual.result)
    (run_by s.doc c.requires.fit.accepted (eval s.doc c.args.depth) c.args.depth c.args.inst
    c.args.slot c.args.place.now c.args.body.now c.requires.body) c.requires.can
    c.in_err-values.ensures.ran (ap ends p.1) same

pub tree_end-requires-clause-awaits : goal.tree_end-requires-clause-awaits
tree_end-requires-clause-awaits g c = λ p v called at.
    let s = g.S.InScope.scope in
    run_awaits s c.requires.fit.accepted (eval s.doc c.args.depth) c.args.inst c.args.slot
    c.args.place.now c.args.body.now _ _ c.in_ok-values.values c.as_slice.result.now p v
    c.as_slice.ensures c.requires.body c.in_ok-values.ensures.ran called at

pub tree_end-requires-clause-can : goal.tree_end-requires-clause-can
tree_end-requires-clause-can g c =
    let s = g.S.InScope.scope in
    given_next_as s (eval s.doc c.args.depth) c.args.inst c.args.slot c.args.place.now _ _ _ _
    c.in_ok-values.values c.as_slice.result.now c.as_slice.ensures
    (run_by s.doc c.requires.fit.accepted (eval s.doc c.args.depth) c.args.depth c.args.inst
    c.args.slot c.args.place.now c.args.body.now c.requires.body) c.requires.can
    c.in_ok-values.ensures.ran

pub returns-clause-ran : goal.returns-clause-ran
returns-clause-ran g c =
    let s = g.S.InScope.scope in
    given_then_as s (eval s.doc c.args.depth) c.args.inst c.args.slot c.args.place.now _ _ _ _ _
    c.in_ok-values.values c.as_slice.result.now (ends c.tree_end.result) c.as_slice.ensures
    (run_by s.doc c.requires.fit.accepted (eval s.doc c.args.depth) c.args.depth c.args.inst
    c.args.slot c.args.place.now c.args.body.now c.requires.body) c.requires.can
    c.in_ok-values.ensures.ran c.tree_end.ensures.ran
