use Rattle.std.proofs.Common.{◌≡◌, is_some, ap}
use Rattle.std.proofs.lemmas.Result.{err_from_is_err_and}
use Rattle.dg_eval.specs.Meaning.{eval}
use Rattle.dg_evaluator.proofs.SlotLemmas.{given_can, given_plain, given_stops, quiet_optional, optional_by}
use Rattle.dg_evaluator.proofs.slots.optional_value.Goals as goal

pub given-requires-clause-there : goal.given-requires-clause-there
given-requires-clause-there g c = ap is_some c.requires.body.1.is_node

pub given-requires-clause-can : goal.given-requires-clause-can
given-requires-clause-can g c =
    let s = g.S.InScope.scope in
    given_can s (eval s.doc c.args.depth) c.args.inst c.args.slot c.args.place.now _ _
    (optional_by s.doc c.args.depth c.args.inst c.args.slot c.args.place.now c.requires.body.0
    c.requires.body.1) c.requires.can

pub returns-in_err-values-clause-ran : goal.returns-in_err-values-clause-ran
returns-in_err-values-clause-ran g c =
    let s = g.S.InScope.scope in
    let p = err_from_is_err_and c.from_residual.result c.from_residual.ensures.1 in
    let same : p.0 ≡ c.in_err-values.field-0.0 = (let e = p.2 in cc) in
    given_stops s (eval s.doc c.args.depth) c.args.inst c.args.slot c.args.place.now _ _ _ _ _ p.0
    c.from_residual.result
    (optional_by s.doc c.args.depth c.args.inst c.args.slot c.args.place.now c.requires.body.0
    c.requires.body.1) c.requires.can c.in_err-values.ensures.ran p.1 same

pub returns-clause-ran : goal.returns-clause-ran
returns-clause-ran g c =
    let s = g.S.InScope.scope in
    given_plain s (eval s.doc c.args.depth) c.args.inst c.args.slot c.args.place.now _ _ _ _
    c.in_ok-values.values c.optional.result
    (optional_by s.doc c.args.depth c.args.inst c.args.slot c.args.place.now c.requires.body.0
    c.requires.body.1) c.requires.can c.in_ok-values.ensures.ran
    (quiet_optional c.in_ok-values.values) c.optional.ensures.exact
