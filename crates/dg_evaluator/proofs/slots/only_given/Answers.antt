use Rattle.std.proofs.Common.{◌≡◌}
use Rattle.std.proofs.lemmas.Result.{err_from_is_err_and}
use Rattle.dg_eval.specs.Meaning.{eval}
use Rattle.dg_eval.specs.Operations.{only_of}
use Rattle.dg_evaluator.proofs.SlotLemmas.{given_can, given_plain, given_stops, quiet_option, only_by}
use Rattle.dg_evaluator.proofs.slots.only_given.Goals as goal

pub given-requires-clause-can : goal.given-requires-clause-can
given-requires-clause-can g c =
    let s = g.S.InScope.scope in
    given_can s (eval s.doc c.args.depth) c.args.inst c.args.slot c.args.place.now _ _
    (only_by s.doc (eval s.doc c.args.depth) c.args.inst c.args.slot c.args.place.now
    c.requires.there) c.requires.can

pub returns-in_err-values-clause-ran : goal.returns-in_err-values-clause-ran
returns-in_err-values-clause-ran g c =
    let s = g.S.InScope.scope in
    let p = err_from_is_err_and c.from_residual.result c.from_residual.ensures.1 in
    let same : p.0 ≡ c.in_err-values.field-0.0 = (let e = p.2 in cc) in
    given_stops s (eval s.doc c.args.depth) c.args.inst c.args.slot c.args.place.now _ _ _ _ _ p.0
    c.from_residual.result
    (only_by s.doc (eval s.doc c.args.depth) c.args.inst c.args.slot c.args.place.now
    c.requires.there) c.requires.can c.in_err-values.ensures.ran p.1 same

pub returns-clause-ran : goal.returns-clause-ran
returns-clause-ran g c =
    let s = g.S.InScope.scope in
    given_plain s (eval s.doc c.args.depth) c.args.inst c.args.slot c.args.place.now _ _ _ _
    c.in_ok-values.values c.only.result
    (only_by s.doc (eval s.doc c.args.depth) c.args.inst c.args.slot c.args.place.now
    c.requires.there) c.requires.can c.in_ok-values.ensures.ran
    (quiet_option (only_of c.in_ok-values.values)) c.only.ensures.exact
