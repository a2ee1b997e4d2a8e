use Rattle.std.proofs.Common.{◌≡◌}
use Rattle.std.proofs.lemmas.Result.{err_from_is_err_and}
use Rattle.dg_evaluator.proofs.EndLemmas.{end_first_can, at_end_can, at_end_ran, at_end_stops}
use Rattle.dg_evaluator.proofs.slots.value_of.Goals as goal

pub slot_end-requires-clause-can : goal.slot_end-requires-clause-can
slot_end-requires-clause-can g c =
    end_first_can g.S.InScope.scope c.args.depth c.args.inst c.args.slot c.args.place.now
    c.requires.can

pub returns-in_err-end-clause-ran : goal.returns-in_err-end-clause-ran
returns-in_err-end-clause-ran g c =
    let p = err_from_is_err_and c.from_residual.result c.from_residual.ensures.1 in
    let same : p.0 ≡ c.in_err-end.field-0.0 = (let e = p.2 in cc) in
    at_end_stops g.S.InScope.scope c.args.depth c.args.inst c.args.slot c.args.place.now _ _ _ p.0
    c.from_residual.result c.requires.can c.in_err-end.ensures.ran p.1 same

pub value_at-requires-clause-can : goal.value_at-requires-clause-can
value_at-requires-clause-can g c =
    at_end_can g.S.InScope.scope c.args.depth c.args.inst c.args.slot c.args.place.now _ _ _
    c.requires.can c.in_ok-end.ensures.ran

pub returns-clause-ran : goal.returns-clause-ran
returns-clause-ran g c =
    at_end_ran g.S.InScope.scope c.args.depth c.args.inst c.args.slot c.args.place.now _ _ _ _
    c.value_at.result c.requires.can c.in_ok-end.ensures.ran c.value_at.ensures.ran
