use Rattle.std.proofs.Common.{sym}
use Rattle.dg_requests.specs.Results.{ends}
use Rattle.dg_requests.proofs.RanLemmas.{can_as, ran_as}
use Rattle.dg_evaluator.proofs.EndLemmas.{whole_is}
use Rattle.dg_evaluator.proofs.slots.whole_end.Goals as goal

pub slot_end-requires-clause-can : goal.slot_end-requires-clause-can
slot_end-requires-clause-can g c =
    let s = g.S.InScope.scope in
    can_as s _ _ (whole_is s.doc c.args.inst c.args.slot c.args.place.now) c.requires.can

pub returns-clause-ran : goal.returns-clause-ran
returns-clause-ran g c =
    let s = g.S.InScope.scope in
    ran_as s _ _ _ _ (ends c.slot_end.result)
    (sym (whole_is s.doc c.args.inst c.args.slot c.args.place.now)) c.slot_end.ensures.ran
