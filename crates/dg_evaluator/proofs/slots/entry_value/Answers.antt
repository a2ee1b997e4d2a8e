use Rattle.std.proofs.Common.{is_some, sym, ap}
use Rattle.dg_requests.proofs.RanLemmas.{can_as, ran_as}
use Rattle.dg_evaluator.proofs.SlotLemmas.{entry_same}
use Rattle.dg_evaluator.proofs.slots.entry_value.Goals as goal

pub only_given-requires-clause-there : goal.only_given-requires-clause-there
only_given-requires-clause-there g c = ap is_some c.requires.body.is_node

pub only_given-requires-clause-can : goal.only_given-requires-clause-can
only_given-requires-clause-can g c =
    let s = g.S.InScope.scope in
    can_as s _ _
    (sym (entry_same s.doc c.args.depth c.args.inst c.args.slot c.args.place.now c.requires.body))
    c.requires.can

pub returns-clause-ran : goal.returns-clause-ran
returns-clause-ran g c =
    let s = g.S.InScope.scope in
    ran_as s _ _ _ _ c.only_given.result
    (entry_same s.doc c.args.depth c.args.inst c.args.slot c.args.place.now c.requires.body)
    c.only_given.ensures.ran
