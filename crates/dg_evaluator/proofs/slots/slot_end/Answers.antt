use Rattle.dg_eval.specs.Meaning.{eval}
use Rattle.dg_requests.specs.Results.{ends}
use Rattle.dg_evaluator.proofs.EndLemmas.{fits_so, slot_so, not_so, mistyped_ran, ends_gave}
use Rattle.dg_evaluator.proofs.slots.slot_end.Goals as goal

pub body_end-requires-clause-slot : goal.body_end-requires-clause-slot
body_end-requires-clause-slot g c =
    let s = g.S.InScope.scope in
    slot_so s.doc c.args.inst c.args.slot c.in-Some.found.now
    (c.in-Some.ensures.exact s.doc (fits_so s c.args.plan.now c.args.world.now c.requires.fit))

pub returns-in-None-clause-ran : goal.returns-in-None-clause-ran
returns-in-None-clause-ran g c =
    let s = g.S.InScope.scope in
    mistyped_ran s _ _ (ends c.mistyped.result)
    (not_so s.doc (eval s.doc c.args.depth) c.args.depth c.args.inst c.args.slot c.args.place.now
    (c.in-None.ensures.exact s.doc
    (fits_so s c.args.plan.now c.args.world.now c.requires.fit)))
    (ends_gave c.mistyped.result c.mistyped.ensures.exact)
