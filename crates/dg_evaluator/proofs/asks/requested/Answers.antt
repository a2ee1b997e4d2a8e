use Rattle.std.proofs.Common.{is_some, sym, ap}
use Rattle.dg_requests.proofs.RanLemmas.{can_as, ran_as}
use Rattle.dg_evaluator.proofs.EndLemmas.{fits_so, mistyped_ran}
use Rattle.dg_evaluator.proofs.PathLemmas.{entry_slot_is, requested_is, not_requested}
use Rattle.dg_evaluator.proofs.asks.requested.Goals as goal

pub only_given-requires-clause-there : goal.only_given-requires-clause-there
only_given-requires-clause-there g c =
    let s = g.S.InScope.scope in
    ap is_some
    (entry_slot_is s.doc c.args.plan.now c.args.world.now
    (fits_so s c.args.plan.now c.args.world.now c.requires.fit) c.args.ask.now c.in-Some.slot
    c.in-Some.ensures.exact).is_node

pub only_given-requires-clause-can : goal.only_given-requires-clause-can
only_given-requires-clause-can g c =
    let s = g.S.InScope.scope in
    can_as s _ _
    (requested_is s.doc c.args.ask.now c.in-Some.slot c.args.place.now
    (entry_slot_is s.doc c.args.plan.now c.args.world.now
    (fits_so s c.args.plan.now c.args.world.now c.requires.fit) c.args.ask.now c.in-Some.slot
    c.in-Some.ensures.exact)) c.requires.can

pub returns-in-Some-clause-ran : goal.returns-in-Some-clause-ran
returns-in-Some-clause-ran g c =
    let s = g.S.InScope.scope in
    ran_as s _ _ _ _ c.only_given.result
    (sym (requested_is s.doc c.args.ask.now c.in-Some.slot c.args.place.now
    (entry_slot_is s.doc c.args.plan.now c.args.world.now
    (fits_so s c.args.plan.now c.args.world.now c.requires.fit) c.args.ask.now c.in-Some.slot
    c.in-Some.ensures.exact))) c.only_given.ensures.ran

pub returns-in-None-clause-ran : goal.returns-in-None-clause-ran
returns-in-None-clause-ran g c =
    let s = g.S.InScope.scope in
    mistyped_ran s _ _ c.mistyped.result
    (not_requested s.doc c.args.plan.now c.args.world.now
    (fits_so s c.args.plan.now c.args.world.now c.requires.fit) c.args.ask.now c.args.place.now
    c.in-None.ensures.exact) c.mistyped.ensures.exact
