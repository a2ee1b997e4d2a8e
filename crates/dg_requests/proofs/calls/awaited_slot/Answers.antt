use Rattle.dg_eval.specs.Meaning.{eval}
use Rattle.dg_requests.proofs.GivingLemmas.{fit_is_context}
use Rattle.dg_requests.proofs.CallLemmas.{ran_producer}
use Rattle.dg_requests.proofs.calls.awaited_slot.Goals as goal

pub returns-in-Some-clause-ran : goal.returns-in-Some-clause-ran
returns-in-Some-clause-ran g c =
    let doc = g.S.InScope.scope.doc in
    let of = fit_is_context g.S.InScope.scope c.args.plan.now c.args.world.now c.requires.fit in
    let n = c.requires.fits in
    ran_producer g.S.InScope.scope (eval doc c.args.depth) c.args.depth c.args.inst c.args.slot
    c.args.place n.0 c.in-Some.end _ _ n.1 c.in-Some.is
    (c.producer_behind.ensures.exact doc of n.0 n.1 n.2 n.3) c.requires.can
