use Rattle.std.proofs.Common.{sym}
use Rattle.dg_value.specs.declared.value.Value.{out-Value}
use Rattle.dg_eval.specs.Meaning.{look, eval}
use Rattle.dg_requests.proofs.RanLemmas.{ran_as}
use Rattle.dg_bodies.specs.Elements.{keyed_at}
use Rattle.dg_bodies.proofs.EntryLemmas.{values_none, plain_keyed}
use Rattle.dg_bodies.proofs.PlainRuns.{ran_made}
use Rattle.dg_bodies.proofs.sets.values_in.Goals as goal

pub returns-in-None-clause-ran : goal.returns-in-None-clause-ran
returns-in-None-clause-ran g c =
    let s = g.S.InScope.scope in
    let l = out-Value c.args.v.now in
    ran_as s (keyed_at l) _ _ _ c.keyed_at.result
    (sym (values_none (look (eval s.doc c.args.depth) c.args.depth) l
    (sym c.in-None.ensures.exact)))
    (ran_made s (keyed_at l) _ c.keyed_at.result (plain_keyed l) c.keyed_at.ensures.exact)
