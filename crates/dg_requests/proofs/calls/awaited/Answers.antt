use Rattle.dg_eval.specs.Meaning.{eval}
use Rattle.dg_requests.proofs.CallLemmas.{awaits_nothing}
use Rattle.dg_requests.proofs.calls.awaited.Goals as goal

pub returns-in_default : goal.returns-in_default
returns-in_default g c = record {
  ran = awaits_nothing g.S.InScope.scope (eval g.S.InScope.scope.doc c.args.depth) c.args.depth
      c.args.place c.args.value.now _ c.mistyped.result c.in_default.not-Provider
      c.mistyped.ensures.exact;
  same = c.requires.same;
}
