use Rattle.dg_eval.specs.Meaning.{eval}
use Rattle.dg_requests.proofs.CallLemmas.{got_nothing}
use Rattle.dg_requests.proofs.calls.got.Goals as goal

pub returns-in_default : goal.returns-in_default
returns-in_default g c = record {
  ran = got_nothing g.S.InScope.scope (eval g.S.InScope.scope.doc c.args.depth) c.args.place
      c.args.value.now _ c.mistyped.result c.in_default.not-Provider c.in_default.not-ProviderLazy
      c.in_default.not-Lazy c.mistyped.ensures.exact;
  same = c.requires.same;
}
