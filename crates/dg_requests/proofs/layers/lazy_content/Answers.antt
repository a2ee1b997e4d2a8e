use Rattle.dg_eval.specs.Meaning.{eval}
use Rattle.dg_requests.proofs.LayerLemmas.{can_inside, ran_inside}
use Rattle.dg_requests.proofs.layers.lazy_content.Goals as goal

pub instance-requires-clause-can : goal.instance-requires-clause-can
instance-requires-clause-can g c =
    can_inside g.S.InScope.scope (eval g.S.InScope.scope.doc c.args.depth) c.args.inst c.args.slot
    c.args.place.now c.in-Ok.inside c.in-Ok.ensures.exact c.requires.can

pub returns-in-Ok-clause-ran : goal.returns-in-Ok-clause-ran
returns-in-Ok-clause-ran g c =
    ran_inside g.S.InScope.scope (eval g.S.InScope.scope.doc c.args.depth) c.args.inst c.args.slot
    c.args.place.now c.in-Ok.inside _ _ _ c.in-Ok.ensures.exact c.instance.ensures.ran
