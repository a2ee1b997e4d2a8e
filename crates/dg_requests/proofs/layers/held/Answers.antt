use Rattle.dg_requests.proofs.LayerLemmas.{can_held, ran_held}
use Rattle.dg_requests.proofs.layers.held.Goals as goal

pub content-requires-clause-can : goal.content-requires-clause-can
content-requires-clause-can g c = can_held g.S.InScope.scope _ _ _ c.requires.can

pub returns-clause-ran : goal.returns-clause-ran
returns-clause-ran g c =
    ran_held g.S.InScope.scope _ _ _ _ _ _ _ c.requires.can c.content.ensures.ran
    c.as_held.ensures.exact
