use Rattle.dg_requests.proofs.GivingLemmas.{ran_outcome}
use Rattle.dg_requests.proofs.giving.produced.Goals as goal

pub returns-clause-ran : goal.returns-clause-ran
returns-clause-ran g c =
    ran_outcome g.S.InScope.scope _ _ _ _ _ c.instance.ensures.ran c.as_outcome.ensures.exact
