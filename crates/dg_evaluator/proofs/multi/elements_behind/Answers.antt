use Rattle.dg_eval.specs.Meaning.{look, eval}
use Rattle.dg_eval.specs.Operations.{elements_in}
use Rattle.dg_evaluator.proofs.RestLemmas.{then_plain}
use Rattle.dg_evaluator.proofs.SetLemmas.{quiet_elements}
use Rattle.dg_evaluator.proofs.multi.elements_behind.Goals as goal

pub returns-clause-ran : goal.returns-clause-ran
returns-clause-ran g c =
    let s = g.S.InScope.scope in
    then_plain s (look (eval s.doc c.args.depth) c.args.depth c.args.value) elements_in
    c.in_ok-set.set _ _ c.elements_of.result c.requires.can c.in_ok-set.ensures.ran
    (quiet_elements c.in_ok-set.set) c.elements_of.ensures.exact
