use Rattle.dg_eval.specs.Meaning.{look, eval}
use Rattle.dg_evaluator.proofs.SetLemmas.{values_can, values_ran}
use Rattle.dg_evaluator.proofs.multi.set_of_added.Goals as goal

pub set_of-requires-clause-can : goal.set_of-requires-clause-can
set_of-requires-clause-can g c =
    let s = g.S.InScope.scope in
    values_can s c.args.of_outcomes (look (eval s.doc c.args.depth) c.args.depth) c.args.values
    c.as_slice.result.now c.if-of_outcomes.false c.as_slice.ensures c.requires.can

pub returns-else-of_outcomes-clause-ran : goal.returns-else-of_outcomes-clause-ran
returns-else-of_outcomes-clause-ran g c =
    let s = g.S.InScope.scope in
    values_ran s c.args.of_outcomes (look (eval s.doc c.args.depth) c.args.depth) c.args.values
    c.as_slice.result.now _ _ c.set_of.result c.if-of_outcomes.false c.as_slice.ensures
    c.set_of.ensures.ran
