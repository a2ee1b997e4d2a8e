use Rattle.dg_eval.specs.Meaning.{look, eval}
use Rattle.dg_evaluator.proofs.SetLemmas.{outcome_can, outcome_alone}
use Rattle.dg_evaluator.proofs.multi.outcomes_in.Goals as goal

pub outcomes_behind-requires-clause-can : goal.outcomes_behind-requires-clause-can
outcomes_behind-requires-clause-can g c =
    let s = g.S.InScope.scope in
    outcome_can s (look (eval s.doc c.args.depth) c.args.depth) c.args.value.now
    c.in-Some.set.now c.in_ok-copy-in-Some.field-0 c.in-Some.ensures.exact
    c.in_ok-copy-in-Some.ensures.exact
    c.requires.can

pub returns-in_ok-alone-in-None-clause-ran : goal.returns-in_ok-alone-in-None-clause-ran
returns-in_ok-alone-in-None-clause-ran g c =
    let s = g.S.InScope.scope in
    outcome_alone s (look (eval s.doc c.args.depth) c.args.depth) c.args.value.now _
    c.in_ok-alone-in-None.field-0 c.in-None.ensures.exact c.in_ok-alone-in-None.ensures.exact
