use Rattle.dg_evaluator.specs.Answers.{reaches}
use Rattle.dg_evaluator.proofs.PathLemmas.{field_ran, got_can, got_ran, entry_ran, inside_ran}
use Rattle.dg_evaluator.proofs.asks.stepped.Goals as goal

pub returns-in-Field-clause-ran : goal.returns-in-Field-clause-ran
returns-in-Field-clause-ran g c =
    field_ran g.S.InScope.scope c.args.place c.args.step.now c.in-Field.index c.args.value.now _
    c.field.result (reaches c.came_to.result) c.in-Field.is c.requires.can c.field.ensures.exact
    c.came_to.ensures.exact

pub got-requires-clause-can : goal.got-requires-clause-can
got-requires-clause-can g c =
    got_can g.S.InScope.scope c.args.place c.args.step.now c.args.value.now c.in-Get.is
    c.requires.can

pub returns-in-Get-clause-ran : goal.returns-in-Get-clause-ran
returns-in-Get-clause-ran g c =
    got_ran g.S.InScope.scope c.args.place c.args.step.now c.args.value.now _ _ c.got.result
    (reaches c.came_to-in-Get.result) c.in-Get.is c.requires.can c.got.ensures.ran
    c.came_to-in-Get.ensures.exact

pub returns-in-At-clause-ran : goal.returns-in-At-clause-ran
returns-in-At-clause-ran g c =
    entry_ran g.S.InScope.scope c.args.place c.args.step.now c.in-At.key c.args.value.now _
    (reaches c.entry_at.result) c.in-At.is c.entry_at.ensures.exact

pub returns-in-Inside-clause-ran : goal.returns-in-Inside-clause-ran
returns-in-Inside-clause-ran g c =
    inside_ran g.S.InScope.scope c.args.place c.args.step.now c.args.value.now _
    (reaches c.inside_of.result) c.in-Inside.is c.inside_of.ensures.exact
