use Rattle.std.proofs.Common.{◌≡◌, ◌∙◌, ap}
use Rattle.std.specs.List.{list_any}
use Rattle.dg_decl.specs.Components.{class_count, ancestors, carries}
use Rattle.dg_comps.specs.ClassSets.{has}
use Rattle.dg_comps.specs.ClassTables.{set_of}
use Rattle.dg_comps.proofs.ParentLemmas.{any_same, ancestors_below}
use Rattle.dg_comps.proofs.stage.is_carried.Goals as goal

pub returns : goal.returns
returns c = record {
  exact = λ doc class knows over. c.meet.ensures.exact (ancestors doc class) over
      ∙ ap (λ set. list_any (has set) (ancestors doc class)) c.set_of.ensures.exact
      ∙ any_same (has (set_of c.args.scope.now c.args.carriers.now))
      (carries doc c.args.scope.now) (class_count doc) (ancestors doc class)
      (ancestors_below doc class) (knows c.args.scope.now);
}
