use Rattle.std.proofs.Common.{◌==◌, length, Some, None}
use Rattle.dg_resolve.specs.Chains.{parent_at}
use Rattle.dg_plan.proofs.LevelLemmas.{place_there}
use Rattle.dg_plan.proofs.levels.place_on_chain.Goals as goal

pub returns-in-Some : goal.returns-in-Some
returns-in-Some c = record {
  exact = place_there (λ x. x == c.args.above) (parent_at c.args.classes.now)
      (length c.args.classes.now) c.args.class (Some c.in-Some.place) c.in-Some.ensures.exact;
}

pub returns-in-None : goal.returns-in-None
returns-in-None c = record {
  exact = place_there (λ x. x == c.args.above) (parent_at c.args.classes.now)
      (length c.args.classes.now) c.args.class None c.in-None.ensures.exact;
}
