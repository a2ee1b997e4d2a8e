use Rattle.std.proofs.Common.{ℕ, ◌==◌, List, position, unwrap_or, ap, ◌∙◌}
use Rattle.dg_plan.proofs.LevelLemmas.{chain_there}
use Rattle.dg_plan.proofs.levels.level_of.Goals as goal

pub returns : goal.returns
returns c = record {
  exact = c.in_ok-number.ensures.exact ∙ c.place_on_chain.ensures.exact
      ∙ ap (λ (l : List ℕ). unwrap_or (position (λ x. x == c.args.above) l) 0)
      (chain_there c.args.dependencies.now c.as_slice-classes.result.now c.args.class
      (c.as_slice-classes.ensures ∙ c.tree.ensures.exact));
}
