use Rattle.std.proofs.Common.{◌≡◌, List, [], ap, ◌∙◌}
use Rattle.dg_bodies.specs.declared.element_key.ElementKey.{ElementKey}
use Rattle.dg_bodies.specs.ElementKeys.{kept_by}
use Rattle.dg_bodies.proofs.ElementKeyLemmas.{kept_from_nothing}
use Rattle.dg_bodies.proofs.sets.distinct.Goals as goal

pub returns : goal.returns
returns c = record {
  exact = c.in_ok-kept.ensures.exact
      ∙ ap (λ (keys : List ElementKey). kept_by [] keys c.args.values.now c.args.contents.now)
      c.new-noted.ensures.empty
      ∙ kept_from_nothing c.args.values.now c.args.contents.now;
}
