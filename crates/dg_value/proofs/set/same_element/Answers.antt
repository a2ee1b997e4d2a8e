use Rattle.std.proofs.Common.{◌∙◌}
use Rattle.dg_value.proofs.ElementLemmas.{ints}
use Rattle.dg_value.proofs.set.same_element.Goals as goal

pub returns-in-Int-Int : goal.returns-in-Int-Int
returns-in-Int-Int c = record {
  exact = c.same_int.ensures.exact ∙ ints _ _ _ _ c.in-Int-Int.is-0 c.in-Int-Int.is-1;
}
