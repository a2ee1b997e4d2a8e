use Rattle.std.proofs.Common.{nat_eq, sym, ◌∙◌}
use Rattle.dg_comps.specs.ClassSets.{has}
use Rattle.dg_comps.proofs.ParentLemmas.{own_then, own_else}
use Rattle.dg_comps.proofs.parents.with_own.Goals as goal

pub returns-then-holds : goal.returns-then-holds
returns-then-holds c = record {
  exact = λ o. own_then (has c.args.cyclic o) (nat_eq o c.args.class)
      (has c.args.set c.args.class) _
      (sym c.holds.ensures.exact ∙ c.if-holds.true) (c.with.ensures.exact o);
}

pub returns-else-holds : goal.returns-else-holds
returns-else-holds c = record {
  exact = λ o. own_else (has c.args.cyclic o) (nat_eq o c.args.class) (has c.args.set c.args.class)
      (sym c.holds.ensures.exact ∙ c.if-holds.false);
}
