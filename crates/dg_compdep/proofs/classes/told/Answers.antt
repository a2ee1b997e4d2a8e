use Rattle.std.proofs.Common.{List, Bool, false, get_or, ap, ◌∙◌}
use Rattle.dg_compdep.proofs.BelowLemmas.{row_read, no_row_read}
use Rattle.dg_compdep.proofs.classes.told.Goals as goal

pub returns-in-Some : goal.returns-in-Some
returns-in-Some c = record {
  exact = c.test_at.ensures.exact
      ∙ ap (λ (r : List Bool). get_or r c.args.number false)
      (c.as_slice.ensures.value ∙ row_read c.args.rows.now c.args.row c.in-Some.tests.now
      c.in-Some.ensures);
}

pub returns-in-None : goal.returns-in-None
returns-in-None c = record {
  exact = ap (λ (r : List Bool). get_or r c.args.number false)
      (no_row_read c.args.rows.now c.args.row c.in-None.ensures);
}
