use Rattle.std.proofs.Common.{ap, ◌∙◌, arith}
use Rattle.dg_decl.specs.Document.{Statement}
use Rattle.dg_compdep.proofs.OpenedLemmas.{opened_early, opened_late, opened_never}
use Rattle.dg_compdep.proofs.opened.opened_before.Goals as goal

pub returns-then-index-s : goal.returns-then-index-s
returns-then-index-s c = record {
  exact = c.statement.ensures.exact
      ∙ opened_early c.args.names.now c.args.s.now c.args.name.now c.in-Some.index
      c.in-Some.ensures.exact
      (omega (arith, ap (λ (x : Statement). x.index) c.s.view_is));
}

pub returns-else-index-s : goal.returns-else-index-s
returns-else-index-s c = record {
  exact = opened_late c.args.names.now c.args.s.now c.args.name.now c.in-Some.index
      c.in-Some.ensures.exact
      (omega (arith, ap (λ (x : Statement). x.index) c.s.view_is));
}

pub returns-in-None : goal.returns-in-None
returns-in-None c = record {
  exact = opened_never c.args.names.now c.args.s.now c.args.name.now c.in-None.ensures.exact;
}
