use Rattle.std.proofs.Common.{◌∙◌}
use Rattle.dg_comps.proofs.StatementLemmas.{header_item_at}
use Rattle.dg_comps.proofs.headers.header_item.Goals as goal

pub returns-in-Some : goal.returns-in-Some
returns-in-Some c = record {
  exact = c.item_at.ensures.exact ∙ header_item_at c.args.names.now c.args.class c.in-Some.index
      c.in-Some.ensures.exact;
}
