use Rattle.std.proofs.Common.{Some, None, ap, ◌∙◌}
use Rattle.dg_decl.specs.declared.document.Doc.{Doc}
use Rattle.dg_decl.specs.Names.{item_at}
use Rattle.dg_session.proofs.EntryLemmas.{entry_found}
use Rattle.dg_session.proofs.entries.entry_named.Goals as goal

pub returns-in-Some : goal.returns-in-Some
returns-in-Some c = record {
  exact = c.item_at.ensures.exact
      ∙ ap (λ (d : Doc). item_at d c.in-Some.entry) c.names.ensures.exact
      ∙ entry_found c.args.scene.now c.args.class c.args.name.now (Some c.in-Some.entry)
      c.in-Some.ensures.exact;
}

pub returns-in-None : goal.returns-in-None
returns-in-None c = record {
  exact = entry_found c.args.scene.now c.args.class c.args.name.now None c.in-None.ensures.exact;
}
