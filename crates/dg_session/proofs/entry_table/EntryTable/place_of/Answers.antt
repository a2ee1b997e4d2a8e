use Rattle.std.proofs.Common.{ap, ◌∙◌}
use Rattle.dg_session.specs.EntryTables.{place_in}
use Rattle.dg_session.proofs.EntryTableLemmas.{lookup-seen}
use Rattle.dg_session.proofs.entry_table.EntryTable.place_of.Goals as goal

pub returns : goal.returns
returns c = record {
  exact = c.copied.ensures ∙ c.get.ensures.value
      ∙ lookup-seen (λ k. k.items) c.args.name.now c.self.inside.places.entries
      ∙ ap (place_in c.args.name.now) c.self.view_is;
}
