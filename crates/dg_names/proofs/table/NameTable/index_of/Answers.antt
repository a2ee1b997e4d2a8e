use Rattle.std.proofs.Common.{ap, ◌∙◌}
use Rattle.dg_names.specs.Tables.{index_in}
use Rattle.dg_names.proofs.TableLemmas.{lookup-seen}
use Rattle.dg_names.proofs.table.NameTable.index_of.Goals as goal

pub returns : goal.returns
returns c = record {
  exact = c.copied.ensures ∙ c.get.ensures.value
      ∙ lookup-seen (λ k. k.items) c.args.name.now c.self.inside.indices.entries
      ∙ ap (index_in c.args.name.now) c.self.view_is;
}
