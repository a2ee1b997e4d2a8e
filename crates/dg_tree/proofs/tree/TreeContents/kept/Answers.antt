use Rattle.std.proofs.Common.{ap, ◌∙◌}
use Rattle.dg_value.specs.Contents.{content_in}
use Rattle.dg_tree.specs.Stores.{Stored}
use Rattle.dg_tree.proofs.StoreLemmas.{looked_up}
use Rattle.dg_tree.proofs.tree.TreeContents.kept.Goals as goal

pub returns : goal.returns
returns g c = record {
  exact = c.get.ensures.value ∙ looked_up c.self.inside.cells.entries c.args.inst c.args.slot
      ∙ ap (λ (s : Stored). content_in s.cells c.args.inst c.args.slot) c.self.view_is;
}
