use Rattle.std.proofs.Common.{◌∙◌}
use Rattle.dg_compdep.proofs.TieLemmas.{found}
use Rattle.dg_compdep.proofs.ties.Ties.index_of.Goals as goal

pub returns : goal.returns
returns c = record {
  exact = c.copied.ensures ∙ c.get.ensures.value
      ∙ found c.in_ok-key.key c.self.inside.indices.entries c.args.from.now c.args.class
      c.args.self.now c.in_ok-key.ensures.from c.in_ok-key.ensures.class c.self.view_is;
}
