use Rattle.std.proofs.Common.{◌∙◌}
use Rattle.dg_compdep.proofs.NamedLemmas as lemmas
use Rattle.dg_compdep.proofs.named.Named.has.Goals as goal

pub returns : goal.returns
returns c = record {
  exact = c.contains.ensures
      ∙ lemmas.has c.in_ok-pair.pair c.self.inside.pairs.keys c.args.class c.args.name.now
      c.args.self.now
      c.in_ok-pair.ensures.class c.in_ok-pair.ensures.name c.self.view_is;
}
