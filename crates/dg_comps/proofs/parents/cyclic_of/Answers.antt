use Rattle.std.proofs.Common.{◌≡◌, arith}
use Rattle.dg_comps.proofs.ParentLemmas.{cyclic_by_sets}
use Rattle.dg_comps.proofs.parents.cyclic_of.Goals as goal

pub returns : goal.returns
returns c = record {
  exact = cyclic_by_sets c.args.names.now c.args.sets.now c.cyclic_classes.result c.requires.sets
      c.cyclic_classes.ensures.exact;
}
