use Rattle.dg_resolve.proofs.QueryLemmas.{chains_are, few_classes}
use Rattle.dg_resolve.proofs.tables.chains_of.Goals as goal

pub chains-requires : goal.chains-requires
chains-requires c = few_classes c.args.names.now c.args.classes.now c.requires.bounded c.requires.classes

pub returns : goal.returns
returns c = record {
  exact = chains_are c.args.names.now c.args.classes.now _ c.requires.classes c.in_ok-chains.ensures.exact;
}
