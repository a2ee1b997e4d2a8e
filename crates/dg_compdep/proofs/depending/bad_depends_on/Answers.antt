use Rattle.dg_compdep.proofs.DependencyLemmas.{around_small}
use Rattle.dg_compdep.proofs.depending.bad_depends_on.Goals as goal

pub has_parent-requires : goal.has_parent-requires
has_parent-requires c = record {
  class = around_small c.args.classes.now c.args.s.now c.in-Some.class
      (cc (c.in-Some.ensures.exact, c.names.ensures.exact));
}

pub leads_back-requires : goal.leads_back-requires
leads_back-requires c = record {
  class = around_small c.args.classes.now c.args.s.now c.in-Some.class
      (cc (c.in-Some.ensures.exact, c.names.ensures.exact));
}
