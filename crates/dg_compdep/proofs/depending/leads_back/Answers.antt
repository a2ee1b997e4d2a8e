use Rattle.dg_decl.proofs.ComponentLemmas.{class_below}
use Rattle.dg_compdep.proofs.depending.leads_back.Goals as goal

pub is_below-requires-clause-from : goal.is_below-requires-clause-from
is_below-requires-clause-from c =
    class_below c.args.classes.now c.as_slice.result.now c.in-Some.named
    (cc (c.in-Some.ensures.exact, c.names.ensures.exact))
