use Rattle.dg_resolve.proofs.chains.+push_ancestors.Given as goal

abbrev pub decreases-push_ancestors : goal.decreases-push_ancestors
decreases-push_ancestors l = l.steps
