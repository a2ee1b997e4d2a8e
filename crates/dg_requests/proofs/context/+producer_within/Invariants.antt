use Rattle.dg_requests.proofs.context.+producer_within.Given as goal

abbrev pub decreases-producer_within : goal.decreases-producer_within
decreases-producer_within l = l.steps
