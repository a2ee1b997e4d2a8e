use Rattle.dg_requests.proofs.layers.+look.Given as goal

abbrev pub decreases-look : goal.decreases-look
decreases-look g l = l.times
