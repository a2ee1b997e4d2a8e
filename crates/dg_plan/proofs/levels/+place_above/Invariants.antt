use Rattle.dg_plan.proofs.levels.+place_above.Given as goal

abbrev pub decreases-place_above : goal.decreases-place_above
decreases-place_above l = l.steps
