use Rattle.dg_eval.proofs.GrowthLemmas.{more_depth_changes_nothing}
use Rattle.dg_eval.proofs.laws.more_depth_changes_nothing.Goals as goal

pub returns : goal.returns
returns c = record { exact = more_depth_changes_nothing }
