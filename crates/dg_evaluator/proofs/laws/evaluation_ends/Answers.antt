use Rattle.dg_evaluator.proofs.EndLemmas.{evaluation_ends}
use Rattle.dg_evaluator.proofs.laws.evaluation_ends.Goals as goal

pub returns : goal.returns
returns c = record { exact = evaluation_ends }
