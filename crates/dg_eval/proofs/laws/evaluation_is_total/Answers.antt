use Rattle.dg_eval.proofs.LawLemmas.{evaluation_is_total}
use Rattle.dg_eval.proofs.laws.evaluation_is_total.Goals as goal

pub returns : goal.returns
returns c = record { exact = evaluation_is_total }
