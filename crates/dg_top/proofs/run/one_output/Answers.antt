use Rattle.dg_top.proofs.OutputLemmas.{outputs_once}
use Rattle.dg_top.proofs.run.one_output.Goals as goal

pub returns : goal.returns
returns c = record { exact = outputs_once }
