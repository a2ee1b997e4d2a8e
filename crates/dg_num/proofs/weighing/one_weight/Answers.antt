use Rattle.dg_num.proofs.Weighings.{one_weight}
use Rattle.dg_num.proofs.weighing.one_weight.Goals as goal

pub returns : goal.returns
returns c = record { exact = one_weight }
