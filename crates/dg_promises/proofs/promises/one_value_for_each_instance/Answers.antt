use Rattle.dg_promises.proofs.ShareLemmas.{one_value_for_each_instance}
use Rattle.dg_promises.proofs.promises.one_value_for_each_instance.Goals as goal

pub returns : goal.returns
returns c = record { exact = one_value_for_each_instance }
