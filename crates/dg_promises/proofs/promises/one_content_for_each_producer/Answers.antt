use Rattle.dg_promises.proofs.ShareLemmas.{one_content_for_each_producer}
use Rattle.dg_promises.proofs.promises.one_content_for_each_producer.Goals as goal

pub returns : goal.returns
returns c = record { exact = one_content_for_each_producer }
