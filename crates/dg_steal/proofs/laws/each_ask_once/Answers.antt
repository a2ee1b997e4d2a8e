use Rattle.dg_steal.proofs.Counts.{each_once}
use Rattle.dg_steal.proofs.laws.each_ask_once.Goals as goal

pub returns : goal.returns
returns c = each_once
