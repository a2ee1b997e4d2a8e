use Rattle.std.proofs.Common.{arith}
use Rattle.std.proofs.lemmas.Grind.{common_steps}
use Rattle.std.proofs.lemmas.List.Elements.{filter_map-append}
use Rattle.dg_deps.proofs.requests.of_each_param.Goals as goal

pub loop-param-preserved : goal.loop-param-preserved
loop-param-preserved c = grind (arith, common_steps, filter_map-append)
