use Rattle.std.proofs.Common.{arith}
use Rattle.std.proofs.lemmas.Grind.{common_steps}
use Rattle.std.proofs.lemmas.List.Elements.{filter_map-append}
use Rattle.dg_session.proofs.insts.arguments_for.Goals as goal

pub loop-bound-preserved : goal.loop-bound-preserved
loop-bound-preserved c = grind (arith, common_steps, filter_map-append)
