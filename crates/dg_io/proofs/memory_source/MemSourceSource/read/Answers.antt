use Rattle.std.proofs.Common.{◌+◌, arith}
use Rattle.std.proofs.lemmas.Grind.{common_steps}
use Rattle.dg_io.proofs.Front.{front_and_rest, nothing_behind}
use Rattle.dg_io.proofs.memory_source.MemSourceSource.read.Goals as goal

pub returns-clause-exact : goal.returns-clause-exact
returns-clause-exact c = (grind (arith, common_steps, front_and_rest), λ z p. nothing_behind (c.self.inside.start + c.min-count.result) c.self.inside.bytes.items (grind (arith, common_steps)))
