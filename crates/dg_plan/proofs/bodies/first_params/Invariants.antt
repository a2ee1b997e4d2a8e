use Rattle.std.proofs.Common.{◌≡◌, map}
use Rattle.std.specs.List.{range_with_len}
use Rattle.dg_slots.specs.declared.body.NExpr.TheVariants as nexpr
use Rattle.dg_plan.proofs.bodies.first_params.Given as goal

abbrev pub invariant-loop-k : goal.invariant-loop-k
invariant-loop-k l = l.args ≡ map nexpr.Param (range_with_len 0 l.k)
