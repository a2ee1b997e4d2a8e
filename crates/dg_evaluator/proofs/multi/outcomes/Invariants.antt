use Rattle.std.proofs.Common.{◌≡◌, map, take}
use Rattle.dg_value.specs.declared.value.Kept.TheVariants as kept
use Rattle.dg_value.specs.declared.value.Value.TheVariants as value
use Rattle.dg_evaluator.proofs.multi.outcomes.Given as goal

abbrev pub invariant-loop-value : goal.invariant-loop-value
invariant-loop-value l =
    l.outcomes ≡ map (λ x. value.Outcome (kept.Value x)) (take l.value-index l.values)
