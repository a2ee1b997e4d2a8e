use Rattle.std.proofs.Common.{List, ap}
use Rattle.dg_value.specs.declared.place.PlaceStep.{PlaceStep}
use Rattle.dg_report.proofs.PackedLemmas.{steps_packed, packed_right}
use Rattle.dg_report.proofs.packed.Packed.of_parts.Goals as goal

pub invariant_of-result : goal.invariant_of-result
invariant_of-result c =
    packed_right c.in_ok-codes.codes.items c.in_ok-numbers.numbers.items c.args.steps.now
    c.in_ok-codes.ensures.exact c.in_ok-numbers.ensures.exact

pub returns : goal.returns
returns c = record {
  exact = ap (λ (steps : List PlaceStep). record { root = c.args.root; steps = steps })
      (steps_packed c.in_ok-codes.codes.items c.in_ok-numbers.numbers.items c.args.steps.now
      c.in_ok-codes.ensures.exact c.in_ok-numbers.ensures.exact);
}
