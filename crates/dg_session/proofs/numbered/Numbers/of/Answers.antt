use Rattle.std.proofs.Common.{ap, length, arith}
use Rattle.dg_slots.proofs.ClassLemmas.{statements_counted}
use Rattle.dg_session.proofs.numbered.Numbers.of.Goals as goal

pub class_numbers-requires : goal.class_numbers-requires
class_numbers-requires c = record {
  few = omega (
    arith,
    ap length c.statements.ensures.exact,
    statements_counted c.args.names.now,
    c.statements.ensures.bounded.items,
  );
}
