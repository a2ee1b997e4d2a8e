use Rattle.std.proofs.Common.{ap, length, arith}
use Rattle.dg_slots.proofs.ClassLemmas.{statements_counted}
use Rattle.dg_plan.proofs.classes.Numbering.of.Goals as goal

pub classes_of-requires : goal.classes_of-requires
classes_of-requires c = record {
  few = omega (
    arith,
    ap length c.statements.ensures.exact,
    statements_counted c.args.names.now,
    c.statements.ensures.bounded.items,
  );
}
