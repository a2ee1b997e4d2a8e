use Rattle.std.proofs.Common.{ap, length, arith}
use Rattle.dg_slots.proofs.ClassLemmas.{statements_counted}
use Rattle.dg_compdep.proofs.instances.Instances.of.Goals as goal

pub numbers_of-requires : goal.numbers_of-requires
numbers_of-requires c = record {
  few = omega (
    arith,
    ap length c.statements.ensures.exact,
    statements_counted c.args.names.now,
    c.statements.ensures.bounded.items,
  );
}
