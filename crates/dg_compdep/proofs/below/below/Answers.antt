use Rattle.std.proofs.Common.{ap, length, arith}
use Rattle.dg_slots.proofs.ClassLemmas.{classes_counted}
use Rattle.dg_compdep.proofs.BelowLemmas.{tell_more, all_told}
use Rattle.dg_compdep.proofs.below.below.Goals as goal

pub overflow_cast-from-end : goal.overflow_cast-from-end
overflow_cast-from-end c =
    omega (
      arith,
      ap length c.requires.classes,
      classes_counted c.args.d.now,
      c.requires.bounded.classes,
    )

pub row_below-requires-clause-from : goal.row_below-requires-clause-from
row_below-requires-clause-from c =
    omega (arith, ap length c.requires.classes, classes_counted c.args.d.now)

pub loop-from-preserved : goal.loop-from-preserved
loop-from-preserved c =
    tell_more c.args.d.now c.loop-from.from c.loop-from.rows.items c.push.new.self.items
    c.in_ok-row_below.field-0
    c.loop-from.invariant c.in_ok-push.ensures.items c.in_ok-row_below.ensures.exact

pub returns : goal.returns
returns c = record {
  exact = all_told c.args.d.now c.loop-from.from c.loop-from.rows.items
      (omega (arith, ap length c.requires.classes, classes_counted c.args.d.now))
      c.loop-from.invariant;
}
