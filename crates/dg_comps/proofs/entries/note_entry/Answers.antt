use Rattle.std.proofs.Common.{sym, arith}
use Rattle.dg_comps.proofs.TableLemmas.{around_below}
use Rattle.dg_comps.proofs.entries.note_entry.Goals as goal

pub holds-repeated-requires : goal.holds-repeated-requires
holds-repeated-requires c =
    let small = around_below c.args.names.now c.args.statement.now c.in-Some-Some.class
    (sym c.in-Some-Some.ensures.exact) in
    record { class = omega (arith, small, c.requires.bounded.classes) }

pub add-requires : goal.add-requires
add-requires c =
    let small = around_below c.args.names.now c.args.statement.now c.in-Some-Some.class
    (sym c.in-Some-Some.ensures.exact) in
    record { class = omega (arith, small, c.requires.bounded.classes) }
