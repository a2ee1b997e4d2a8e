use Rattle.std.proofs.Common.{◌+◌, get_or, refl, sym, subst, arith}
use Rattle.std.specs.Prelude.{false}
use Rattle.dg_walks.proofs.ProductionLemmas.{Marked, marked_more, all_marked}
use Rattle.dg_walks.proofs.producing.marked.Goals as goal

pub loop-number-preserved : goal.loop-number-preserved
loop-number-preserved c =
    subst (Marked c.args.marks.now (c.loop-number.number + 1)) (sym c.in_ok-push_if.ensures.exact)
    (marked_more c.args.marks.now c.loop-number.number c.loop-number.found.items
    (get_or c.args.marks.now c.loop-number.number false) refl c.loop-number.invariant)

pub returns : goal.returns
returns c = record {
  exact = all_marked c.args.marks.now c.loop-number.number c.loop-number.found.items
      (omega arith) c.loop-number.invariant;
}
