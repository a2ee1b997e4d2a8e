use Rattle.std.proofs.Common.{◌≡◌, ◌+◌, ◌*◌, max}
use Rattle.dg_slots.proofs.body.NExpr.TheLaws as of_expr
use Rattle.dg_slots.proofs.body.NCond.TheLaws as of_cond
use Rattle.dg_bodies.specs.Sites.{seen}
use Rattle.dg_bodies.proofs.RunLists.{Passed}
use Rattle.dg_bodies.proofs.RowLemmas.{AtRow, runs}
use Rattle.dg_bodies.proofs.expressions.+parts.Given as goal

-- the depth of what is evaluated, and how many calls more there are at that depth
abbrev pub decreases-expression : goal.decreases-expression
decreases-expression g l = 4 * of_expr.the_size l.e.now + 0

abbrev pub decreases-condition : goal.decreases-condition
decreases-condition g l = 4 * of_cond.the_size l.cond.now + 0

abbrev pub decreases-looked : goal.decreases-looked
decreases-looked g l = 4 * of_expr.the_size l.e.now + 1

abbrev pub decreases-both : goal.decreases-both
decreases-both g l = 4 * max (of_expr.the_size l.a.now) (of_expr.the_size l.b.now) + 2

abbrev pub decreases-sum : goal.decreases-sum
decreases-sum g l = 4 * max (of_expr.the_size l.a.now) (of_expr.the_size l.b.now) + 3

abbrev pub decreases-equal : goal.decreases-equal
decreases-equal g l = 4 * max (of_expr.the_size l.a.now) (of_expr.the_size l.b.now) + 3

abbrev pub decreases-less : goal.decreases-less
decreases-less g l = 4 * max (of_expr.the_size l.a.now) (of_expr.the_size l.b.now) + 3

abbrev pub decreases-field_of : goal.decreases-field_of
decreases-field_of g l = 4 * of_expr.the_size l.of.now + 2

abbrev pub decreases-arguments : goal.decreases-arguments
decreases-arguments g l = 4 * goal.size-arguments g l + 1

abbrev pub decreases-object : goal.decreases-object
decreases-object g l = 4 * goal.size-object g l + 2

abbrev pub decreases-called : goal.decreases-called
decreases-called g l = 4 * goal.size-called g l + 2

abbrev pub decreases-chosen : goal.decreases-chosen
decreases-chosen g l =
    4 * max (of_cond.the_size l.cond.now)
    (max (of_expr.the_size l.yes.now) (of_expr.the_size l.no.now)) + 1

abbrev pub decreases-or_else : goal.decreases-or_else
decreases-or_else g l = 4 * of_expr.the_size l.other.now + 1

abbrev pub invariant-arguments-loop-arg : goal.invariant-arguments-loop-arg
invariant-arguments-loop-arg g l = record {
  passed : Passed g.S.InScope.scope
      (runs l.args (seen g.S.InScope.scope l.fn.depth l.site) l.fn.at) l.arg-index
      (g.C.Cells.asked l.fn.cells) (g.C.Cells.asked l.cells) l.values;
  row : AtRow (seen g.S.InScope.scope l.fn.depth l.site) l.args l.fn.at l.arg-index l.at;
  same : g.C.Cells.scope l.cells ≡ g.S.InScope.scope;
}
