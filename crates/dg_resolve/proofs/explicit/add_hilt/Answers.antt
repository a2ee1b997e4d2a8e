use Rattle.std.proofs.Common.{List, subst}
use Rattle.dg_decl.specs.declared.component.Bound.{Bound}
use Rattle.dg_resolve.specs.Explicit.{rows_of_bounds, bounds_at}
use Rattle.dg_resolve.specs.Tables.{Grows}
use Rattle.dg_resolve.proofs.GrowthLemmas.{grows_up}
use Rattle.dg_resolve.proofs.explicit.add_hilt.Goals as goal

pub loop-class-preserved : goal.loop-class-preserved
loop-class-preserved c =
    let class = c.loop-class.class in
    grows_up (λ x. rows_of_bounds x (bounds_at c.args.classes.now x)) class c.args.tables.now c.loop-class.tables c.add_bounds.new.tables
    c.loop-class.invariant
    (subst (λ (bs : List Bound). Grows (rows_of_bounds class bs) c.loop-class.tables c.add_bounds.new.tables)
    c.bounds_at.ensures.exact c.in_ok-add_bounds.ensures.exact)
